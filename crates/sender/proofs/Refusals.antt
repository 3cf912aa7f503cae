-- What the refusals of document 01's table promise, over the definitions that the entry points' contracts cite: a refused event leaves
-- everything as it was (`refused_same`), the number is that of the first row whose test holds (`rows_exact`), a send for which 01 names no
-- refusal is accepted (`permitted_new`, `permitted_resend`), request M-100 refuses what was refused and tells which field (`ack_apart` and
-- its like), and a number fixes the outcome (`one_outcome`), with the EV that of a path choice (`one_route`, `one_path`).
-- Assumes nothing.
use mathlib.Core.Path.{◌≡◌, refl, sym, ap, ap₂, ◌∙◌}
use mathlib.Core.Bool.{Bool, true, false, not, ◌&&◌, ◌||◌, and-true, true≢false}
use mathlib.Core.Logic.{◌⊎◌, inl, inr, ⊎_elim}
use mathlib.Core.List.{List, [], ◌∷◌, ◌++◌, append-nil}
use Prim.Native.Nat.{ℕ}
use lib.Dec.{eqb}
use native.Mathlib.Omega.{arith}
use borrow.Author.Tests.{le-ltb, lt-leb, eq-eqb, eqb-false, not-true}
use Rattle.std.specs.Prelude.{Result}
use Rattle.std.specs.Result.{result_unwrap_or}
use Rattle.rules.specs.Branch.{if_so, eq_yes, so_yes}
use Rattle.rules.specs.Test.{inside, both, whole, inside_yes}
use Rattle.rules.specs.Rows.{Row, row, first_of, first_later}
use Rattle.rules.specs.Verdict.{Verdict, number_of}
use Rattle.rules.specs.declared.verdict.Refusal.{Refusal}
use Rattle.rules.proofs.Verdicts.{number_tells, outcome_tells}
use Rattle.window.specs.declared.Settings.{Settings}
use Rattle.ledger.specs.Packets.{is_marked}
use Rattle.ledger.specs.Bounds.{size_least}
use Rattle.ledger.specs.Ring.{Ring, cap_of, packet_of}
use Rattle.ledger.specs.Memory.{Memory}
use Rattle.ledger.specs.Rows.{send_rows}
use Rattle.ledger.specs.declared.Flow.{Flow}
use Rattle.ledger.proofs.Judging.{new_0, resend_0}
use Rattle.sender.specs.Statements.{silent, First, Exact, Apart, plain_new_data, plain_ack, plain_nack, plain_loss, Permitted}
use Rattle.sender.specs.Statements.{PermittedNew, PermittedResend}
use Rattle.window.specs.Limits.{time_end}
use Rattle.sender.specs.World.{World, world, Answered, answered, Routing, routed, ring_of, view_of, world_of}
use Rattle.sender.specs.Bounds.{room_after}
use Rattle.sender.specs.Rows.{with_sound, time_row, new_data_rows, send_all_rows, ack_all_rows, nack_all_rows, loss_all_rows, path_rows, set_up_rows}
use Rattle.sender.specs.Rows.{new_data_fields, send_fields, ack_fields, nack_fields, loss_fields}
use Rattle.sender.specs.Steps.{send_step}
use Rattle.sender.specs.Start.{no_settings, fresh_state, zeros, clear_memory, on_set_up}
use Rattle.sender.specs.Events.{decided, on_new_data, on_send, on_ack, on_nack, on_loss, on_path}
use Rattle.sender.specs.declared.Controller.{Controller}
use Rattle.sender.specs.declared.Send.{Send}
use Rattle.sender.specs.declared.Ack.{Ack}
use Rattle.sender.specs.declared.Nack.{Nack}
use Rattle.sender.specs.declared.Loss.{Loss}
use Rattle.ledger.proofs.Shows.{shown_cap}
use Rattle.sender.proofs.Rowing.{numbered, none_silent, first_past, send_numbered, send_all_numbered, rows_new, rows_resend}
use Rattle.sender.proofs.Rowing.{room_row, answer, taken, untaken, answer_number, answer_other, decided_yes}

-- ---- "the state as given .., and lent memory untouched"

-- whatever an event would have done, a number other than 0 leaves the world as it was
pub refused_same : (n : ℕ) (w after : World) → ((decided n w after).number ≡ 0 → ⊥) → (decided n w after).after ≡ w
unfolding decided
refused_same n w after h = ap (λ (x : Answered). x.after) (answer_other (λ (x : Answered). x.number) n (answer 0 after) (answer n w)
    refl h)

module _ (time : ℕ) (w : World) where
  pub new_data_same : (bytes : ℕ) → ((on_new_data time bytes w).number ≡ 0 → ⊥) → (on_new_data time bytes w).after ≡ w
  unfolding on_new_data
  new_data_same bytes = refused_same _ w _

  pub send_same : (a : Send) → ((on_send time a w).number ≡ 0 → ⊥) → (on_send time a w).after ≡ w
  unfolding on_send
  send_same a = refused_same _ w _

  pub ack_same : (a : Ack) → ((on_ack time a w).number ≡ 0 → ⊥) → (on_ack time a w).after ≡ w
  unfolding on_ack
  ack_same a = refused_same _ w _

  pub nack_same : (a : Nack) → ((on_nack time a w).number ≡ 0 → ⊥) → (on_nack time a w).after ≡ w
  unfolding on_nack
  nack_same a = refused_same _ w _

  pub loss_same : (a : Loss) → ((on_loss time a w).number ≡ 0 → ⊥) → (on_loss time a w).after ≡ w
  unfolding on_loss
  loss_same a = refused_same _ w _

  -- and a refused path choice names the EV 0
  pub path_same : ((on_path time w).number ≡ 0 → ⊥) → ((on_path time w).after ≡ w) × ((on_path time w).ev ≡ 0)
  unfolding on_path
  path_same h =
      let n = first_of (with_sound w (path_rows time w.state)) in
      let o = answer_other (λ (x : Routing). x.number) n (taken time w) (untaken n w) refl h in
      (ap (λ (x : Routing). x.after) o, ap (λ (x : Routing). x.ev) o)

-- "a refused setting up: a state of zeros"
abbrev cleared : Settings → Memory → List ℕ → Answered
cleared g m times = answered 0 (fresh_state g) (clear_memory m) (zeros times)

abbrev blank : ℕ → Memory → List ℕ → Answered
blank n m times = answered n (fresh_state no_settings) m times

pub set_up_same : (g : Settings) (m : Memory) (times : List ℕ) → ((on_set_up g m times).number ≡ 0 → ⊥)
    → (on_set_up g m times).after ≡ world (fresh_state no_settings) m times
unfolding on_set_up
set_up_same g m times h =
    let n = first_of (set_up_rows g m times) in
    ap (λ (x : Answered). x.after) (answer_other (λ (x : Answered). x.number) n (cleared g m times) (blank n m times) refl h)

-- ---- "Of several that apply, the first in the order below is given."

-- the first row that applies
found : (rows : List Row) (n : ℕ) → (n ≡ 0 → ⊥) → first_of rows ≡ n → First n rows
unfolding first_of if_so silent
found [] n h e = absurd (h (sym e))
found (x ∷ xs) n h e = go x.test refl e (found xs n h)
  where
    go : (t : Bool) → x.test ≡ t → if_so t x.number (first_of xs) ≡ n → (first_of xs ≡ n → First n xs) → First n (x ∷ xs)
    go true q f later = record {
      before = [];
      here = x;
      after = xs;
      order = refl;
      number_is = f;
      applies = q;
      none_before = refl;
    }
    go false q f later =
        let l = later f in
        record {
          before = x ∷ l.before;
          here = l.here;
          after = l.after;
          order = ap (λ (ys : List Row). x ∷ ys) l.order;
          number_is = l.number_is;
          applies = l.applies;
          none_before = whole (ap not q) l.none_before;
        }

first_given : (rows : List Row) (n : ℕ) → First n rows → first_of rows ≡ n
unfolding first_of if_so
first_given rows n f =
    ap first_of f.order ∙ first_past f.before (f.here ∷ f.after) f.none_before ∙ rw f.applies f.number_is

silent_none : (rows : List Row) → silent rows ≡ true → first_of rows ≡ 0
unfolding first_of
silent_none rows e = ap first_of (sym (append-nil rows)) ∙ first_past rows [] e

-- of any rows whose numbers are not 0
pub rows_exact : (rows : List Row) → numbered rows ≡ true → Exact rows (first_of rows)
rows_exact rows e =
    record { refused = found rows; first = first_given rows; accepted = none_silent rows e; none = silent_none rows }

decided_number : (n : ℕ) (w after : World) → n ≡ (decided n w after).number
unfolding decided
decided_number n w after = answer_number (λ (x : Answered). x.number) n (answer 0 after) (answer n w) refl refl

decided_exact : (rows : List Row) (w after : World) → numbered rows ≡ true → Exact rows (decided (first_of rows) w after).number
decided_exact rows w after e = rw (← decided_number (first_of rows) w after) (rows_exact rows e)

-- of each event: the rows that its contract cites
module _ (time : ℕ) (w : World) where
  pub new_data_exact : (bytes : ℕ) → Exact (with_sound w (new_data_rows time bytes w.state)) (on_new_data time bytes w).number
  unfolding on_new_data numbered inside
  new_data_exact bytes = decided_exact _ w _ refl

  pub send_exact : (a : Send) → Exact (with_sound w (send_all_rows time a w.state (ring_of w))) (on_send time a w).number
  unfolding on_send numbered inside
  send_exact a = decided_exact _ w _ (send_all_numbered time a w.state (ring_of w))

  pub ack_exact : (a : Ack) → Exact (with_sound w (ack_all_rows time a w.state)) (on_ack time a w).number
  unfolding on_ack numbered inside
  ack_exact a = decided_exact _ w _ refl

  pub nack_exact : (a : Nack) → Exact (with_sound w (nack_all_rows time a w.state (ring_of w))) (on_nack time a w).number
  unfolding on_nack numbered inside
  nack_exact a = decided_exact _ w _ refl

  pub loss_exact : (a : Loss) → Exact (with_sound w (loss_all_rows time a w.state (ring_of w))) (on_loss time a w).number
  unfolding on_loss numbered inside
  loss_exact a = decided_exact _ w _ refl

  pub path_exact : Exact (with_sound w (path_rows time w.state)) (on_path time w).number
  unfolding on_path numbered inside
  path_exact =
      let n = first_of (with_sound w (path_rows time w.state)) in
      rw (← answer_number (λ (x : Routing). x.number) n (taken time w) (untaken n w) refl refl)
      (rows_exact (with_sound w (path_rows time w.state)) refl)

-- and of setting up
pub set_up_exact : (g : Settings) (m : Memory) (times : List ℕ) → Exact (set_up_rows g m times) (on_set_up g m times).number
unfolding on_set_up numbered inside
set_up_exact g m times =
    let n = first_of (set_up_rows g m times) in
    rw (← answer_number (λ (x : Answered). x.number) n (cleared g m times) (blank n m times) refl refl)
    (rows_exact (set_up_rows g m times) refl)

-- ---- request M-100: what is refused at all stays, and the fields tell what was 4

-- no row has the number 4
unfoldable fourless : List Row → Bool
fourless [] = true
fourless (x ∷ xs) = not (eqb x.number 4) && fourless xs

not_four : (xs : List Row) → fourless xs ≡ true → first_of xs ≡ 4 → ⊥
unfolding first_of fourless if_so
not_four [] e f = omega (arith, f)
not_four (x ∷ xs) e f =
    let p = both (not (eqb x.number 4)) (fourless xs) e in
    go x.test f (not_four xs p.1) (eqb-false x.number 4 (not-true (eqb x.number 4) p.0))
  where
    go : (t : Bool) → if_so t x.number (first_of xs) ≡ 4 → (first_of xs ≡ 4 → ⊥) → (x.number ≡ 4 → ⊥) → ⊥
    go true f later here = here f
    go false f later here = later f

-- rows of which a test holds give the number, whatever comes behind them
first_before : (xs ys : List Row) → silent xs ≡ false → first_of (xs ++ ys) ≡ first_of xs
unfolding first_of silent if_so
first_before [] ys e = absurd (true≢false e)
first_before (x ∷ xs) ys e = go x.test e (first_before xs ys)
  where
    go : (t : Bool) → (not t && silent xs) ≡ false → (silent xs ≡ false → first_of (xs ++ ys) ≡ first_of xs)
        → if_so t x.number (first_of (xs ++ ys)) ≡ if_so t x.number (first_of xs)
    go true e later = refl
    go false e later = later e

silent_append : (xs ys : List Row) → silent (xs ++ ys) ≡ (silent xs && silent ys)
unfolding silent
silent_append [] ys = refl
silent_append (x ∷ xs) ys = go x.test (silent_append xs ys)
  where
    go : (t : Bool) → silent (xs ++ ys) ≡ (silent xs && silent ys) → (not t && silent (xs ++ ys)) ≡ ((not t && silent xs) && silent ys)
    go true e = refl
    go false e = e

-- Of any rows: one row 4, whose test holds exactly where one of the fields' does, or the fields in its place
module _ (before fields rest : List Row) (t : Bool) (any : silent fields ≡ not t) (b : fourless before ≡ true)
    (r : fourless rest ≡ true) where
  abbrev old : List Row
  old = before ++ (row t 4 ∷ rest)

  abbrev new : List Row
  new = before ++ (fields ++ rest)

  same_silent : silent new ≡ silent old
  unfolding silent
  same_silent =
      silent_append before (fields ++ rest)
      ∙ ap (λ (s : Bool). silent before && s) (silent_append fields rest ∙ ap (λ (s : Bool). s && silent rest) any)
      ∙ sym (silent_append before (row t 4 ∷ rest))

  -- the number is another than 4 and as it was, or it was 4 and is the fields'
  either : ((first_of new ≡ first_of old) × (first_of old ≡ 4 → ⊥)) ⊎ ((first_of old ≡ 4) × (first_of new ≡ first_of fields))
  unfolding first_of if_so
  either = go (silent before) t refl refl
    where
      go : (s u : Bool) → silent before ≡ s → t ≡ u
          → ((first_of new ≡ first_of old) × (first_of old ≡ 4 → ⊥)) ⊎ ((first_of old ≡ 4) × (first_of new ≡ first_of fields))
      go false u e f =
          let o = first_before before (row t 4 ∷ rest) e in
          inl (first_before before (fields ++ rest) e ∙ sym o, λ z. not_four before b (sym o ∙ z))
      go true false e f =
          let o : first_of old ≡ first_of rest = first_past before (row t 4 ∷ rest) e ∙ rw f in
          inl (first_past before (fields ++ rest) e ∙ first_past fields rest (any ∙ ap not f) ∙ sym o, λ z. not_four rest r (sym o ∙ z))
      go true true e f =
          inr (
            first_past before (row t 4 ∷ rest) e ∙ rw f,
            first_past before (fields ++ rest) e
                ∙ first_before fields rest (any ∙ ap not f),
          )

  decided_apart : (w after : World) → numbered new ≡ true → numbered fields ≡ true
      → Apart old fields (decided (first_of new) w after).number
  decided_apart w after n f =
      rw (← decided_number (first_of new) w after)
      (record {
        same_refused = (λ e. sym same_silent ∙ none_silent new n e, λ e. silent_none new (same_silent ∙ e));
        same_number = λ h. ⊎_elim (λ p. p.0) (λ q. absurd (h q.0)) either;
        by_field = λ e. ⊎_elim (λ p. absurd (p.1 e)) (λ q. rw q.1 (rows_exact fields f)) either;
      })

-- one field, two and three: 01's test is that one of them applies
any_one : (a : Bool) (i : ℕ) → silent (row a i ∷ []) ≡ not a
unfolding silent
any_one a i = and-true (not a)

any_two : (a b : Bool) (i j : ℕ) → silent (row a i ∷ row b j ∷ []) ≡ not (a || b)
unfolding silent
any_two true b i j = refl
any_two false b i j = any_one b j

any_three : (a b g : Bool) (i j k : ℕ) → silent (row a i ∷ row b j ∷ row g k ∷ []) ≡ not (a || b || g)
unfolding silent
any_three true b g i j k = refl
any_three false b g i j k = any_two b g j k

send_fourless : (f : Flow) (r : Ring) (psn size : ℕ) (resend : Bool) (xs : List Row) → fourless xs ≡ true
    → fourless (send_rows f r psn size resend ++ xs) ≡ true
unfolding fourless
send_fourless f r psn size true xs e = e
send_fourless f r psn size false xs e = e

module _ (time : ℕ) (w : World) where
  -- number 2 and the time stand before the fields
  abbrev ahead : List Row
  ahead = with_sound w (time_row time w.state ∷ [])

  pub new_data_apart : (bytes : ℕ)
      → Apart (with_sound w (plain_new_data time bytes w.state)) (new_data_fields bytes w.state) (on_new_data time bytes w).number
  unfolding on_new_data fourless numbered inside
  new_data_apart bytes = decided_apart ahead (new_data_fields bytes w.state) [] _ (any_one _ 20) refl refl w _ refl refl

  pub send_apart : (a : Send)
      → Apart (with_sound w (send_all_rows time a w.state (ring_of w))) (send_fields a w.state) (on_send time a w).number
  unfolding on_send fourless numbered inside
  send_apart a =
      decided_apart ahead (send_fields a w.state) _ _ (any_one _ 4) refl
      (send_fourless w.state.flow (ring_of w) a.psn a.size a.resend _ refl) w _
      (send_all_numbered time a w.state (ring_of w)) refl

  pub ack_apart : (a : Ack) → Apart (with_sound w (plain_ack time a w.state)) (ack_fields a w.state) (on_ack time a w).number
  unfolding on_ack fourless numbered inside
  ack_apart a = decided_apart ahead (ack_fields a w.state) _ _ (any_three _ _ _ 21 23 24) refl refl w _ refl refl

  pub nack_apart : (a : Nack)
      → Apart (with_sound w (plain_nack time a w.state (ring_of w))) (nack_fields a w.state) (on_nack time a w).number
  unfolding on_nack fourless numbered inside
  nack_apart a = decided_apart ahead (nack_fields a w.state) _ _ (any_two _ _ 22 23) refl refl w _ refl refl

  pub loss_apart : (a : Loss)
      → Apart (with_sound w (plain_loss time a w.state (ring_of w))) (loss_fields a w.state) (on_loss time a w).number
  unfolding on_loss fourless numbered inside
  loss_apart a = decided_apart ahead (loss_fields a w.state) _ _ (any_one _ 23) refl refl w _ refl refl

-- ---- a permitted send is accepted

-- no row applies to a permitted send
permitted_none : (time : ℕ) (a : Send) (w : World) → Permitted time a w
    → first_of (send_rows w.state.flow (ring_of w) a.psn a.size a.resend) ≡ 0
    → 0 ≡ first_of (with_sound w (send_all_rows time a w.state (ring_of w)))
unfolding room_after
permitted_none time a w p e =
    first_later 0 2 _ _ (ap not p.holds_together)
    (first_later 0 3 _ _ (ap₂ ◌||◌ (le-ltb time w.state.clock p.not_before) (lt-leb time_end time p.in_time))
    (first_later 0 4 _ _ (ap not (inside_yes size_least a.size w.state.settings.mtu p.size_least_lem p.size_most))
    (eq_yes _ 0 0 _ _ e (so_yes _ 0 0 6 p.room refl)
    ∙ room_row w.state (send_rows w.state.flow (ring_of w) a.psn a.size a.resend)
    (send_numbered w.state.flow (ring_of w) a.psn a.size a.resend))))

permitted_send : (time : ℕ) (a : Send) (w : World) → Permitted time a w
    → first_of (send_rows w.state.flow (ring_of w) a.psn a.size a.resend) ≡ 0
    → on_send time a w ≡ answer 0 (world_of (send_step time a (view_of w)))
unfolding on_send
permitted_send time a w p e =
    sym (decided_yes (first_of (with_sound w (send_all_rows time a w.state (ring_of w)))) w
    (world_of (send_step time a (view_of w)))
    (sym (permitted_none time a w p e)))

pub permitted_new : (time : ℕ) (a : Send) (w : World) → PermittedNew time a w
    → on_send time a w ≡ answer 0 (world_of (send_step time a (view_of w)))
permitted_new time a w p =
    let f = w.state.flow in
    permitted_send time a w p.permitted
    (sym (new_0 f (cap_of (ring_of w)) a.psn a.size p.psn_next p.in_backlog
    (λ z. p.slot_free (z ∙ shown_cap f.low f.next w.slots))
    ∙ rows_new f (ring_of w) a.psn a.size a.resend p.is_new))

pub permitted_resend : (time : ℕ) (a : Send) (w : World) → PermittedResend time a w
    → on_send time a w ≡ answer 0 (world_of (send_step time a (view_of w)))
unfolding is_marked
permitted_resend time a w p =
    let f = w.state.flow in
    let x = packet_of f (ring_of w) a.psn in
    permitted_send time a w p.permitted
    (sym (resend_0 f (ring_of w) a.psn a.size x refl
    (ap₂ (λ m s. not m || not s) p.psn_marked (eq-eqb a.size x.size p.same_size))
    ∙ rows_resend f (ring_of w) a.psn a.size a.resend p.is_resend))

-- ---- a number is one outcome's

-- no two outcomes satisfy one contract: whatever the right side, it fixes verdict, state, memory and times
pub one_outcome : (x : Answered) (v u : Verdict) (c d : Controller) (l m : Memory) (t k : List ℕ)
    → answered (number_of v) c l t ≡ x → answered (number_of u) d m k ≡ x → (v ≡ u) × (world c l t ≡ world d m k)
one_outcome x v u c d l m t k e f =
    let g = e ∙ sym f in
    (number_tells v u (ap (λ (y : Answered). y.number) g), ap (λ (y : Answered). y.after) g)

-- .. and of a path choice the EV too
pub one_route : (x : Routing) (v u : Verdict) (i j : ℕ) (c d : Controller) (l m : Memory) (t k : List ℕ)
    → routed (number_of v) i c l t ≡ x → routed (number_of u) j d m k ≡ x → (v ≡ u) × (i ≡ j) × (world c l t ≡ world d m k)
one_route x v u i j c d l m t k e f =
    let g = e ∙ sym f in
    (number_tells v u (ap (λ (y : Routing). y.number) g), ap (λ (y : Routing). y.ev) g, ap (λ (y : Routing). y.after) g)

-- .. which is told by the outcome that `path` answers, 0 where it is refused
pub one_path : (x : Routing) (v u : Result ℕ Refusal) (c d : Controller) (l m : Memory) (t k : List ℕ)
    → routed (number_of v) (result_unwrap_or v 0) c l t ≡ x → routed (number_of u) (result_unwrap_or u 0) d m k ≡ x
    → (v ≡ u) × (world c l t ≡ world d m k)
one_path x v u c d l m t k e f =
    let g = e ∙ sym f in (
      outcome_tells (λ (o : Result ℕ Refusal). result_unwrap_or o 0) (λ i j same. same) v u
          (ap (λ (y : Routing). y.number) g) (ap (λ (y : Routing). y.ev) g),
      ap (λ (y : Routing). y.after) g,
    )
