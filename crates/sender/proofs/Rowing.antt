-- Laws of rows of refusals: where no row applies, rows after rows, the numbers that rows give, the rows of each event as its judge walks
-- them; and what an event answers by their number.
-- Assumes nothing.
use mathlib.Core.Path.{◌≡◌, refl, sym, ap, ap₂, ◌∙◌}
use mathlib.Core.Bool.{Bool, true, false, not, ◌&&◌}
use mathlib.Core.List.{List, [], ◌∷◌, ◌++◌}
use mathlib.Core.Logic.{by_cases}
use mathlib.Core.Option.{Option, none, some}
use Prim.Native.Nat.{ℕ, ◌+◌, ◌-◌, ◌≤◌}
use native.Mathlib.Decide.{dec_lt}
use native.Mathlib.Omega.{arith}
use lib.Dec.{ltb}
use borrow.Author.Tests.{ltb-true, ltb-false, lt-ltb, le-ltb, not-true}
use Rattle.rules.specs.Branch.{if_so, if_eq, eq_yes, eq_no, eq_both}
use Rattle.rules.specs.Test.{inside, both, whole, inside_tells}
use Rattle.rules.specs.Rows.{Row, row, first_of, first_here, first_later}
use Rattle.window.specs.declared.Sampling.{Sampling}
use Rattle.ledger.specs.Ring.{Ring, cap_of}
use Rattle.ledger.specs.Memory.{Memory}
use Rattle.ledger.specs.Rows.{send_rows, new_rows, resend_rows}
use Rattle.ledger.specs.declared.Flow.{Flow}
use Rattle.sender.specs.Statements.{silent}
use Rattle.sender.specs.World.{World, world, Answered, answered, Routing, view_of, world_of}
use Rattle.sender.specs.Named.{has_room}
use Rattle.sender.specs.Bounds.{room_after}
use Rattle.sender.specs.Sound.{sound}
use Rattle.sender.specs.Rows.{with_sound, send_all_rows, path_rows}
use Rattle.sender.specs.Steps.{ack_sampling, nack_sampling, route_of, path_step}
use Rattle.sender.specs.Events.{decided, says, on_new_data, on_send, on_ack, ack_says, on_nack, nack_says, on_loss, on_path}
use Rattle.sender.specs.Events.{past_new_data, past_send, past_ack, past_ack_says, past_nack, past_nack_says, past_loss, past_path}
use Rattle.sender.specs.declared.Controller.{Controller}
use Rattle.sender.specs.declared.Send.{Send}
use Rattle.sender.specs.declared.Ack.{Ack}
use Rattle.sender.specs.declared.Nack.{Nack}
use Rattle.sender.specs.declared.Loss.{Loss}
use Rattle.std.specs.Prelude.{Ok}
use Rattle.rules.specs.Verdict.{number_of}

-- an accepted event has number 0
pub accepted_number : {T : Type 0} (x : T) → number_of {T = T} (Ok x) ≡ 0
unfolding number_of
accepted_number x = refl

-- ---- any rows

-- every row's number is one of the table's
unfoldable pub numbered : List Row → Bool
numbered [] = true
numbered (x ∷ xs) = inside 1 x.number 24 && numbered xs

-- a list's number is none, or one of the table's
first_table : (xs : List Row) → numbered xs ≡ true → (first_of xs ≡ 0 → ⊥) → inside 1 (first_of xs) 24 ≡ true
unfolding first_of numbered if_so
first_table [] e h = absurd (h refl)
first_table (x ∷ xs) e h =
    let p = both (inside 1 x.number 24) (numbered xs) e in
    go x.test p.0 (first_table xs p.1) h
  where
    go : (t : Bool) → inside 1 x.number 24 ≡ true → ((first_of xs ≡ 0 → ⊥) → inside 1 (first_of xs) 24 ≡ true)
        → (if_so t x.number (first_of xs) ≡ 0 → ⊥) → inside 1 (if_so t x.number (first_of xs)) 24 ≡ true
    go true here later h = here
    go false here later h = later h

-- at most the table's last
pub first_most : (xs : List Row) → numbered xs ≡ true → first_of xs ≤ 24
first_most xs e =
    by_cases (dec_lt 0 (first_of xs)) (λ h. (inside_tells 1 (first_of xs) 24 (first_table xs e (λ z. omega (arith, h, z)))).1)
    (λ h. omega (arith, h))

-- rows of which no test holds are passed
pub first_past : (xs ys : List Row) → silent xs ≡ true → first_of (xs ++ ys) ≡ first_of ys
unfolding first_of silent if_so
first_past [] ys e = refl
first_past (x ∷ xs) ys e =
    let p = both (not x.test) (silent xs) e in
    rw (not-true x.test p.0) (first_past xs ys p.1)

-- where none applies, no test holds
pub none_silent : (xs : List Row) → numbered xs ≡ true → first_of xs ≡ 0 → silent xs ≡ true
unfolding first_of numbered silent if_so
none_silent [] e f = refl
none_silent (x ∷ xs) e f =
    let p = both (inside 1 x.number 24) (numbered xs) e in
    go x.test (inside_tells 1 x.number 24 p.0).0 f (none_silent xs p.1)
  where
    go : (t : Bool) → 1 ≤ x.number → if_so t x.number (first_of xs) ≡ 0 → (first_of xs ≡ 0 → silent xs ≡ true)
        → (not t && silent xs) ≡ true
    go true here f later = absurd (omega arith)
    go false here f later = later f

-- rows after rows: the second list is asked where the first gives none
pub first_append : (xs ys : List Row) → numbered xs ≡ true → if_eq (first_of xs) 0 (first_of ys) (first_of xs) ≡ first_of (xs ++ ys)
unfolding first_of numbered if_so
first_append [] ys e = sym (eq_yes 0 0 (first_of ys) (first_of ys) 0 refl refl)
first_append (x ∷ xs) ys e =
    let p = both (inside 1 x.number 24) (numbered xs) e in
    go x.test (inside_tells 1 x.number 24 p.0).0 (first_append xs ys p.1)
  where
    go : (t : Bool) → 1 ≤ x.number → if_eq (first_of xs) 0 (first_of ys) (first_of xs) ≡ first_of (xs ++ ys)
        → if_eq (if_so t x.number (first_of xs)) 0 (first_of ys) (if_so t x.number (first_of xs)) ≡ if_so t x.number (first_of (xs ++ ys))
    go true here later = sym (eq_no x.number 0 x.number (first_of ys) x.number (λ z. omega arith) refl)
    go false here later = later

pub numbered_append : (xs ys : List Row) → numbered xs ≡ true → numbered ys ≡ true → numbered (xs ++ ys) ≡ true
unfolding numbered
numbered_append [] ys e f = f
numbered_append (x ∷ xs) ys e f =
    let p = both (inside 1 x.number 24) (numbered xs) e in
    whole p.0 (numbered_append xs ys p.1 f)

-- ---- 3, then the row of a field, k, then the other rows of one event

module _ (late bad : Bool) (k : ℕ) (xs : List Row) where
  pub judged_3 : late ≡ true → 3 ≡ first_of (row late 3 ∷ row bad k ∷ xs)
  judged_3 e = first_here 3 3 late (row bad k ∷ xs) e refl

  module _ (in_time : late ≡ false) where
    pub judged_field : bad ≡ true → k ≡ first_of (row late 3 ∷ row bad k ∷ xs)
    judged_field e = first_later k 3 late (row bad k ∷ xs) in_time (first_here k k bad xs e refl)

    pub judged_on : bad ≡ false → (n : ℕ) → n ≡ first_of xs → n ≡ first_of (row late 3 ∷ row bad k ∷ xs)
    judged_on e n f = first_later n 3 late (row bad k ∷ xs) in_time (first_later n k bad xs e f)

-- a sum over a most, tested by what is left up to it
pub over_test : (most held n : ℕ) → held ≤ most → ltb (most - held) n ≡ ltb most (held + n)
over_test most held n h = go (ltb most (held + n)) refl
  where
    go : (t : Bool) → ltb most (held + n) ≡ t → ltb (most - held) n ≡ t
    go true e = let l = ltb-true most (held + n) e in lt-ltb (most - held) n (omega arith)
    go false e = let l = ltb-false most (held + n) e in le-ltb (most - held) n (omega arith)

-- ---- a send's rows: the ledger's, then 6

module _ (f : Flow) (r : Ring) (psn size : ℕ) where
  pub send_numbered : (resend : Bool) → numbered (send_rows f r psn size resend) ≡ true
  unfolding numbered inside
  send_numbered true = refl
  send_numbered false = refl

  pub rows_resend : (resend : Bool) → resend ≡ true → first_of (resend_rows f r psn size) ≡ first_of (send_rows f r psn size resend)
  rows_resend resend e = rw e

  pub rows_new : (resend : Bool) → resend ≡ false → first_of (new_rows f (cap_of r) psn size) ≡ first_of (send_rows f r psn size resend)
  rows_new resend e = rw e

pub send_all_numbered : (time : ℕ) (a : Send) (c : Controller) (r : Ring) → numbered (send_all_rows time a c r) ≡ true
unfolding numbered inside
send_all_numbered time a c r =
    numbered_append (send_rows c.flow r a.psn a.size a.resend) _ (send_numbered c.flow r a.psn a.size a.resend) refl

-- 6
abbrev pub room_rows : Controller → List Row
room_rows c = row (not (has_room c.settings.mtu c.window.cwnd c.totals.in_flight)) 6 ∷ []

pub room_row : (c : Controller) (xs : List Row) → numbered xs ≡ true → room_after c (first_of xs) ≡ first_of (xs ++ room_rows c)
unfolding room_after first_of if_so
room_row c xs e =
    ap (λ (n : ℕ). if_eq (first_of xs) 0 n (first_of xs)) (turned (has_room c.settings.mtu c.window.cwnd c.totals.in_flight))
    ∙ first_append xs (room_rows c) e
  where
    turned : (b : Bool) → ◌≡◌ {A = ℕ} (if_so b 0 6) (if_so (not b) 6 0)
    turned true = refl
    turned false = refl

-- what the ledger judged, n, and then the room, m
module _ (c : Controller) (r : Ring) (a : Send) (n m : ℕ) where
  pub judged_send : m ≡ room_after c n → n ≡ first_of (send_rows c.flow r a.psn a.size a.resend)
      → m ≡ first_of (send_rows c.flow r a.psn a.size a.resend ++ room_rows c)
  judged_send e f =
      e ∙ ap (room_after c) f
      ∙ room_row c (send_rows c.flow r a.psn a.size a.resend) (send_numbered c.flow r a.psn a.size a.resend)

-- ---- what an event answers

-- of two answers by a number n, of which the one has the number 0 and the other n
module _ {A : Type 0} (number : A → ℕ) (n : ℕ) (yes no : A) where
  pub answer_number : number yes ≡ 0 → number no ≡ n → n ≡ number (if_eq n 0 yes no)
  answer_number e f = eq_both (λ (a : A). n ≡ number a) n 0 yes no (λ z. z ∙ sym e) (λ z. sym f)

  pub answer_other : number yes ≡ 0 → (number (if_eq n 0 yes no) ≡ 0 → ⊥) → if_eq n 0 yes no ≡ no
  answer_other e = eq_both (λ (a : A). (number a ≡ 0 → ⊥) → a ≡ no) n 0 yes no (λ z h. absurd (h e)) (λ z h. refl)

-- an entry point: number 2, the other rows' number, or none
module _ {A : Type 0} (w : World) (xs : List Row) (yes : A) (no : ℕ → A) where
  pub entry_unsound : (a : A) → sound w ≡ false → a ≡ no 2 → a ≡ if_eq (first_of (with_sound w xs)) 0 yes (no (first_of (with_sound w xs)))
  entry_unsound a e f =
      let two : 2 ≡ first_of (with_sound w xs) = first_here 2 2 (not (sound w)) xs (ap not e) refl in
      eq_no (first_of (with_sound w xs)) 0 a yes (no (first_of (with_sound w xs))) (λ z. omega arith) (f ∙ ap no two)

-- past number 2 the other rows tell
pub past_sound : (w : World) → sound w ≡ true → (xs : List Row) → first_of xs ≡ first_of (with_sound w xs)
past_sound w e xs = first_later (first_of xs) 2 (not (sound w)) xs (ap not e) refl

-- an answer by the rows' number
module _ {A : Type 0} (xs : List Row) (yes : A) (no : ℕ → A) (n : ℕ) (en : n ≡ first_of xs) where
  pub entry_refused : (a : A) → (n ≡ 0 → ⊥) → a ≡ no n → a ≡ if_eq (first_of xs) 0 yes (no (first_of xs))
  entry_refused a ne f = eq_no (first_of xs) 0 a yes (no (first_of xs)) (λ z. ne (en ∙ z)) (f ∙ ap no en)

  pub entry_accepted : (a : A) → n ≡ 0 → a ≡ yes → a ≡ if_eq (first_of xs) 0 yes (no (first_of xs))
  entry_accepted a ez f = eq_yes (first_of xs) 0 a yes (no (first_of xs)) (sym en ∙ ez) f

-- the answers of an event, and of a path choice
abbrev pub answer : ℕ → World → Answered
answer n w = record { number = n; after = w }

abbrev pub taken : ℕ → World → Routing
taken time w = record { number = 0; ev = (route_of time (view_of w)).ev; after = world_of (path_step time (view_of w)) }

abbrev pub untaken : ℕ → World → Routing
untaken n w = record { number = n; ev = 0; after = w }

module _ (n : ℕ) (w after : World) where
  pub decided_yes : n ≡ 0 → answer 0 after ≡ decided n w after
  unfolding decided
  decided_yes e = eq_yes n 0 (answer 0 after) (answer 0 after) (answer n w) e refl

  pub decided_no : (n ≡ 0 → ⊥) → answer n w ≡ decided n w after
  unfolding decided
  decided_no e = eq_no n 0 (answer n w) (answer 0 after) (answer n w) e refl

-- the entry points that answer a state s and the outcome of a number m
module _ (w : World) (xs : List Row) (after : World) (m : ℕ) (s : Controller) where
  pub answer_unsound : sound w ≡ false → s ≡ w.state → m ≡ 2 → answered m s w.slots w.times
      ≡ decided (first_of (with_sound w xs)) w after
  unfolding decided
  answer_unsound e es em =
      entry_unsound w xs (answer 0 after) (λ n. answer n w) (answered m s w.slots w.times) e
      (ap₂ (λ k c. answered k c w.slots w.times) em es)

  module _ (n : ℕ) (en : n ≡ first_of xs) where
    pub answer_refused : (n ≡ 0 → ⊥) → s ≡ w.state → m ≡ n → answered m s w.slots w.times ≡ decided (first_of xs) w after
    unfolding decided
    answer_refused ne es em =
        entry_refused xs (answer 0 after) (λ n. answer n w) n en (answered m s w.slots w.times) ne
        (ap₂ (λ k c. answered k c w.slots w.times) em es)

    -- where the step came to this state, this memory and these times
    pub answer_accepted : n ≡ 0 → (c : Controller) (r : Memory) (t : List ℕ) → world c r t ≡ after → s ≡ c → m ≡ 0
        → answered m s r t ≡ decided (first_of xs) w after
    unfolding decided
    answer_accepted ez c r t ea es em =
        entry_accepted xs (answer 0 after) (λ n. answer n w) n en (answered m s r t) ez
        (ap₂ (λ k c. answered k c r t) em es ∙ ap (answer 0) ea)

-- ---- what an ACK or a NACK says of its sample: nothing where its number is not 0

module _ {number : ℕ} {c : Controller} {r : Memory} {times : List ℕ} {a : Answered} (e : answered number c r times ≡ a) where
  told : number ≡ a.number
  told = ap (λ (x : Answered). x.number) e

  pub says_nothing : (q : Sampling) {s : Option Sampling} → (number ≡ 0 → ⊥) → s ≡ none → s ≡ says a.number q
  unfolding says
  says_nothing q {s} h n = eq_no a.number 0 s (some q) none (λ z. h (told ∙ z)) n

  pub says_sample : (q : Sampling) {s : Option Sampling} → number ≡ 0 → s ≡ some q → s ≡ says a.number q
  unfolding says
  says_sample q {s} z n = eq_yes a.number 0 s (some q) none (sym told ∙ z) n

-- ---- an event of a sound world, with its test of number 2 and past it

module _ (w : World) (e : sound w ≡ true) (time : ℕ) where
  past_decided : (xs : List Row) (after : World) → decided (first_of xs) w after ≡ decided (first_of (with_sound w xs)) w after
  past_decided xs after = ap (λ (n : ℕ). decided n w after) (past_sound w e xs)

  pub past_new_data_lem : (bytes : ℕ) → past_new_data time bytes w ≡ on_new_data time bytes w
  unfolding past_new_data on_new_data
  past_new_data_lem bytes = past_decided _ _

  pub past_send_lem : (a : Send) → past_send time a w ≡ on_send time a w
  unfolding past_send on_send
  past_send_lem a = past_decided _ _

  pub past_ack_lem : (a : Ack) → past_ack time a w ≡ on_ack time a w
  unfolding past_ack on_ack
  past_ack_lem a = past_decided _ _

  pub past_ack_says_lem : (a : Ack) → past_ack_says time a w ≡ ack_says time a w
  past_ack_says_lem a = ap (λ (x : Answered). says x.number (ack_sampling time a (view_of w))) (past_ack_lem a)

  pub past_nack_lem : (a : Nack) → past_nack time a w ≡ on_nack time a w
  unfolding past_nack on_nack
  past_nack_lem a = past_decided _ _

  pub past_nack_says_lem : (a : Nack) → past_nack_says time a w ≡ nack_says time a w
  past_nack_says_lem a = ap (λ (x : Answered). says x.number (nack_sampling time a (view_of w))) (past_nack_lem a)

  pub past_loss_lem : (a : Loss) → past_loss time a w ≡ on_loss time a w
  unfolding past_loss on_loss
  past_loss_lem a = past_decided _ _

  pub past_path_lem : past_path time w ≡ on_path time w
  unfolding past_path on_path
  past_path_lem = ap (λ (n : ℕ). if_eq n 0 (taken time w) (untaken n w)) (past_sound w e (path_rows time w.state))
