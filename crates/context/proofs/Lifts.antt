-- The answer of flow k's step, lifted to the context: number and context are those of the event's definition.
-- Assumes nothing.
use mathlib.Core.Path.{◌≡◌, refl, sym, ap, ◌∙◌}
use mathlib.Core.Bool.{Bool, true, false}
use mathlib.Core.List.{List, ◌∷◌}
use mathlib.Core.Option.{Option, none, some}
use Prim.Native.Nat.{ℕ, ◌≤◌, ◌<◌}
use native.Mathlib.Omega.{arith}
use lib.Dec.{leb, eqb}
use borrow.Author.Tests.{le-leb, lt-leb, eqb-true, eqb-false}
use Rattle.rules.specs.Branch.{if_so, if_eq, eq_yes, eq_no, so_both, eq_both}
use Rattle.rules.specs.Rows.{Row, row, first_of, first_here, first_later}
use Rattle.window.specs.declared.Sampling.{Sampling}
use Rattle.ledger.specs.Memory.{Memory}
use Rattle.ledger.specs.Ring.{Ledger}
use Rattle.ledger.specs.Steps.{supplied, push_of, resend_of, mark_of, acknowledge_of}
use Rattle.ledger.specs.declared.Flow.{Flow}
use Rattle.sender.specs.World.{World, View}
use Rattle.sender.specs.World.{Answered as OneAnswered, answered as oneAnswered, Routing as OneRouting, routed as oneRouted}
use Rattle.sender.specs.Events.{says}
use Rattle.sender.specs.Events.{decided as oneDecided, past_path as onePath}
use Rattle.sender.specs.Rows.{path_rows}
use Rattle.sender.specs.Steps.{state_of, settled, new_data_state, new_data_step, send_step, ack_step, nack_step, loss_step, path_state, path_step}
use Rattle.sender.specs.declared.Send.{Send}
use Rattle.sender.specs.declared.Ack.{Ack}
use Rattle.sender.specs.declared.Nack.{Nack}
use Rattle.sender.specs.declared.Loss.{Loss}
use Rattle.sender.specs.declared.Controller.{Controller as Sender}
use Rattle.flow_table.specs.Words.{flow_at, with_flow, with_backlog, with_sent, with_acked}
use Rattle.flow_table.specs.Parts.{put_part}
use Rattle.flow_table.proofs.Places.{with_same}
use Rattle.context.specs.Context.{Context, Answered, answered, Routing, routed, flow_count, cap_in}
use Rattle.context.specs.Context.{joined_of, shared_of, Leaves, world_at, put_world}
use Rattle.context.specs.Rows.{flow_row}
use Rattle.context.specs.Events.{decided, chosen}
use Rattle.context.specs.declared.Controller.{Controller}
use Rattle.context.proofs.Joins.{Here, here_same}

-- ---- the row of the flow

module _ (k : ℕ) (x : Context) (late : Bool) (rows : List Row) where
  -- a flow in range: the row is passed
  pub flow_passed : k < flow_count x → first_of (row late 3 ∷ rows) ≡ first_of (row late 3 ∷ flow_row k x ∷ rows)
  unfolding first_of
  flow_passed h = ap (if_so late 3) (first_later (first_of rows) 25 (leb (flow_count x) k) rows (lt-leb (flow_count x) k h) refl)

  -- a flow out of range: 3, then 25
  pub flow_refused : flow_count x ≤ k → ◌≡◌ {A = ℕ} (if_so late 3 25) (first_of (row late 3 ∷ flow_row k x ∷ rows))
  unfolding first_of
  flow_refused h = ap (if_so late 3) (first_here 25 25 (leb (flow_count x) k) rows (le-leb (flow_count x) k h) refl)

late_refused : (late : Bool) → ◌≡◌ {A = ℕ} (if_so late 3 25) 0 → ⊥
late_refused late = so_both (λ (n : ℕ). n ≡ 0 → ⊥) late 3 25 (λ _ e. omega (arith, e)) (λ _ e. omega (arith, e))

pub not_zero : (late : Bool) {m : ℕ} → m ≡ if_so late 3 25 → m ≡ 0 → ⊥
not_zero late e z = late_refused late (sym e ∙ z)

-- a flow out of range, as the code answers it: the context as it was
module _ (k : ℕ) (x : Context) (late : Bool) (rows : List Row) (h : flow_count x ≤ k) {m : ℕ} (e : m ≡ if_so late 3 25) where
  number_is : m ≡ first_of (row late 3 ∷ flow_row k x ∷ rows)
  number_is = e ∙ flow_refused k x late rows h

  pub no_flow_decided : (after : Context) → answered m x.state x.flows x.slots x.times
      ≡ decided (first_of (row late 3 ∷ flow_row k x ∷ rows)) x after
  unfolding decided
  no_flow_decided after =
      eq_no _ 0 _ _ _ (λ z. not_zero late e (number_is ∙ z)) (ap (λ (n : ℕ). record { number = n; after = x }) number_is)

  pub no_flow_chosen : (ev : ℕ) (after : Context) → routed m 0 x.state x.flows x.slots x.times
      ≡ chosen (first_of (row late 3 ∷ flow_row k x ∷ rows)) ev x after
  unfolding chosen
  no_flow_chosen ev after =
      eq_no _ 0 _ _ _ (λ z. not_zero late e (number_is ∙ z)) (ap (λ (n : ℕ). record { number = n; ev = 0; after = x }) number_is)

-- ---- the step's answer

-- lifted
abbrev lifted : ℕ → Context → OneAnswered → Answered
lifted k x a = record { number = a.number; after = put_world k x a.after }

abbrev lifted_path : ℕ → Context → OneRouting → Routing
lifted_path k x a = record { number = a.number; ev = a.ev; after = put_world k x a.after }

module _ (k : ℕ) (x : Context) (same : put_world k x (world_at k x) ≡ x) where
  lift_decided : (n : ℕ) (w : World) → lifted k x (oneDecided n (world_at k x) w) ≡ decided n x (put_world k x w)
  unfolding oneDecided decided
  lift_decided n w =
      eq_both (λ (a : OneAnswered). lifted k x a ≡ decided n x (put_world k x w)) n 0 _ _
      (λ z. yes z)
      (λ z. no z)
    where
      yes : n ≡ 0 → record { number = 0; after = put_world k x w } ≡ decided n x (put_world k x w)
      yes z = eq_yes n 0 _ _ _ z refl

      no : (n ≡ 0 → ⊥) → record { number = n; after = put_world k x (world_at k x) } ≡ decided n x (put_world k x w)
      no z = eq_no n 0 _ _ _ z (ap (λ (y : Context). record { number = n; after = y }) same)

  lift_chosen : (n ev : ℕ) (w : World) → lifted_path k x (if_eq n 0 (record { number = 0; ev = ev; after = w })
      (record { number = n; ev = 0; after = world_at k x }))
      ≡ chosen n ev x (put_world k x w)
  unfolding chosen
  lift_chosen n ev w =
      eq_both (λ (a : OneRouting). lifted_path k x a ≡ chosen n ev x (put_world k x w)) n 0 _ _
      (λ z. eq_yes n 0 _ _ _ z refl)
      (λ z. eq_no n 0 _ _ _ z (ap (λ (y : Context). record { number = n; ev = 0; after = y }) same))

-- ---- the flow's record

-- what each step can change of it: new data the backlog, a send next and backlog, an ACK low and the held count, a NACK and a loss nothing
module _ (time : ℕ) (v : View) where
  pub new_data_changes : (bytes : ℕ)
      → (new_data_step time bytes v).state.flow ≡ with_backlog v.state.flow (new_data_step time bytes v).state.flow
  unfolding new_data_step new_data_state state_of supplied
  new_data_changes bytes = refl

  pub send_changes : (a : Send) → (send_step time a v).state.flow ≡ with_sent v.state.flow (send_step time a v).state.flow
  unfolding send_step settled state_of resend_of push_of
  send_changes a =
      so_both (λ (l : Ledger). l.flow ≡ with_sent v.state.flow l.flow) a.resend _ _ (λ _. refl) (λ _. refl)

  pub ack_changes : (a : Ack) → (ack_step time a v).state.flow ≡ with_acked v.state.flow (ack_step time a v).state.flow
  unfolding ack_step settled state_of acknowledge_of
  ack_changes a = refl

  pub nack_changes : (a : Nack) → (nack_step time a v).state.flow ≡ v.state.flow
  unfolding nack_step settled state_of mark_of
  nack_changes a = refl

  pub loss_changes : (a : Loss) → (loss_step time a v).state.flow ≡ v.state.flow
  unfolding loss_step settled state_of mark_of
  loss_changes a = refl

-- so what the event leaves of it, whatever is answered
module _ {m : ℕ} {s : Sender} {p : Memory} {times : List ℕ} (n : ℕ) (u w : World) (e : oneAnswered m s p times ≡ oneDecided n u w) where
  pub flow_left : (change : Flow → Flow → Flow) → w.state.flow ≡ change u.state.flow w.state.flow
      → Leaves change m u.state.flow s.flow
  unfolding oneDecided
  flow_left change step =
      eq_both (λ (a : OneAnswered). oneAnswered m s p times ≡ a → Leaves change m u.state.flow s.flow) n 0 _ _
      (λ _ q. record {
        accepted = λ _. rw (ap (λ (a : OneAnswered). a.after.state.flow) q) step;
        refused = λ h. absurd (h (ap (λ (a : OneAnswered). a.number) q));
      })
      (λ h q. record {
        accepted = λ z. absurd (h (sym (ap (λ (a : OneAnswered). a.number) q) ∙ z));
        refused = λ _. ap (λ (a : OneAnswered). a.after.state.flow) q;
      }) e

  pub flow_stays : w.state.flow ≡ u.state.flow → s.flow ≡ u.state.flow
  unfolding oneDecided
  flow_stays step =
      eq_both (λ (a : OneAnswered). oneAnswered m s p times ≡ a → s.flow ≡ u.state.flow) n 0 _ _
      (λ _ q. ap (λ (a : OneAnswered). a.after.state.flow) q ∙ step)
      (λ _ q. ap (λ (a : OneAnswered). a.after.state.flow) q) e

-- and the table with that put back: as it is where the record stays, else as it is once the words that can change are stored
module _ (ws : List ℕ) (k : ℕ) {f : Flow} where
  same_kept : f ≡ flow_at ws k → ws ≡ with_flow ws k f
  same_kept e = sym (ap (with_flow ws k) e ∙ with_same ws k)

  module _ {change : Flow → Flow → Flow} {n : ℕ} (L : Leaves change n (flow_at ws k) f) {accepted : Bool} (e : accepted ≡ eqb n 0) where
    pub stored_kept : {after : List ℕ} → accepted ≡ true → after ≡ with_flow ws k (change (flow_at ws k) f) → after ≡ with_flow ws k f
    stored_kept t q = q ∙ ap (with_flow ws k) (sym (L.accepted (eqb-true n 0 (sym e ∙ t))))

    pub refused_kept : accepted ≡ false → ws ≡ with_flow ws k f
    refused_kept t = same_kept (L.refused (eqb-false n 0 (sym e ∙ t)))

pub same_table : (k : ℕ) (x : Context) {f : Flow} → f ≡ (world_at k x).state.flow → x.flows ≡ with_flow x.flows k f
unfolding world_at joined_of
same_table k x e = same_kept x.flows k e

-- AN EVENT OF FLOW k, as the code leaves the context: the step's answer on what flow k sees, put back
module _ {x : Context} {k from end at to : ℕ} (H : Here x k from end at to) (late : Bool) (rows : List Row) (w : World)
    {m : ℕ} {s : Sender} {p slots : Memory} {times flows : List ℕ} {c : Controller} (ec : c ≡ shared_of x.state.turn s)
    (ef : flows ≡ with_flow x.flows k s.flow) (es : slots ≡ put_part (cap_in x) k x.slots p) where
  pub lift_answer : oneAnswered m s p times ≡ oneDecided (first_of (row late 3 ∷ rows)) (world_at k x) w
      → answered m c flows slots times ≡ decided (first_of (row late 3 ∷ flow_row k x ∷ rows)) x (put_world k x w)
  unfolding put_world
  lift_answer e =
      rw (ec, ef, es) (ap (lifted k x) e) ∙ lift_decided k x (here_same H) (first_of (row late 3 ∷ rows)) w
      ∙ ap (λ (n : ℕ). decided n x (put_world k x w)) (flow_passed k x late rows H.inside)

  pub lift_route : {ev : ℕ} (route : ℕ) → oneRouted m ev s p times
      ≡ if_eq (first_of (row late 3 ∷ rows)) 0 (record { number = 0; ev = route; after = w })
      (record { number = first_of (row late 3 ∷ rows); ev = 0; after = world_at k x })
      → routed m ev c flows slots times ≡ chosen (first_of (row late 3 ∷ flow_row k x ∷ rows)) route x (put_world k x w)
  unfolding put_world
  lift_route route e =
      rw (ec, ef, es) (ap (lifted_path k x) e) ∙ lift_chosen k x (here_same H) (first_of (row late 3 ∷ rows)) route w
      ∙ ap (λ (n : ℕ). chosen n route x (put_world k x w)) (flow_passed k x late rows H.inside)

-- a path choice leaves the flow's record as it was, also where it is refused
path_keeps : (time : ℕ) (w : World) → (onePath time w).after.state.flow ≡ w.state.flow
unfolding onePath path_step path_state state_of
path_keeps time w =
    eq_both (λ (r : OneRouting). r.after.state.flow ≡ w.state.flow) (first_of (path_rows time w.state)) 0 _ _ (λ _. refl) (λ _. refl)

pub path_flow : (k : ℕ) (x : Context) (time : ℕ) {m ev : ℕ} {s : Sender} {p : Memory} {times : List ℕ}
    → oneRouted m ev s p times ≡ onePath time (world_at k x) → x.flows ≡ with_flow x.flows k s.flow
path_flow k x time e = same_table k x (ap (λ (r : OneRouting). r.after.state.flow) e ∙ path_keeps time (world_at k x))

-- what an ACK or a NACK says: by the number, which is the step's
pub lift_says : {m : ℕ} {a : OneAnswered} {b : Answered} {s : Sender} {p slots : Memory} {times ys flows : List ℕ} {c : Controller}
    {q : Option Sampling} (sampling : Sampling) → oneAnswered m s p times ≡ a → answered m c flows slots ys ≡ b
    → q ≡ says a.number sampling → q ≡ says b.number sampling
lift_says sampling e f g =
    g ∙ ap (λ (n : ℕ). says n sampling) (sym (ap (λ (r : OneAnswered). r.number) e) ∙ ap (λ (r : Answered). r.number) f)

pub no_flow_says : {m : ℕ} {b : Answered} {slots : Memory} {times flows : List ℕ} {c : Controller} (sampling : Sampling)
    → answered m c flows slots times ≡ b → (m ≡ 0 → ⊥) → none ≡ says b.number sampling
unfolding says
no_flow_says sampling f h = eq_no _ 0 none (some sampling) none (λ z. h (ap (λ (r : Answered). r.number) f ∙ z)) refl
