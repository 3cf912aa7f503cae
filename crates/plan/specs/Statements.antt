-- What the theorems on planned sends say (request M-111), which can be read alone.
-- Assumes nothing.
use Rattle.std.specs.Prelude.{◌≡◌, ◌↔◌, List, [], ◌∷◌, ℕ, ◌<◌, length, get_or}
use Rattle.rules.specs.Rows.{first_of}
use Rattle.context.specs.Context.{Context}
use Rattle.context.specs.Events.{on_send}
use Rattle.plan.specs.Judge.{judged, plan_rows, on_judge}
use Rattle.plan.specs.Planner.{on_plan}
use Rattle.plan.specs.declared.Planned.{Planned}

-- the sends made one after another, whatever each is answered: their numbers
unfoldable pub send_numbers : ℕ → List Planned → Context → List ℕ
send_numbers time [] x = []
send_numbers time (p ∷ ps) x =
    let r = on_send time p.flow p.send x in
    r.number ∷ send_numbers time ps r.after

-- send i of them is accepted
abbrev pub Accepted : ℕ → List Planned → Context → ℕ → Type 0
Accepted time plan x i = get_or (send_numbers time plan x) i 0 ≡ 0

pub record JudgeExact (time : ℕ) (plan : List Planned) (x : Context) : Type 0 where
  -- 2, then 3, then 27: "2, 3 and 27 name no send"
  pub no_send : (first_of (plan_rows time plan x) ≡ 0 → ⊥) → on_judge time plan x ≡ judged (first_of (plan_rows time plan x)) 0
  -- "It accepts a plan exactly if each send, made in that order at that time, would be accepted by the rules as they stand"
  pub accepted : first_of (plan_rows time plan x) ≡ 0
      → ((on_judge time plan x).number ≡ 0) ↔ ((i : ℕ) → i < length plan → Accepted time plan x i)
  -- "otherwise it names the first send that fails and its refusal number": none before it does, and that is its number
  pub named : first_of (plan_rows time plan x) ≡ 0 → ((on_judge time plan x).number ≡ 0 → ⊥)
      → ((on_judge time plan x).send < length plan)
      × ((i : ℕ) → i < (on_judge time plan x).send → Accepted time plan x i)
      × (get_or (send_numbers time plan x) (on_judge time plan x).send 0 ≡ (on_judge time plan x).number)
  -- no send is refused with one of those three, so that the number tells whether a send is named
  pub told : first_of (plan_rows time plan x) ≡ 0
      → ((on_judge time plan x).number ≡ 2 → ⊥) × ((on_judge time plan x).number ≡ 3 → ⊥) × ((on_judge time plan x).number ≡ 27 → ⊥)

-- "judged at the same state and time its plans are always accepted", whatever the size and the room; a refused one has no sends
pub record PlansAccepted (time size room : ℕ) (x : Context) : Type 0 where
  pub accepted : (on_plan time size room x).number ≡ 0 → on_judge time (on_plan time size room x).plan x ≡ judged 0 0
  pub refused : ((on_plan time size room x).number ≡ 0 → ⊥) → (on_plan time size room x).plan ≡ []
