-- Our own planner. Request M-111: "Our own simple planner follows M-108's turns: for the flow named it takes the marked packet nearest to
-- low, else a new packet of a given size. It stops when nobody is named, when a send would be refused, or at 64. Planning writes only the
-- plan and moves no turn, answers 2 and 3 without a plan".
-- Assumes nothing.
use Rattle.std.specs.Prelude.{not, List, [], ◌∷◌, ℕ, zero, suc, min, length}
use Rattle.std.proofs.Math.Option.{Option, none, some}
use Rattle.rules.specs.Branch.{if_so, if_eq}
use Rattle.rules.specs.Rows.{Row, row, first_of}
use Rattle.context.specs.Context.{Context}
use Rattle.context.specs.Sound.{sound_context}
use Rattle.context.specs.Events.{on_send}
use Rattle.context.specs.Look.{packet_in}
use Rattle.context.specs.Turns.{on_choose}
use Rattle.context.specs.declared.choice.Turn.{Turn}
use Rattle.plan.specs.Plan.{sends_most, written}
use Rattle.plan.specs.Judge.{plan_time_row}
use Rattle.plan.specs.declared.Planned.{Planned}

-- what is planned for a turn: the marked packet that it names, with its recorded size, or else a new packet of the given size
abbrev pub planned_for : ℕ → Context → Turn → Planned
planned_for size x t =
    record {
      flow = t.flow;
      send = record {
        psn = t.psn;
        size = if_so t.resend (packet_in t.flow t.psn x).size size;
        resend = t.resend;
      };
    }

-- what f makes of the turn, where somebody is named, else nothing
abbrev pub if_named : Option Turn → (Turn → List Planned) → List Planned
if_named none f = []
if_named (some t) f = f t

-- at most n sends: a choice, which moves the turn of the context that the plan has come to and of no other, then the send
unfoldable pub planned_from : ℕ → ℕ → ℕ → Context → List Planned
planned_from zero time size x = []
planned_from (suc n) time size x =
    let c = on_choose x in
    if_named c.turn
    (λ t.
    let p = planned_for size x t in
    let r = on_send time p.flow p.send c.after in
    if_eq r.number 0 (p ∷ planned_from n time size r.after) [])

-- the number that is answered, and the plan: none where it is refused
pub record Planning : Type 0 where
  pub number : ℕ
  pub plan : List Planned

abbrev pub planning : ℕ → List Planned → Planning
planning n ps = record { number = n; plan = ps }

abbrev pub planning_rows : ℕ → Context → List Row
planning_rows time x = row (not (sound_context x)) 2 ∷ plan_time_row time x ∷ []

-- a plan of at most 64 sends, and of no more than there is room for
unfoldable pub on_plan : ℕ → ℕ → ℕ → Context → Planning
on_plan time size room x =
    let n = first_of (planning_rows time x) in
    if_eq n 0 (planning 0 (planned_from (min room sends_most) time size x)) (planning n [])

-- ---- over lent numbers

-- the number, how many sends the plan has, and the numbers it is written in
pub record Proposal : Type 0 where
  pub number : ℕ
  pub count : ℕ
  pub words : List ℕ

abbrev pub proposal : ℕ → ℕ → List ℕ → Proposal
proposal n c ws = record { number = n; count = c; words = ws }

-- the plan at their front; the room behind it is as it was
abbrev pub proposed : List ℕ → Planning → Proposal
proposed ws r = proposal r.number (length r.plan) (written ws 0 r.plan)
