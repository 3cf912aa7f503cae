-- Planned sends over lent words (request M-111).
-- Assumes nothing.
use Rattle.std.specs.Prelude.{◌&&◌, List, ℕ, ◌+◌, ◌*◌, ◌%◌, ◌^◌, eqb, length}
use Rattle.rules.specs.Branch.{if_so}
use Rattle.ledger.specs.Memory.{Memory}
use Rattle.context.specs.Context.{context}
use Rattle.plan.specs.Plan.{send_words, send_count, plan_of}
use Rattle.plan.specs.Judge.{Judgement, on_judge}
use Rattle.plan.specs.Planner.{Proposal, proposed, on_plan}
use Rattle.c_state.specs.Layout.{state_from, words_ok}

-- the number, and above its 32 bits the send that fails
abbrev pub judged_word : Judgement → ℕ
judged_word j = 2 ^ 32 * j.send + j.number

-- the judge on the state that the words are; 2 where they are none's, or where the plan is not of whole sends
unfoldable pub on_judge_words : ℕ → List ℕ → List ℕ → List ℕ → Memory → List ℕ → ℕ
on_judge_words time plan ws fs m t =
    if_so (eqb (length plan % send_words) 0 && words_ok ws) (judged_word (on_judge time (plan_of plan) (context (state_from ws) fs m t))) 2

-- the answer's word, and the plan's numbers
pub record PlanCalled : Type 0 where
  pub word : ℕ
  pub plan : List ℕ

abbrev pub plan_called : ℕ → List ℕ → PlanCalled
plan_called w plan = record { word = w; plan = plan }

-- the number, and above its 32 bits how many sends the plan has
abbrev pub planned_word : Proposal → PlanCalled
planned_word p = plan_called (2 ^ 32 * p.count + p.number) p.words

-- the planner on the state that the words are, with the plan at the front of the room; 2, and the room as it was, where they are none's
unfoldable pub on_plan_words : ℕ → ℕ → List ℕ → List ℕ → List ℕ → Memory → List ℕ → PlanCalled
on_plan_words time size plan ws fs m t =
    if_so (words_ok ws) (planned_word (proposed plan (on_plan time size (send_count plan) (context (state_from ws) fs m t)))) (plan_called 2 plan)
