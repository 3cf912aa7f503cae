-- The judge of planned sends. Request M-111: "It accepts a plan exactly if each send, made in that order at that time, would be accepted by
-- the rules as they stand; otherwise it names the first send that fails and its refusal number. An empty plan is accepted; one longer than
-- 64 is refusal 27, tested after 3. 2, 3 and 27 name no send."
-- Assumes nothing.
use Rattle.std.specs.Prelude.{not, ◌||◌, List, [], ◌∷◌, ℕ, suc, leb, ltb, length, ⊤, Result, Ok, Err}
use Rattle.rules.specs.Branch.{if_eq}
use Rattle.rules.specs.Rows.{Row, row, first_of}
use Rattle.rules.specs.Verdict.{refused_number}
use Rattle.window.specs.Limits.{time_end}
use Rattle.context.specs.Context.{Context}
use Rattle.context.specs.Sound.{sound_context}
use Rattle.context.specs.Events.{on_send}
use Rattle.plan.specs.Plan.{sends_most}
use Rattle.plan.specs.declared.Planned.{Planned}
use Rattle.plan.specs.declared.judge.Unfit.{Unfit}

-- the number that is answered, and the send that fails, counted from 0: 0 where none is named
pub record Judgement : Type 0 where
  pub number : ℕ
  pub send : ℕ

abbrev pub judged : ℕ → ℕ → Judgement
judged n i = record { number = n; send = i }

-- what the judge's outcome says: a send is named beside a refusal alone
unfoldable pub judgement_of : Result ⊤ Unfit → Judgement
judgement_of (Ok x) = judged 0 0
judgement_of (Err unfit) = judged (refused_number unfit.refusal) unfit.send

-- the sends made one after another, the first of them the plan's send i: each on the context that the one before it leaves
unfoldable pub made_from : ℕ → ℕ → List Planned → Context → Judgement
made_from time i [] x = judged 0 0
made_from time i (p ∷ ps) x =
    let r = on_send time p.flow p.send x in
    if_eq r.number 0 (made_from time (suc i) ps r.after) (judged r.number i)

-- "time before the held clock, or 2^48 or more" (3)
abbrev pub plan_time_row : ℕ → Context → Row
plan_time_row time x = row (ltb time x.state.clock || leb time_end time) 3

-- the rows that name no send
abbrev pub plan_rows : ℕ → List Planned → Context → List Row
plan_rows time plan x = row (not (sound_context x)) 2 ∷ plan_time_row time x ∷ row (ltb sends_most (length plan)) 27 ∷ []

unfoldable pub on_judge : ℕ → List Planned → Context → Judgement
on_judge time plan x = let n = first_of (plan_rows time plan x) in if_eq n 0 (made_from time 0 plan x) (judged n 0)
