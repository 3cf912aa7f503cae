-- "Prove that no two outcomes satisfy one promise": of the judge, of the planner, whose outcome is its answer with the final contents of
-- the plan, and of the steps over a plan's numbers. Assumes nothing.
use mathlib.Core.Bool.{Bool}
use mathlib.Core.List.{List}
use mathlib.Core.Path.{refl, sym, ap, ap₂}
use Prim.Native.Nat.{ℕ}
use Rattle.std.specs.Prelude.{⊤, Result, Ok, Err}
use Rattle.std.specs.Result.{result_unwrap_or}
use Rattle.rules.specs.Unique.{OneOutcome, Tells, unique, unique_plain}
use Rattle.rules.specs.Verdict.{number_of, err_not}
use Rattle.rules.specs.declared.verdict.Refusal.{Refusal}
use Rattle.rules.proofs.Verdicts.{refusal_tells, outcome_tells}
use Rattle.context.specs.Context.{Context}
use Rattle.plan.specs.Plan.{send_count, planned_at, with_send}
use Rattle.plan.specs.Ahead.{again_to}
use Rattle.plan.specs.Judge.{Judgement, judgement_of, on_judge}
use Rattle.plan.specs.Planner.{Proposal, proposal, proposed, on_plan}
use Rattle.plan.specs.declared.Planned.{Planned}
use Rattle.plan.specs.declared.judge.Unfit.{Unfit}

-- ---- the judge, which is lent nothing to change

-- what the contract makes of its answer
abbrev pub made_judgement : Result ⊤ Unfit → Judgement
made_judgement = judgement_of

judgement_tells : Tells made_judgement
unfolding judgement_of
judgement_tells (Ok x) (Ok y) e = refl
judgement_tells (Ok x) (Err u) e = absurd (err_not (Err u.refusal) u.refusal refl (sym (ap (λ (j : Judgement). j.number) e)))
judgement_tells (Err t) (Ok y) e = absurd (err_not (Err t.refusal) t.refusal refl (ap (λ (j : Judgement). j.number) e))
judgement_tells (Err t) (Err u) e =
    ap₂ (λ (r : Refusal) (i : ℕ). Err (record { refusal = r; send = i }))
    (refusal_tells ⊤ t.refusal u.refusal (ap (λ (j : Judgement). j.number) e)) (ap (λ (j : Judgement). j.send) e)

pub judge_unique : (time : ℕ) (plan : List Planned) (x : Context) → OneOutcome made_judgement (on_judge time plan x)
judge_unique time plan x = unique made_judgement judgement_tells (on_judge time plan x)

-- ---- the planner

pub record PlanOutcome : Type 0 where
  pub answer : Result ℕ Refusal
  pub plan : List ℕ

-- what the contract makes of it
abbrev pub made_plan : PlanOutcome → Proposal
made_plan x = proposal (number_of x.answer) (result_unwrap_or x.answer 0) x.plan

plan_tells : Tells made_plan
plan_tells v w e =
    ap₂ (λ (a : Result ℕ Refusal) (ws : List ℕ). record { answer = a; plan = ws })
    (outcome_tells (λ (a : Result ℕ Refusal). result_unwrap_or a 0) (λ x y same. same) v.answer w.answer
    (ap (λ (p : Proposal). p.number) e) (ap (λ (p : Proposal). p.count) e))
    (ap (λ (p : Proposal). p.words) e)

pub plan_unique : (time size : ℕ) (plan : List ℕ) (x : Context)
    → OneOutcome made_plan (proposed plan (on_plan time size (send_count plan) x))
plan_unique time size plan x = unique made_plan plan_tells (proposed plan (on_plan time size (send_count plan) x))

-- ---- a plan's numbers: what is told of them, and what they are once a send is stored

module _ (plan : List ℕ) where
  pub count_unique : OneOutcome (λ (n : ℕ). n) (send_count plan)
  count_unique = unique_plain (send_count plan)

  pub send_at_unique : (i : ℕ) → OneOutcome (λ (p : Planned). p) (planned_at plan i)
  send_at_unique i = unique_plain (planned_at plan i)

  pub sent_again_unique : (n flow psn : ℕ) → OneOutcome (λ (b : Bool). b) (again_to plan n flow psn)
  sent_again_unique n flow psn = unique_plain (again_to plan n flow psn)

  pub put_send_unique : (i : ℕ) (p : Planned) → OneOutcome (λ (ws : List ℕ). ws) (with_send plan i p)
  put_send_unique i p = unique_plain (with_send plan i p)
