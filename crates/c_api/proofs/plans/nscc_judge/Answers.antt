-- `nscc_judge`: 2 where the plan is not of whole sends or the words are no state's; else the judge's word, which fits (proofs/Plannings).
use mathlib.Core.Path.{refl}
use native.Mathlib.Omega.{arith}
use Rattle.std.specs.Prelude.{⊤, Err}
use Rattle.plan.specs.Judge.{judgement_of}
use Rattle.rules.specs.Verdict.{number_most}
use Rattle.c_api.proofs.Plannings.{send_most, not_whole, judge_none, judge_on}
use Rattle.c_api.proofs.plans.nscc_judge.Goals as goal

pub returns-then-plan-ne0 : goal.returns-then-plan-ne0
returns-then-plan-ne0 c = not_whole _ _ _ _ _ _ c.if-plan-ne0.true

pub returns-then-not-given : goal.returns-then-not-given
returns-then-not-given c =
    judge_none _ _ _ _ _ _ c.if-plan-ne0.false _ c.unpack-given.ensures c.if-not-given.true

pub overflow_mul-result : goal.overflow_mul-result
unfolding judgement_of
overflow_mul-result c = omega (arith, send_most _ _ _ _ _ c.in-Err.ensures)

pub overflow_add-result : goal.overflow_add-result
unfolding judgement_of
overflow_add-result c =
    let refused = number_most {T = ⊤} (Err c.in-Err.unfit.refusal) in
    omega (arith, send_most _ _ _ _ _ c.in-Err.ensures, c.number_of.ensures, refused)

pub returns-in-Ok : goal.returns-in-Ok
unfolding judgement_of
returns-in-Ok c =
    judge_on _ _ _ _ _ _ c.if-plan-ne0.false _ c.unpack-given.ensures c.if-not-given.false 0 0 0 refl c.in-Ok.ensures

pub returns-in-Err : goal.returns-in-Err
unfolding judgement_of
returns-in-Err c =
    judge_on _ _ _ _ _ _ c.if-plan-ne0.false _ c.unpack-given.ensures c.if-not-given.false _ _ _ c.number_of.ensures c.in-Err.ensures
