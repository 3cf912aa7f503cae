-- `nscc_plan`: 2 where the words are no state's; else the planner's word, which fits (proofs/Plannings).
use native.Mathlib.Omega.{arith}
use Rattle.rules.specs.Verdict.{number_most}
use Rattle.c_api.proofs.Plannings.{count_most, plan_none, plan_on}
use Rattle.c_api.proofs.plans.nscc_plan.Goals as goal

pub returns-then-not-given : goal.returns-then-not-given
returns-then-not-given c =
    plan_none _ _ _ _ _ _ _ _ c.unpack-given.ensures c.if-not-given.true

pub overflow_mul-result : goal.overflow_mul-result
overflow_mul-result c = omega (arith, count_most _ _ _ _ _ _ _ _ c.plan-made.ensures, c.unwrap_or.ensures)

pub overflow_add-result : goal.overflow_add-result
overflow_add-result c =
    let p = c.plan-made in
    omega (arith, count_most _ _ _ _ _ _ _ _ p.ensures, c.unwrap_or.ensures, c.number_of.ensures, number_most p.result)

pub returns : goal.returns
returns c =
    rw c.unwrap_or.ensures
    (plan_on _ _ _ _ _ _ _ _ c.unpack-given.ensures c.if-not-given.false _ _ _ _ c.number_of.ensures c.plan-made.ensures)
