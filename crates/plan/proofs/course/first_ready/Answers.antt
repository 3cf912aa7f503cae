-- `first_ready` asks flow by flow: up to k nobody is ready (proofs/Coursing).
use mathlib.Core.Path.{refl, sym, ap, ◌∙◌}
use native.Mathlib.Omega.{arith}
use Rattle.std.specs.Prelude.{Some}
use Rattle.rules.specs.Branch.{lt_yes, lt_no}
use Rattle.plan.specs.Course.{ready_by}
use Rattle.plan.proofs.Coursing.{first_none, first_here, first_later}
use Rattle.plan.proofs.course.first_ready.Goals as goal

pub returns-then-is_ready : goal.returns-then-is_ready
returns-then-is_ready c =
    let a = c.args in
    let found = first_here (ready_by a.cap a.s) c.loop-k.k a.end c.loop-k-test.true (sym c.is_ready.ensures ∙ c.if-is_ready.true)
    ∙ sym c.loop-k.invariant in
    lt_yes _ _ _ _ _ (omega (arith, c.loop-k-test.true, found)) (ap Some found)

pub loop-k-preserved : goal.loop-k-preserved
loop-k-preserved c =
    let a = c.args in
    c.loop-k.invariant
    ∙ first_later (ready_by a.cap a.s) c.loop-k.k a.end c.loop-k-test.true (sym c.is_ready.ensures ∙ c.if-is_ready.false)

pub returns : goal.returns
returns c =
    let a = c.args in
    let none = c.loop-k.invariant ∙ first_none (ready_by a.cap a.s) c.loop-k.k a.end (omega arith) c.loop-k-test.false in
    lt_no _ _ _ _ _ (omega (arith, none)) refl
