-- `is_ready` tests the flow's record of what waits, and then what a new packet needs.
use mathlib.Core.Path.{refl}
use Rattle.rules.specs.Branch.{eq_yes, eq_no}
use Rattle.ledger.specs.Ring.{long_of}
use Rattle.plan.specs.Course.{ready_by}
use Rattle.plan.proofs.course.is_ready.Goals as goal

pub returns-then-w : goal.returns-then-w
unfolding ready_by
returns-then-w c = eq_no _ _ _ _ _ (rw c.nth-w.ensures at c.if-w.true) refl

pub returns : goal.returns
unfolding ready_by long_of
returns c =
    eq_yes _ _ _ _ _ (rw c.nth-w.ensures at c.if-w.false) (rw (c.psn_minus.ensures, c.nth-f.ensures))
