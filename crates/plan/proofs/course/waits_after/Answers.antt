-- `waits_after` moves the record of a flow that sent again to its next packet that waits, and leaves the records for a new packet.
use mathlib.Core.Path.{refl}
use Rattle.rules.specs.Branch.{so_yes, so_no}
use Rattle.plan.specs.Course.{waits_after}
use Rattle.plan.proofs.course.waits_after.Goals as goal

pub returns-then-send : goal.returns-then-send
unfolding waits_after
returns-then-send c =
    so_yes _ _ _ _ c.if-send.true (rw (c.with_record.ensures, c.waiting_from-w.ensures, c.psn_plus-behind.ensures))

pub returns : goal.returns
unfolding waits_after
returns c = so_no _ _ _ _ c.if-send.false refl
