-- `send_of` reads the flow's record of what waits: a new packet where none does, and else the packet at its low.
use Rattle.rules.specs.Branch.{eq_yes, eq_no}
use Rattle.plan.specs.Course.{send_by}
use Rattle.plan.proofs.course.send_of.Goals as goal

pub returns-then-w : goal.returns-then-w
unfolding send_by
returns-then-w c =
    eq_yes _ _ _ _ _ (rw c.nth-w.ensures at c.if-w.true) (rw c.nth-f.ensures)

pub returns : goal.returns
unfolding send_by
returns c =
    let w = c.nth-w.ensures in
    eq_no _ _ _ _ _ (rw w at c.if-w.false) (rw (c.packet_at-x.ensures, w))
