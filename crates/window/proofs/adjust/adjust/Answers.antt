-- `adjust` adjusts where enough was received or the period has passed: branch by branch.
use Rattle.rules.specs.Branch.{branches}
use Rattle.window.specs.Adjust.{adjust_of}
use Rattle.window.proofs.adjust.adjust.Goals as goal

pub returns-then-passed : goal.returns-then-passed
unfolding adjust_of
returns-then-passed c =
    simp (← c.period_passed-passed.ensures, ← c.enough_received.ensures, ← c.fulfill_adjustment.ensures)
    (search (branches, c.if-enough_received-passed.true, c.if-passed.true) depth 12)

pub returns-then-enough_received-passed : goal.returns-then-enough_received-passed
unfolding adjust_of
returns-then-enough_received-passed c =
    simp (← c.period_passed-passed.ensures, ← c.enough_received.ensures, ← c.fulfill_adjustment-then-enough_received-passed.ensures)
    (search (branches, c.if-enough_received-passed.true, c.if-passed.false) depth 12)

pub returns : goal.returns
unfolding adjust_of
returns c =
    simp (← c.period_passed-passed.ensures, ← c.enough_received.ensures)
    (search (branches, c.if-enough_received-passed.false) depth 12)
