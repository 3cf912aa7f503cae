-- `fast_increase` takes the cases of its definition, branch by branch.
use Rattle.rules.specs.Branch.{branches}
use Rattle.window.specs.Cases.{fast_increase_of}
use Rattle.window.proofs.cases.fast_increase.Goals as goal

pub returns-then-is_on : goal.returns-then-is_on
unfolding fast_increase_of
returns-then-is_on c =
    simp (← c.is_near.ensures, ← c.is_on.ensures, ← c.raise_cwnd.ensures)
    (search (branches, c.if-is_near.true, c.if-is_on.true) depth 12)

pub returns-then-more-w : goal.returns-then-more-w
unfolding fast_increase_of
returns-then-more-w c =
    simp (← c.is_near.ensures, ← c.is_on.ensures, ← c.add_to_tally-more.ensures, ← c.raise_cwnd-then-more-w.ensures)
    (search (branches, c.if-is_near.true, c.if-is_on.false, c.if-more-w.true) depth 12)

pub returns-then-is_near : goal.returns-then-is_near
unfolding fast_increase_of
returns-then-is_near c =
    simp (← c.is_near.ensures, ← c.is_on.ensures, ← c.add_to_tally-more.ensures)
    (search (branches, c.if-is_near.true, c.if-is_on.false, c.if-more-w.false) depth 12)

pub returns : goal.returns
unfolding fast_increase_of
returns c =
    simp (← c.is_near.ensures, ← c.leave_fast_mode.ensures)
    (search (branches, c.if-is_near.false) depth 12)
