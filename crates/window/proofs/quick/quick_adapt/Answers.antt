-- `quick_adapt` takes the cases of its definition, branch by branch.
use mir.Facts.{to_z-of_z}
use borrow.Author.Rules.{rules}
use Rattle.rules.specs.Branch.{branches}
use Rattle.window.specs.Quick.{fire_of, restart_of, quick_adapt_of}
use Rattle.window.proofs.quick.quick_adapt.Goals as goal

pub returns-then-is_on-time : goal.returns-then-is_on-time
unfolding quick_adapt_of
returns-then-is_on-time c = simp (← c.is_on.ensures) (search (branches, c.if-is_on-time.true) depth 12)

pub restart-requires : goal.restart-requires
unfolding fire_of
restart-requires c = rw c.fire.ensures (search rules)

pub returns-then-fires : goal.returns-then-fires
unfolding quick_adapt_of restart_of
returns-then-fires c =
    let fires = rw (to_z-of_z c.ranges.in_flight) at c.fire.ensures in
    simp (← c.is_on.ensures, ← c.fires.ensures, ← fires, ← c.restart.ensures)
    (search (branches, c.if-is_on-time.false, c.if-fires.true) depth 12)

pub returns : goal.returns
unfolding quick_adapt_of
returns c =
    simp (← c.is_on.ensures, ← c.fires.ensures, ← c.restart-2.ensures)
    (search (branches, c.if-is_on-time.false, c.if-fires.false) depth 12)
