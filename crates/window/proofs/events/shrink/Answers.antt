-- `shrink` takes the size off, unless quick adapt fired: branch by branch.
use borrow.Author.Rules.{rules}
use Rattle.rules.specs.Branch.{branches}
use Rattle.window.specs.Events.{shrink_of}
use Rattle.window.proofs.events.shrink.Goals as goal

pub returns-then-a : goal.returns-then-a
unfolding shrink_of
returns-then-a c = search (rules, branches) depth 12

pub returns : goal.returns
unfolding shrink_of
returns c = simp (← c.most.ensures) (search (rules, branches) depth 12)
