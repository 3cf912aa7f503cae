-- `feed` answers what is fed, branch by branch.
use Rattle.rules.specs.Branch.{branches}
use Rattle.window.specs.Delays.{feed_of}
use Rattle.window.proofs.delay.feed.Goals as goal

pub returns-then-marked-target : goal.returns-then-marked-target
unfolding feed_of
returns-then-marked-target c = search (branches, c.if-marked-target.true) depth 12

pub returns : goal.returns
unfolding feed_of
returns c = search (branches, c.if-marked-target.false) depth 12
