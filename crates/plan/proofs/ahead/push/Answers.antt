-- `push` moves next by one and takes the bytes from the backlog.
use Rattle.plan.specs.Ahead.{pushed}
use Rattle.plan.proofs.ahead.push.Goals as goal

pub returns : goal.returns
unfolding pushed
returns c = rw c.psn_plus.ensures
