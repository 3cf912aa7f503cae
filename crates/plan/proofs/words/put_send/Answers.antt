-- `put_send` stores a send's four numbers, one after the other.
use Rattle.plan.specs.Plan.{with_send}
use Rattle.plan.proofs.words.put_send.Goals as goal

pub returns : goal.returns
unfolding with_send
returns c = rw c.mode_of.ensures
