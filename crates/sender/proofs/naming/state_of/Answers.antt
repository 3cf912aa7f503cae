-- `state_of` is `state_of`, with the name that `phase_of` finds.
use Rattle.sender.specs.Steps.{state_of}
use Rattle.sender.proofs.naming.state_of.Goals as goal

pub returns : goal.returns
unfolding state_of
returns c = rw c.phase_of-phase.ensures
