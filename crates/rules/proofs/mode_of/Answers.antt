use Rattle.rules.specs.Mode.{mode_of}
use Rattle.rules.proofs.mode_of.Goals as goal

pub returns-then-on : goal.returns-then-on
unfolding mode_of
returns-then-on c = rw c.if-on.true

pub returns-else-on : goal.returns-else-on
unfolding mode_of
returns-else-on c = rw c.if-on.false
