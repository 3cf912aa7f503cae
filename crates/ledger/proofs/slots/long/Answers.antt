-- `long` is the wrapped difference that `long_of` is.
use Rattle.ledger.specs.Ring.{long_of}
use Rattle.ledger.proofs.slots.long.Goals as goal

pub returns : goal.returns
unfolding long_of
returns c = c.psn_minus.ensures
