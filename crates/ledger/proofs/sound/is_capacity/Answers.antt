-- `is_capacity` is the definition's chain of comparisons.
use Rattle.std.proofs.Common.{refl}
use Rattle.ledger.specs.Sound.{is_capacity}
use Rattle.ledger.proofs.sound.is_capacity.Goals as goal

pub returns : goal.returns
unfolding is_capacity
returns c = refl
