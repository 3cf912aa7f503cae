-- `is_set` is bit i: the shift of its word, and the lowest digit.
use mathlib.Core.Path.{refl}
use Rattle.bits.specs.Bits.{bit_at, bit}
use Rattle.bits.proofs.is_set.Goals as goal

pub returns : goal.returns
unfolding bit_at bit
returns c = refl
