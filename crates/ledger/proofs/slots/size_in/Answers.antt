-- `slots::size_in` is `size_in`, a remainder.
use Rattle.std.proofs.Common.{refl, arith}
use Rattle.ledger.specs.Memory.{size_in}
use Rattle.ledger.proofs.slots.size_in.Goals as goal

pub returns : goal.returns
unfolding size_in
returns c = (refl, omega arith)
