-- `is_within` makes the tests of `sized_in`.
use Rattle.std.proofs.Common.{refl, arith}
use Rattle.rules.specs.Test.{inside}
use Rattle.ledger.specs.Memory.{size_in, resent_in}
use Rattle.ledger.specs.Stretch.{sized_in}
use Rattle.ledger.proofs.stretch.is_within.Goals as goal

pub returns : goal.returns
unfolding sized_in inside size_in resent_in
returns c = (refl, omega arith)
