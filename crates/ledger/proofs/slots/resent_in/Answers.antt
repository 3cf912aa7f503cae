-- `slots::resent_in` is `resent_in`.
use Rattle.std.proofs.Common.{refl}
use Rattle.ledger.specs.Memory.{resent_in}
use Rattle.ledger.proofs.slots.resent_in.Goals as goal

pub returns : goal.returns
unfolding resent_in
returns c = refl
