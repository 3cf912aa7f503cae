-- `slots::fly` puts the two bits and stores the two numbers.
use Rattle.std.proofs.Common.{refl}
use Rattle.ledger.specs.Memory.{packed}
use Rattle.ledger.proofs.Shows.{memories}
use Rattle.ledger.proofs.slots.fly.Goals as goal

pub returns-clause-memory : goal.returns-clause-memory
unfolding packed
returns-clause-memory c =
    memories c.put.ensures c.put-2.ensures refl refl
