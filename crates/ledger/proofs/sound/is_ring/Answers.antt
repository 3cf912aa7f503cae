-- `is_ring` makes the tests of `is_even`, each by a number of its own (`even_test`).
use Rattle.ledger.specs.Lent.{memory_of}
use Rattle.ledger.proofs.Tally.{even_test}
use Rattle.ledger.proofs.sound.is_ring.Goals as goal

pub returns : goal.returns
returns c =
    let a = c.args in
    rw c.is_capacity.ensures (even_test (memory_of a.ring))
