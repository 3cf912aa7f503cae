-- `newly` is 256 bytes for each forward unit, of which there are fewer than 2^23.
use Rattle.std.proofs.Common.{ℕ, ◌*◌, ap, arith}
use Rattle.serial.proofs.Counts.{forward_lt}
use Rattle.ledger.specs.Bounds.{unit}
use Rattle.ledger.specs.Steps.{newly_of}
use Rattle.ledger.proofs.judge.newly.Goals as goal

pub overflow_mul-result : goal.overflow_mul-result
overflow_mul-result c = omega (arith, forward_lt c.args.count c.args.held)

pub returns : goal.returns
unfolding newly_of
returns c = (
  ap (λ (n : ℕ). unit * n) c.forward.ensures,
  omega (arith, forward_lt c.args.count c.args.held),
)
