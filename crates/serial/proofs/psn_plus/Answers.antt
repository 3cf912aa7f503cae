-- `psn_plus` is the sum modulo 2^32: what the machine's wrapping sum ensures.
use Rattle.std.proofs.Common.{rules}
use Rattle.serial.specs.Psn.{plus}
use Rattle.serial.proofs.psn_plus.Goals as goal

pub returns : goal.returns
unfolding plus
returns c = search rules
