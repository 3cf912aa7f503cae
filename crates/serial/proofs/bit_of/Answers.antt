-- `bit_of` is bit i of the map: the shift by i, its lowest digit.
use Rattle.std.proofs.Common.{le-ltb, lt-ltb}
use Rattle.serial.specs.Psn.{bit_of}
use Rattle.serial.proofs.bit_of.Goals as goal

pub returns-then-i-lt64 : goal.returns-then-i-lt64
unfolding bit_of
returns-then-i-lt64 c = simp (lt-ltb c.args.i 64 c.if-i-lt64.true)

pub returns : goal.returns
unfolding bit_of
returns c = simp (le-ltb c.args.i 64 c.if-i-lt64.false)
