-- `span` is 64 less the leading zeros, which are at most 64.
use Rattle.std.proofs.Common.{refl}
use lib.Count.{leading_le}
use Rattle.serial.specs.Psn.{span_of}
use Rattle.serial.proofs.span.Goals as goal

pub overflow_sub-result : goal.overflow_sub-result
overflow_sub-result c = leading_le 64 c.args.map

pub returns : goal.returns
unfolding span_of
returns c = refl
