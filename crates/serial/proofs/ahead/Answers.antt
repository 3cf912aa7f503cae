-- `ahead` is the difference modulo 2^24 of any two numbers: 2^64 is 2^40 times 2^24, by `minus_of`.
use Rattle.std.proofs.Common.{◌^◌, arith}
use Rattle.serial.specs.Count.{counts, ahead_of}
use Rattle.serial.proofs.Wraps.{minus_of}
use Rattle.serial.proofs.ahead.Goals as goal

pub returns : goal.returns
unfolding ahead_of
returns c = minus_of counts (2 ^ 40) _ _ c.args.held (omega arith) c.wrapping_sub_u64.ensures.value
