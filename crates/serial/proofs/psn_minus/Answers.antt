-- `psn_minus` is the difference modulo 2^32: the machine's wrapping difference, by `minus_of`.
use Rattle.std.proofs.Common.{sym, ◌∙◌, mod-eq_of_lt, arith}
use Rattle.serial.specs.Psn.{psns}
use Rattle.serial.proofs.Wraps.{minus_of}
use Rattle.serial.proofs.psn_minus.Goals as goal

pub returns : goal.returns
returns c =
    sym (mod-eq_of_lt (omega arith))
    ∙ minus_of psns 1 _ _ c.args.b (omega arith) c.wrapping_sub_u32.ensures.value
