-- `one_avoided` tells whether an EV is avoided by the highest bit of the difference: it is below zero exactly where the time is
-- before the EV's (`sign_tells`).
use Rattle.std.proofs.Common.{arith}
use Rattle.paths.proofs.Walk.{sign_tells}
use Rattle.paths.proofs.one_avoided.Goals as goal

pub returns : goal.returns
returns c = sign_tells c.args.time c.args.until c.wrapping_sub_u64.result c.requires.1 c.requires.0 (omega arith)
    c.wrapping_sub_u64.ensures.value
