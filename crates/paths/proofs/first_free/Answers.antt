-- `first_free` finds the first free EV: by its invariant, the place that is reached and the first free place of
-- what is left make that of all.
use Rattle.std.proofs.Common.{arith}
use Rattle.paths.proofs.Walk.{free_next, free_here, free_rest}
use Rattle.paths.proofs.first_free.Goals as goal

pub returns-then-until-time : goal.returns-then-until-time
returns-then-until-time c = let a = c.args in
    let here = free_here a.time a.evs.now c.loop-i.i (omega arith) (omega arith) in
    (omega arith, omega arith)

pub loop-i-preserved : goal.loop-i-preserved
loop-i-preserved c = let a = c.args in
    let next = free_next a.time a.evs.now c.loop-i.i (omega arith) (omega arith) in
    omega arith

pub returns : goal.returns
returns c = let a = c.args in
    let rest = free_rest a.time a.evs.now c.loop-i.i (omega arith) in
    (omega arith, omega arith)
