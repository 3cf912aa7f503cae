-- `count_avoided` counts the avoided EVs: by its invariant, what is counted and the count of what is left make the count of all.
use Rattle.std.proofs.Common.{get_or, arith}
use Rattle.paths.proofs.Walk.{avoids_le, avoided_next, avoided_rest}
use Rattle.paths.proofs.count_avoided.Goals as goal

pub overflow_add-count : goal.overflow_add-count
overflow_add-count c = let a = c.args in
    omega (arith, avoids_le a.time (get_or a.evs.now c.loop-until.until-index 0))

pub loop-until-preserved : goal.loop-until-preserved
loop-until-preserved c = let a = c.args in
    let i = c.loop-until.until-index in
    let next = avoided_next a.time a.evs.now i (omega arith) in
    let one = avoids_le a.time (get_or a.evs.now i 0) in
    (omega arith, omega arith)

pub returns : goal.returns
returns c = let a = c.args in
    let rest = avoided_rest a.time a.evs.now c.loop-until.until-index (omega arith) in
    (omega arith, omega arith)
