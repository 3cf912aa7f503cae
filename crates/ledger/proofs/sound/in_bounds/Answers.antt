-- `in_bounds`: below zero the lower bound is tested (`bounds_below`), else the upper one (`bounds_above`).
use Rattle.std.proofs.Common.{w64}
use mir.ValLaws.{to_z-of_z}
use Rattle.ledger.proofs.Signs.{bounds_below, bounds_above}
use Rattle.ledger.proofs.sound.in_bounds.Goals as goal

pub returns-then-in_flight-lt0 : goal.returns-then-in_flight-lt0
returns-then-in_flight-lt0 c =
    let z = c.args.in_flight in
    let e = to_z-of_z w64 z c.ranges.in_flight in
    rw e (bounds_below c.args.maxwnd z (rw e at c.if-in_flight-lt0.true))

pub overflow_cast-result : goal.overflow_cast-result
overflow_cast-result c =
    let z = c.args.in_flight in
    let e = to_z-of_z w64 z c.ranges.in_flight in
    rw e (bounds_above c.args.maxwnd z c.ranges.in_flight (rw e at c.if-in_flight-lt0.false)).0

pub returns : goal.returns
returns c =
    let z = c.args.in_flight in
    let e = to_z-of_z w64 z c.ranges.in_flight in
    rw e (bounds_above c.args.maxwnd z c.ranges.in_flight (rw e at c.if-in_flight-lt0.false)).1
