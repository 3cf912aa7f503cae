-- `above_zero` answers max(in-flight, 0), by the sign of in-flight.
use mir.Facts.{to_z-of_z}
use Rattle.window.proofs.Signs.{above_negative, above_positive, cast_fits}
use Rattle.window.proofs.quick.above_zero.Goals as goal

pub returns-then-in_flight-lt0 : goal.returns-then-in_flight-lt0
returns-then-in_flight-lt0 c =
    above_negative c.args.in_flight (rw (to_z-of_z c.ranges.in_flight) at c.if-in_flight-lt0.true)

pub overflow_cast-result : goal.overflow_cast-result
overflow_cast-result c =
    let e = to_z-of_z c.ranges.in_flight in
    rw e (cast_fits c.args.in_flight c.ranges.in_flight (rw e at c.if-in_flight-lt0.false))

pub returns : goal.returns
returns c =
    let e = to_z-of_z c.ranges.in_flight in
    rw e (above_positive c.args.in_flight (rw e at c.if-in_flight-lt0.false))
