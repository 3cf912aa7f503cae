-- `totals_from` is `totals_from`, word by word; in-flight's word less 2^24 fits the signed word, by `lowered_fits`.
use native.Mathlib.Omega.{arith}
use mir.Syntax.{w64}
use mir.ValLaws.{to_z-of_z, to_z_pos}
use lib.IntN.{pos, ◌-ℤ◌}
use lib.ListN.{get_or}
use Rattle.c_state.specs.Places as place
use Rattle.c_state.specs.Layout.{in_flight_added, totals_from}
use Rattle.c_state.proofs.InFlight.{lowered_fits}
use Rattle.c_state.proofs.totals_from.Goals as goal

pub overflow_sub-result : goal.overflow_sub-result
overflow_sub-result c =
    let w = get_or c.args.ws.now place.in_flight 0 in
    let P = c.requires in
    rw (to_z_pos w64 w (omega (arith, P.in_flight))) (lowered_fits w P.in_flight)

pub returns : goal.returns
unfolding totals_from
returns c =
    let w = get_or c.args.ws.now place.in_flight 0 in
    let P = c.requires in
    rw (to_z_pos w64 w (omega (arith, P.in_flight)), to_z-of_z w64 (pos w -ℤ pos in_flight_added) (lowered_fits w P.in_flight))
