-- `in_flight_word` cuts in-flight to its bounds; there the sum with 2^24 fits (`cut_flown`), and it is the word (`word_cut`).
use mathlib.Core.Path.{◌≡◌}
use native.Mathlib.Omega.{arith}
use mir.Syntax.{w64}
use mir.ValLaws.{to_z-of_z}
use Rattle.ledger.specs.Bounds.{Flown}
use Rattle.ledger.proofs.Signs.{more_ok, more_is}
use Rattle.c_state.specs.Layout.{in_flight_added, in_flight_most}
use Rattle.c_state.proofs.InFlight.{cut, cut_flown, word_cut, raised_cast}
use Rattle.c_state.proofs.in_flight_word.Goals as goal
use Rattle.c_state.proofs.in_flight_word.Goals.{After-clamp}

is_cut : (c : After-clamp) → c.clamp.result ≡ cut c.args.z
is_cut c = rw (to_z-of_z w64 c.args.z c.ranges.z) at c.clamp.ensures.value

flown : (c : After-clamp) → Flown in_flight_most c.clamp.result
flown c = rw (is_cut c) (cut_flown c.args.z)

pub overflow_add-result : goal.overflow_add-result
overflow_add-result c = more_ok c.clamp.result in_flight_added (flown c) (omega arith)

pub overflow_cast-result : goal.overflow_cast-result
overflow_cast-result c = rw (more_is c.clamp.result in_flight_added (flown c) (omega arith)) (raised_cast c.clamp.result (flown c))

pub returns : goal.returns
returns c = rw (more_is c.clamp.result in_flight_added (flown c) (omega arith), is_cut c) (word_cut c.args.z)
