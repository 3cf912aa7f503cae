-- `send_at` reads a send's four numbers: each is below 2^32, so the PSN's is a PSN as it stands.
use Prim.Native.Nat.{◌+◌, ◌*◌}
use native.Mathlib.Nat.{mod-eq_of_lt}
use native.Mathlib.Omega.{arith}
use lib.ListN.{get_or}
use Rattle.serial.specs.Psn.{psns}
use Rattle.plan.specs.Plan.{planned_at}
use Rattle.plan.proofs.words.send_at.Goals as goal

pub returns : goal.returns
unfolding planned_at
returns c =
    let a = c.args in
    let at = 4 * a.i + 2 in
    rw (mod-eq_of_lt {n = get_or a.plan.now at 0} {m = psns} (omega (arith, c.type_inv.plan at)))
