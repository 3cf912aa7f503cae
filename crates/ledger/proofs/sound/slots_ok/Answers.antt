-- `slots_ok` takes the packets' slots in one run (`run_one`) or in two (`run_two`), and the others so.
use Rattle.std.proofs.Common.{length, refl, arith}
use Rattle.ledger.proofs.Geometry.{cap_facts}
use Rattle.ledger.proofs.Tally.{run_one, run_two}
use Rattle.ledger.proofs.sound.slots_ok.Goals as goal

pub zero_run-requires : goal.zero_run-requires
zero_run-requires c =
    omega (arith, cap_facts (length c.args.ring.sizes.now) c.requires.sizes_value.0)

pub zero_run-requires-then-end-cap : goal.zero_run-requires-then-end-cap
zero_run-requires-then-end-cap c =
    omega (arith, cap_facts (length c.args.ring.sizes.now) c.requires.sizes_value.0)

pub returns-then-end-cap : goal.returns-then-end-cap
returns-then-end-cap c =
    let a = c.args in
    let p = c.place-i in
    rw (c.live_run.ensures, c.zero_run.ensures, c.zero_run-then-end-cap.ensures)
    (run_one a.mtu a.clock a.ring.outstanding.now a.ring.sizes.now a.ring.sent.now (length a.ring.sizes.now)
    (cap_facts (length a.ring.sizes.now) c.requires.sizes_value.0) a.low a.n p.result _ p.ensures.0 refl
    c.if-end-cap.true)

pub zero_run-requires-2 : goal.zero_run-requires-2
zero_run-requires-2 c =
    omega (arith, cap_facts (length c.args.ring.sizes.now) c.requires.sizes_value.0)

pub returns : goal.returns
returns c =
    let a = c.args in
    let p = c.place-i in
    rw (c.zero_run-2.ensures, c.live_run-2.ensures, c.live_run-3.ensures)
    (run_two a.mtu a.clock a.ring.outstanding.now a.ring.sizes.now a.ring.sent.now (length a.ring.sizes.now)
    (cap_facts (length a.ring.sizes.now) c.requires.sizes_value.0) a.low a.n p.result _ p.ensures.0 refl
    c.if-end-cap.false c.requires.sizes_value.1)
