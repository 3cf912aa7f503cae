-- `tally_of` counts bits and adds up sizes, as `tally_of` does.
use Rattle.std.proofs.Common.{◌≤◌, length, refl, arith}
use Rattle.ledger.specs.Lent.{memory_of}
use Rattle.ledger.specs.Memory.{Memory}
use Rattle.ledger.specs.Sound.{Lengths}
use Rattle.ledger.specs.Stretch.{tally_of}
use Rattle.ledger.proofs.Geometry.{cap_facts}
use Rattle.ledger.proofs.sound.tally_of.Goals as goal

few : (m : Memory) → Lengths m → length m.outstanding ≤ 64
few m L = omega (arith, cap_facts _ L.cap)

pub ones-requires : goal.ones-requires
ones-requires c =
    let slots = memory_of c.args.ring in
    few (slots) c.requires

pub ones-requires-2 : goal.ones-requires-2
ones-requires-2 c =
    let slots = memory_of c.args.ring in
    omega (arith, few (slots) c.requires, c.requires.marked)

pub marked_sum-requires : goal.marked_sum-requires
marked_sum-requires c =
    let slots = memory_of c.args.ring in
    (omega (arith, c.requires.marked, c.requires.sizes), omega (arith, few (slots) c.requires, c.requires.marked))

pub returns : goal.returns
unfolding tally_of
returns c =
    (rw (c.ones.ensures.0, c.ones-2.ensures.0, c.marked_sum.ensures.0) refl, c.ones.ensures.1, c.ones-2.ensures.1, c.marked_sum.ensures.1)
