-- `place` masks, which for a capacity gives the remainder (`masks`), and that is below the capacity.
use Rattle.std.proofs.Common.{mod-lt, arith}
use Rattle.ledger.proofs.Geometry.{cap_facts}
use Rattle.ledger.proofs.slots.place.Goals as goal

pub overflow_sub-result : goal.overflow_sub-result
overflow_sub-result c = omega (arith, (cap_facts _ c.requires).least)

pub returns : goal.returns
returns c =
    let C = cap_facts _ c.requires in
    (C.masks _, rw C.masks (mod-lt _ (omega (arith, C.least))))
