-- `cut_of` is `cut_at` of the capacity.
use native.Mathlib.Omega.{arith}
use Rattle.ledger.proofs.Geometry.{cap_facts}
use Rattle.context.proofs.join.cut_of.Goals as goal

pub cut_at-requires : goal.cut_at-requires
cut_at-requires c =
    (omega (arith, c.requires), omega (arith, c.capacity.ensures, (cap_facts _ c.requires.2).most))

pub returns : goal.returns
returns c = rw c.capacity.ensures at c.cut_at.ensures
