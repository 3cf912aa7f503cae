-- `cut_at`: a flow's number times the slots of a ring, or its words, is small.
use Prim.Native.Nat.{◌*◌, ◌/◌, ◌≤◌}
use native.Mathlib.Nat.{mul-le-mul}
use native.Mathlib.Omega.{arith}
use Rattle.context.proofs.join.cut_at.Goals as goal
use Rattle.context.proofs.join.cut_at.Goals.{Start}

small : (c : Start) → (c.args.k * c.args.cap ≤ 8 * 32768) × (c.args.k * (c.args.cap / 64) ≤ 8 * 32768)
small c =
    let h : c.args.k ≤ 8 = omega (arith, c.requires) in
    (mul-le-mul {m₂ = 32768} h c.requires.1, mul-le-mul {m₂ = 32768} h (omega (arith, c.requires.1)))

pub overflow_mul-from : goal.overflow_mul-from
overflow_mul-from c = let m = small (goal.at.overflow_mul-from c).Start in record { fits = omega (arith, m.0, m.1) }

pub overflow_mul-at : goal.overflow_mul-at
overflow_mul-at c = let m = small (goal.at.overflow_mul-at c).Start in record { fits = omega (arith, m.0, m.1) }

pub overflow_add-result : goal.overflow_add-result
overflow_add-result c = let m = small (goal.at.overflow_add-result c).Start in record { fits = omega (arith, m.0, m.1, c.requires) }

pub overflow_add-result-2 : goal.overflow_add-result-2
overflow_add-result-2 c = let m = small (goal.at.overflow_add-result-2 c).Start in record { fits = omega (arith, m.0, m.1, c.requires) }
