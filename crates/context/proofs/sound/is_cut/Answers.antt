-- `is_cut` makes the tests of `is_cut`, the capacity's first: it bounds what the others are computed from.
use mathlib.Core.Path.{sym, ◌∙◌}
use Prim.Native.Nat.{◌*◌, ◌/◌, ◌≤◌}
use native.Mathlib.Nat.{mul-le-mul}
use native.Mathlib.Omega.{arith}
use Rattle.ledger.proofs.Geometry.{cap_facts}
use Rattle.context.specs.Sound.{is_cut}
use Rattle.context.proofs.sound.is_cut.Goals as goal
use Rattle.context.proofs.sound.is_cut.Goals.{Else-not-is_capacity}

small : (c : Else-not-is_capacity) → let a = c.args in
    (a.n * a.cap ≤ 8 * 4096) × (a.n * (a.cap / 64) ≤ 8 * 4096)
small c =
    let l = (cap_facts c.args.cap (sym c.is_capacity.ensures ∙ c.if-not-is_capacity.false)).most in
    (mul-le-mul {m₂ = 4096} c.requires l, mul-le-mul {m₂ = 4096} c.requires (omega (arith, l)))

pub returns-then-not-is_capacity : goal.returns-then-not-is_capacity
unfolding is_cut
returns-then-not-is_capacity c = rw (sym c.is_capacity.ensures ∙ c.if-not-is_capacity.true)

pub overflow_mul-words : goal.overflow_mul-words
overflow_mul-words c = let m = small (goal.at.overflow_mul-words c).Else-not-is_capacity in record { fits = omega (arith, m.0, m.1) }

pub overflow_mul-slots : goal.overflow_mul-slots
overflow_mul-slots c = let m = small (goal.at.overflow_mul-slots c).Else-not-is_capacity in record { fits = omega (arith, m.0, m.1) }

pub returns : goal.returns
unfolding is_cut
returns c = rw (sym c.is_capacity.ensures ∙ c.if-not-is_capacity.false)
