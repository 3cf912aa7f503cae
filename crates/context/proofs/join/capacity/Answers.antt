-- `capacity`: the highest bit of n rings of 2^j slots stands j above n's, so there are j zeros less above it.
use mathlib.Core.Path.{◌≡◌, sym, ap, ◌∙◌}
use mathlib.Core.Logic.{by_cases}
use Prim.Native.Nat.{ℕ, suc, ◌+◌, ◌-◌, ◌*◌, ◌/◌, ◌^◌, ◌≤◌, ◌<◌}
use native.Mathlib.Nat.{le_trans, lt_of_lt_of_le, not-le_of_lt, suc-add, mul-le-mul_right, mul-le-mul}
use native.Mathlib.Omega.{arith}
use native.Mathlib.Decide.{dec_le}
use lib.Count.{count_leading_zeros, leading_top}
use lib.Pow.{pow-add, pow_mono, pow_pos, shl_lt}
use Rattle.ledger.proofs.Geometry.{cap_facts}
use Rattle.context.proofs.join.capacity.Goals as goal
use Rattle.context.proofs.join.capacity.Goals.{Start}

-- a power of two that is at most x is at most the one below the next power above x
below : (a b x : ℕ) → 2 ^ a ≤ x → x < 2 ^ suc b → a ≤ b
below a b x l h = by_cases (dec_le a b) (λ y. y) (λ n. absurd (not-le_of_lt h (le_trans (pow_mono (omega arith)) l)))

-- n · 2^j has j zeros less above its highest bit than n has
above : (n j : ℕ) → 0 < n → n < 2 ^ 64 → n * 2 ^ j < 2 ^ 64 → count_leading_zeros 64 n ≡ count_leading_zeros 64 (n * 2 ^ j) + j
above n j p small h =
    let t = leading_top 64 n p small in
    let u = leading_top 64 (n * 2 ^ j) (lt_of_lt_of_le (pow_pos j) (omega (arith, mul-le-mul_right (2 ^ j) p))) h in
    let low : t.0 + j ≤ u.0 = below _ _ _ (rw (pow-add 2 t.0 j) (mul-le-mul_right (2 ^ j) t.2)) u.3 in
    let high : u.0 ≤ t.0 + j = below _ (t.0 + j) _ u.2 (rw (suc-add t.0 j) at (shl_lt (suc t.0) j t.3)) in
    omega (arith, t.1, u.1)

-- n rings of 2^j slots
rings : (c : Start) → (j : ℕ) × (c.args.slots / c.args.n ≡ 2 ^ j) × (j ≤ 12)
    × (count_leading_zeros 64 c.args.n ≡ count_leading_zeros 64 c.args.slots + j)
rings c =
    let C = cap_facts _ c.requires.2 in
    let j = C.power.0 in
    let e = C.power.1 in
    let all : c.args.slots ≡ c.args.n * 2 ^ j = rw e at c.requires.3 in
    let l : c.args.n * 2 ^ j ≤ 8 * 4096 = mul-le-mul c.requires.1 (rw e at C.most) in
    let zeros = above c.args.n j c.requires.0 (omega (arith, c.requires.1)) (omega arith) in
    (j, e, below j 12 4096 (rw e at C.most) (omega arith), zeros ∙ ap (λ (x : ℕ). count_leading_zeros 64 x + j) (sym all))

pub overflow_sub-result : goal.overflow_sub-result
overflow_sub-result c = omega (arith, (rings (goal.at.overflow_sub-result c).Start).3)

pub overflow_cast-result : goal.overflow_cast-result
overflow_cast-result c = omega (arith, (rings (goal.at.overflow_cast-result c).Start).3, (rings (goal.at.overflow_cast-result c).Start).2)

pub overflow_shl-result : goal.overflow_shl-result
overflow_shl-result c = omega (arith, (rings (goal.at.overflow_shl-result c).Start).3, (rings (goal.at.overflow_shl-result c).Start).2)

pub returns : goal.returns
returns c =
    let R = rings (goal.at.returns c).Start in
    let j : count_leading_zeros 64 c.args.n - count_leading_zeros 64 c.args.slots ≡ R.0 = omega (arith, R.3) in
    let l = pow_mono R.2 in
    rw (j, R.1) (omega arith)
