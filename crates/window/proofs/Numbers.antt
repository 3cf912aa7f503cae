-- Products and quotients that linear arithmetic does not settle: how large a product is, and that a share is no more than the whole.
-- Assumes nothing.
use Prim.Native.Nat.{ℕ, ◌-◌, ◌*◌, ◌/◌, ◌^◌, ◌≤◌, ◌<◌}
use native.Mathlib.Nat.{mul-le-mul, div-le_of_le-mul, mul_comm, le_trans, mul-le-mul_left}
use native.Mathlib.Omega.{arith}
use lib.Dec.{T, leb, lit≤}
use Rattle.window.specs.Limits.{alpha_most, gain_most, delay_most, newly_end, inc_stop}

-- a product of two bounded numbers is at most k, where the bounds' product is
pub product : (m n k : ℕ) {a b : ℕ} → a ≤ m → b ≤ n → T (leb (m * n) k) → a * b ≤ k
product m n k h g t = le_trans (mul-le-mul h g) (lit≤ t)

-- a share of g is at most g
pub share : (g d a : ℕ) → d ≤ a → g * d / a ≤ g
share g d a h = div-le_of_le-mul a (rw (mul_comm a g) (mul-le-mul_left g h))

-- fi·newly is no more than inc_bytes may be
pub fi_fits : (fi newly : ℕ) → fi ≤ gain_most → newly < newly_end → fi * newly ≤ inc_stop
fi_fits fi newly h g = product gain_most newly_end inc_stop h (omega arith) tt

-- and neither is alpha·newly·(target - delay), nor the product on the way to it
pub alpha_fits :
    (alpha newly target delay : ℕ) → alpha ≤ alpha_most → newly < newly_end → target ≤ delay_most →
    (alpha * newly ≤ inc_stop) × (alpha * newly * (target - delay) ≤ inc_stop)
alpha_fits alpha newly target delay h g k =
    let gain : alpha * newly ≤ 2 ^ 45 = product alpha_most newly_end (2 ^ 45) h (omega arith) tt in
    let room : target - delay ≤ delay_most = omega arith in
    (omega arith, product (2 ^ 45) delay_most inc_stop gain room tt)
