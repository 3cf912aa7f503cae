-- A signed number's text: how long it is, and that a sign and how far the number is below zero make it. Each fact is shown of the number,
-- and then of the machine's word for it, which is what the code has.
-- Assumes nothing.
use mathlib.Core.Path.{◌≡◌, refl, ap}
use Prim.Native.Nat.{ℕ, zero, suc, ◌+◌, ◌^◌, ◌≤◌, ◌<◌}
use mathlib.Core.Bool.{true, false}
use mathlib.Core.List.{◌∷◌}
use lib.Dec.{T}
use lib.IntN.{ℤ, pos, negsuc, nat_abs, ◌+ℤ◌, ◌-ℤ◌, +ℤ_one}
use lib.ListN.{length}
use lib.Signed.{lt_z, mag, non_neg}
use mir.Facts.{to_z-of_z}
use mir.Syntax.{w64}
use mir.Val.{Fits, SFits, to_z, of_z}
use borrow.Author.Tests.{ltb-true}
use native.Mathlib.Nat.{zero-add}
use native.Mathlib.Omega.{arith}
use Rattle.text.specs.Decimal.{digits_most, minus_glyph, decimal, signed}
use Rattle.text.proofs.Digits.{decimal_short, decimal_narrow}

-- ---- how long a signed number's text is

-- 2^63 has 19 digits, which leave room for a sign
sign_room : (n : ℕ) → n ≤ 2 ^ 63 → suc (length (decimal n)) ≤ digits_most
sign_room n h = omega (arith, decimal_narrow 18 n (omega arith))

abs_room : (z : ℤ) → SFits w64 z → suc (length (decimal (nat_abs z))) ≤ digits_most
abs_room (pos n) f = sign_room n (omega (arith, f.sfits))
abs_room (negsuc n) f = sign_room (suc n) (omega (arith, f.sfits))

pub signed_short : (z : ℤ) → SFits w64 z → length (signed z) ≤ digits_most
unfolding signed
signed_short (pos n) f = decimal_short n
signed_short (negsuc n) f = abs_room (negsuc n) f

-- ---- by cases, of the number itself

-- 0 - (z + 1), one less than how far z is below zero
abbrev turned : ℤ → ℤ
turned z = pos 0 -ℤ (z +ℤ pos 1)

up_is : (n : ℕ) → mag (negsuc n +ℤ pos 1) ≤ n
up_is zero = omega arith
up_is (suc n) = rw (+ℤ_one (negsuc (suc n))) (omega arith)

turned_is : (n : ℕ) → turned (negsuc n) ≡ pos n
turned_is zero = refl
turned_is (suc n) = rw (+ℤ_one (negsuc (suc n))) (ap pos (zero-add (suc n)))

-- what `below_zero` asks at each step, and what it gives; a, b and t are what it has for z, z + 1 and 0 - (z + 1)
pub record Below (z a b t : ℤ) : Type 0 where
  pub up : SFits w64 (a +ℤ pos 1)
  pub down : SFits w64 (pos 0 -ℤ b)
  pub cast : T (non_neg t) × Fits w64 (nat_abs t)
  pub sum : Fits w64 (nat_abs t + 1)
  pub is : nat_abs t + 1 ≡ nat_abs z

below_at : (z : ℤ) → SFits w64 z → lt_z z (pos 0) ≡ true → Below z z (z +ℤ pos 1) (turned z)
below_at (pos n) f h = absurd (omega (arith, ltb-true n 0 h))
below_at (negsuc n) f h =
    let small : n < 2 ^ 63 = f.sfits in
    record {
      up = record { sfits = omega (arith, up_is n) };
      down = rw (turned_is n) (record { sfits = small });
      cast = rw (turned_is n) (tt, record { fits = omega arith });
      sum = rw (turned_is n) (record { fits = omega arith });
      is = rw (turned_is n) (omega arith);
    }

minus_at : (z : ℤ) (n : ℕ) → lt_z z (pos 0) ≡ true → n ≡ nat_abs z → minus_glyph ∷ decimal n ≡ signed z
unfolding signed
minus_at (pos m) n h e = absurd (omega (arith, ltb-true m 0 h))
minus_at (negsuc m) n h e = rw e

plain_at : (z : ℤ) → SFits w64 z → lt_z z (pos 0) ≡ false → (T (non_neg z) × Fits w64 (nat_abs z)) × (decimal (nat_abs z) ≡ signed z)
unfolding signed
plain_at (pos n) f h = ((tt, record { fits = omega (arith, f.sfits) }), refl)
plain_at (negsuc n) f h = let z : ◌≡◌ {A = ℕ} 0 1 = cc in absurd (let k : ⊥ = omega arith in k)

-- ---- of the machine's word for it

abbrev word : ℤ → ℤ
word z = to_z w64 (of_z w64 z)

module _ (z : ℤ) (f : SFits w64 z) where
  same : word z ≡ z
  same = to_z-of_z f

  pub below : lt_z z (pos 0) ≡ true → Below z (word z) (word (word z +ℤ pos 1)) (word (pos 0 -ℤ word (word z +ℤ pos 1)))
  below h =
      let steps = below_at z f h in
      let up : word (z +ℤ pos 1) ≡ z +ℤ pos 1 = to_z-of_z steps.up in
      let down : word (turned z) ≡ turned z = to_z-of_z steps.down in
      rw (same, up, down) steps

  pub minus_room : (n : ℕ) → n ≡ nat_abs (word z) → suc (length (decimal n)) ≤ digits_most
  minus_room n e = rw (e, same) (abs_room z f)

  pub minus : (n : ℕ) → lt_z (word z) (pos 0) ≡ true → n ≡ nat_abs (word z) → minus_glyph ∷ decimal n ≡ signed z
  minus n h e = minus_at z n (rw same at h) (rw same at e)

  -- no sign: the cast fits, and the digits are the text
  pub plain : lt_z (word z) (pos 0) ≡ false → (T (non_neg (word z)) × Fits w64 (nat_abs (word z))) × (decimal (nat_abs (word z)) ≡ signed z)
  plain h = rw same (plain_at z f (rw same at h))
