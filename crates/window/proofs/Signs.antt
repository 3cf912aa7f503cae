-- A signed number against 0: what the test tells of `above_zero`, and that the cast fits.
-- Assumes nothing.
use mathlib.Core.Path.{◌≡◌, refl}
use mathlib.Core.Bool.{true, false}
use Prim.Native.Nat.{ℕ}
use lib.Dec.{T}
use lib.IntN.{ℤ, pos, negsuc, nat_abs}
use lib.Signed.{lt_z, non_neg}
use mir.Syntax.{w64}
use mir.Val.{Fits, SFits}
use borrow.Author.Tests.{ltb-true}
use native.Mathlib.Omega.{arith}
use Rattle.window.specs.Quick.{above_zero}

pub above_negative : (z : ℤ) → lt_z z (pos 0) ≡ true → 0 ≡ above_zero z
above_negative (pos n) h = let k = ltb-true n 0 h in omega arith
above_negative (negsuc n) h = refl

pub above_positive : (z : ℤ) → lt_z z (pos 0) ≡ false → nat_abs z ≡ above_zero z
above_positive (pos n) h = refl
above_positive (negsuc n) h = let z : ◌≡◌ {A = ℕ} 0 1 = cc in omega arith

pub cast_fits : (z : ℤ) → SFits w64 z → lt_z z (pos 0) ≡ false → T (non_neg z) × Fits w64 (nat_abs z)
cast_fits (pos n) f h = (tt, record { fits = omega (arith, f.sfits) })
cast_fits (negsuc n) f h = let z : ◌≡◌ {A = ℕ} 0 1 = cc in absurd (let k : ⊥ = omega arith in k)
