-- Received counts: the signed difference, the forward units and the test for an old count, by cases; the wrapped
-- comparison at 24 bits, by `wrap`.
-- Assumes nothing.
use Rattle.std.proofs.Common.{◌≡◌, ℕ, ◌+◌, ◌-◌, ◌<◌, ◌≤◌, true, false, T, ltb, ℤ, pos, negsuc, ◌-ℤ◌, nat_abs, sym, refl, ap, ◌∙◌, zero-le, arith, w64, Fits, SFits, to_z, of_z, le-ltb, lt-ltb, le-leb, leb-false, leb-true}
use mathlib.Core.Logic.{by_cases}
use native.Mathlib.Decide.{dec_le}
use lib.Signed.{lt_z, non_neg}
use mir.ValLaws.{to_z-of_z}
use borrow.Author.Tests.{lt-leb}
use Rattle.rules.specs.Branch.{lt_yes, lt_no, lt_both}
use Rattle.serial.specs.Wrap.{minus}
use Rattle.serial.specs.Count.{counts, half, ahead_of, gap_of, is_old, forward_of}
use Rattle.serial.proofs.Wraps.{minus_lt, minus_self, wrap}

-- u less one turn is below zero, and fits the machine's signed word
pub turn_less : (u : ℕ) → u < counts → pos u -ℤ pos counts ≡ negsuc (counts - u - 1)
turn_less u h = simp (lt-ltb u counts h) (ap negsuc (omega arith))

pub turn_fits : (u : ℕ) → u < counts → SFits w64 (pos u -ℤ pos counts)
turn_fits u h = rw (turn_less u h) (record { sfits = omega arith })

module _ (count held : ℕ) where
  -- a difference is a count
  pub ahead_lt : ahead_of count held < counts
  unfolding ahead_of
  ahead_lt = minus_lt counts count held (omega arith)

  -- an old count brings nothing forward ..
  pub old_zero : is_old count held ≡ true → forward_of count held ≡ 0
  unfolding is_old forward_of
  old_zero e =
      let u = ahead_of count held in
      sym (lt_no u half 0 u 0 (leb-true half u e) refl)

  -- .. any other its difference
  pub new_ahead : is_old count held ≡ false → forward_of count held ≡ ahead_of count held
  unfolding is_old forward_of
  new_ahead e =
      let u = ahead_of count held in
      sym (lt_yes u half u u 0 (leb-false half u e) refl)

  -- forward units are fewer than 2^23
  pub forward_lt : forward_of count held < half
  unfolding forward_of
  forward_lt = lt_both (λ (x : ℕ). x < half) (ahead_of count held) half (ahead_of count held) 0 (λ l. l) (λ l. omega arith)

  -- the signed difference is below zero exactly where the count is old ..
  pub gap_sign : lt_z (gap_of count held) (pos 0) ≡ is_old count held
  unfolding gap_of is_old
  gap_sign =
      let u = ahead_of count held in
      lt_both (λ (z : ℤ). lt_z z (pos 0) ≡ is_old count held) u half (pos u) (negsuc (counts - u - 1))
      (λ l. le-ltb u 0 zero-le ∙ sym (lt-leb half u l)) (λ l. sym (le-leb half u l))

  -- .. and anywhere else it is the forward units
  pub gap_new : is_old count held ≡ false → gap_of count held ≡ pos (forward_of count held)
  unfolding gap_of is_old
  gap_new e =
      let u = ahead_of count held in
      sym (lt_yes u half (pos (forward_of count held)) (pos u) (negsuc (counts - u - 1)) (leb-false half u e) (ap pos (new_ahead e)))

  -- it fits the machine's signed word
  gap_fits : SFits w64 (gap_of count held)
  unfolding gap_of
  gap_fits =
      let u = ahead_of count held in
      lt_both (SFits w64) u half (pos u) (negsuc (counts - u - 1)) (λ l. record { sfits = omega arith })
      (λ l. record { sfits = omega arith })

  -- a signed word that holds the signed difference reads as it
  pub gap_word : (z : ℤ) → z ≡ gap_of count held → to_z w64 (of_z w64 z) ≡ gap_of count held
  gap_word z e = rw e (to_z-of_z w64 (gap_of count held) gap_fits)

  -- the sign that the code tests
  sign_of : (z : ℤ) → z ≡ gap_of count held → is_old count held ≡ lt_z z (pos 0)
  sign_of z e = sym gap_sign ∙ ap (λ (x : ℤ). lt_z x (pos 0)) (sym e)

  -- what the code tells of the forward units: below zero there are none, else the signed difference cast to an unsigned word is they
  pub gap_none : (z : ℤ) → z ≡ gap_of count held → lt_z z (pos 0) ≡ true → 0 ≡ forward_of count held
  gap_none z e o = sym (old_zero (sign_of z e ∙ o))

  pub gap_cast : (z : ℤ) → z ≡ gap_of count held → lt_z z (pos 0) ≡ false
      → (T (non_neg z) × Fits w64 (nat_abs z)) × (nat_abs z ≡ forward_of count held)
  gap_cast z e n = rw (e ∙ gap_new (sign_of z e ∙ n)) ((tt, record { fits = omega (arith, forward_lt) }), refl)

-- an equal count brings nothing forward
pub forward_self : (count : ℕ) → forward_of count count ≡ 0
unfolding ahead_of forward_of
forward_self count =
    let u = ahead_of count count in
    lt_both (λ (x : ℕ). x ≡ 0) u half u 0 (λ l. minus_self counts count (omega arith)) (λ l. refl)

-- THE FACT at 24 bits. Of two counts that lie less than 2^23 behind n: c is old against h exactly where it lies farther behind n than h
-- does; where it isn't, it brings the held count forward by the difference of how far they lie behind.
module _ (n h c : ℕ) (near : minus counts n h < half) (close : minus counts n c < half) where
  pub old_behind : is_old c h ≡ ltb (minus counts n h) (minus counts n c)
  unfolding ahead_of is_old
  old_behind =
      let w = wrap counts half n c h (omega arith) close near in
      by_cases (dec_le (minus counts n c) (minus counts n h))
      (λ le. lt-leb half (minus counts c h) (omega (arith, w.0 le)) ∙ sym (le-ltb (minus counts n h) (minus counts n c) le))
      (λ gt. le-leb half (minus counts c h) (w.1 (omega arith)) ∙ sym (lt-ltb (minus counts n h) (minus counts n c) (omega arith)))

  pub took : minus counts n c ≤ minus counts n h → forward_of c h + minus counts n c ≡ minus counts n h
  unfolding ahead_of
  took le =
      rw (new_ahead c h (old_behind ∙ le-ltb (minus counts n h) (minus counts n c) le))
      ((wrap counts half n c h (omega arith) close near).0 le)
