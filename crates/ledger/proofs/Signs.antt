-- Signed in-flight in two naturals, how far it stands above zero and how far below: sums and differences are then linear, its bounds are
-- kept by what the rows leave, and it fits the machine's signed word.
-- Assumes nothing.
use Rattle.std.proofs.Common.{◌≡◌, ℕ, zero, suc, ◌+◌, ◌-◌, ◌^◌, ◌<◌, ◌≤◌, Bool, true, false, T, ltb, leb, ◌⊎◌, ℤ, pos, negsuc, ◌+ℤ◌, ◌-ℤ◌, nat_abs, sym, refl, ap, ◌∙◌, inl, inr, ⊎_elim, arith, w64, Fits, SFits, to_z, of_z, ltb-false, ltb-true, leb-true}
use mathlib.Core.Bool.{and-true}
use lib.IntN.{sub_ℕ, +ℤ_idr}
use lib.Signed.{le_z, lt_z, non_neg}
use mir.ValLaws.{to_z-of_z, to_z_pos}
use Rattle.ledger.specs.Bounds.{in_flight_least, in_bounds, sinks, above, below, Flown}
use Rattle.ledger.specs.Ring.{Ledger}
use Rattle.ledger.specs.Sound.{SoundLedger}

-- at most one of the two is not zero
pub one_side : (z : ℤ) → (above z ≡ 0) ⊎ (below z ≡ 0)
one_side (pos n) = inr refl
one_side (negsuc n) = inl refl

-- a less b
sub_split : (a b : ℕ) → above (sub_ℕ a b) + b ≡ a + below (sub_ℕ a b)
sub_split a b = go (ltb a b) refl
  where
    go : (t : Bool) → ltb a b ≡ t → above (sub_ℕ a b) + b ≡ a + below (sub_ℕ a b)
    go true e = let l = ltb-true a b e in rw e (omega arith)
    go false e = let l = ltb-false a b e in rw e (omega arith)

-- n bytes more, and n bytes less
pub more_split : (z : ℤ) (n : ℕ) → above (z +ℤ pos n) + below z ≡ above z + n + below (z +ℤ pos n)
more_split (pos a) n = omega arith
more_split (negsuc a) n = omega (arith, sub_split n (suc a))

pub less_split : (z : ℤ) (n : ℕ) → above (z -ℤ pos n) + below z + n ≡ above z + below (z -ℤ pos n)
less_split z zero = rw (+ℤ_idr z) (omega arith)
less_split (pos a) (suc n) = omega (arith, sub_split a (suc n))
less_split (negsuc a) (suc n) = omega arith

-- the tests, as facts
pub sinks_not : (z : ℤ) (n : ℕ) → sinks z n ≡ false → below (z -ℤ pos n) ≤ 2 ^ 24
unfolding sinks
sinks_not z n e = go (z -ℤ pos n) e
  where
    go : (y : ℤ) → lt_z y in_flight_least ≡ false → below y ≤ 2 ^ 24
    go (pos a) h = omega arith
    go (negsuc a) h = omega (arith, ltb-false (2 ^ 24 - 1) a h)

pub at_most : (z : ℤ) (m : ℕ) → le_z z (pos m) ≡ true → above z ≤ m
at_most (pos a) m e = leb-true a m e
at_most (negsuc a) m e = omega arith

-- the bounds are kept
pub flown_wide : {m n : ℕ} (z : ℤ) → m ≤ n → Flown m z → Flown n z
flown_wide z l f = record { low = f.low; high = omega (arith, f.high) }

pub flown_less : (maxwnd : ℕ) (z : ℤ) (n : ℕ) → Flown maxwnd z → sinks z n ≡ false → Flown maxwnd (z -ℤ pos n)
flown_less maxwnd z n f e =
    ⊎_elim
    (λ o. record { low = sinks_not z n e; high = omega arith })
    (λ o. record { low = sinks_not z n e; high = omega (arith, less_split z n, f.high) })
    (one_side (z -ℤ pos n))

pub flown_more : (maxwnd mtu : ℕ) (z : ℤ) (n : ℕ) → Flown maxwnd z → le_z (z +ℤ pos mtu) (pos maxwnd) ≡ true → n ≤ mtu
    → Flown maxwnd (z +ℤ pos n)
flown_more maxwnd mtu z n f e l =
    let h = at_most (z +ℤ pos mtu) maxwnd e in
    ⊎_elim
    (λ o. record { low = omega (arith, more_split z n, f.low); high = omega arith })
    (λ o. record { low = omega arith; high = omega (arith, more_split z n, more_split z mtu, h) })
    (one_side (z +ℤ pos n))

-- a step relies on bounds that hold for any settings
pub sound_ledger_flown : {l : Ledger} → SoundLedger l → Flown (2 ^ 26) l.totals.in_flight
sound_ledger_flown {l} c = flown_wide l.totals.in_flight c.maxwnd_high c.flown

-- ---- the machine's signed word

near_fits : (z : ℤ) → below z ≤ 2 ^ 62 → above z ≤ 2 ^ 62 → SFits w64 z
near_fits (pos a) b h = record { sfits = omega arith }
near_fits (negsuc a) b h = record { sfits = omega arith }

-- in its bounds, in-flight reads back as it was written
pub word : (z : ℤ) → Flown (2 ^ 26) z → to_z w64 (of_z w64 z) ≡ z
word z f = to_z-of_z w64 z (near_fits z (omega (arith, f.low)) (omega (arith, f.high)))

pub flown_word : (z : ℤ) → Flown (2 ^ 26) z → Flown (2 ^ 26) (to_z w64 (of_z w64 z))
flown_word z f = rw (word z f) f

-- a test of the word is a test of in-flight
pub sinks_word : (z : ℤ) → Flown (2 ^ 26) z → (n m : ℕ) → n ≡ m → (b : Bool) → b ≡ sinks (to_z w64 (of_z w64 z)) n → sinks z m ≡ b
sinks_word z f n m q b e = rw (← q) (ap (λ (y : ℤ). sinks y n) (sym (word z f)) ∙ sym e)

module _ (z : ℤ) (n : ℕ) (f : Flown (2 ^ 26) z) (few : n < 2 ^ 32) where
  less_fits : SFits w64 (z -ℤ pos n)
  less_fits =
      ⊎_elim
      (λ o. near_fits (z -ℤ pos n) (omega (arith, less_split z n, f.low)) (omega arith))
      (λ o. near_fits (z -ℤ pos n) (omega arith) (omega (arith, less_split z n, f.high)))
      (one_side (z -ℤ pos n))

  more_fits : SFits w64 (z +ℤ pos n)
  more_fits =
      ⊎_elim
      (λ o. near_fits (z +ℤ pos n) (omega (arith, more_split z n, f.low)) (omega arith))
      (λ o. near_fits (z +ℤ pos n) (omega arith) (omega (arith, more_split z n, f.high)))
      (one_side (z +ℤ pos n))

  -- and so do in-flight and the bytes that it rises or falls by
  both : (to_z w64 (of_z w64 z) ≡ z) × (to_z w64 n ≡ pos n)
  both = (word z f, to_z_pos w64 n (omega arith))

  pub less_ok : SFits w64 (to_z w64 (of_z w64 z) -ℤ to_z w64 n)
  less_ok = rw (both.0, both.1) less_fits

  pub less_is : to_z w64 (of_z w64 (to_z w64 (of_z w64 z) -ℤ to_z w64 n)) ≡ z -ℤ pos n
  less_is = rw (both.0, both.1) (to_z-of_z w64 (z -ℤ pos n) less_fits)

  pub more_ok : SFits w64 (to_z w64 (of_z w64 z) +ℤ to_z w64 n)
  more_ok = rw (both.0, both.1) more_fits

  pub more_is : to_z w64 (of_z w64 (to_z w64 (of_z w64 z) +ℤ to_z w64 n)) ≡ z +ℤ pos n
  more_is = rw (both.0, both.1) (to_z-of_z w64 (z +ℤ pos n) more_fits)

  -- whether it would sink, as the code tests it
  pub sinks_is : (y : ℤ) → y ≡ z -ℤ pos n → lt_z (to_z w64 (of_z w64 y)) in_flight_least ≡ sinks z n
  unfolding sinks
  sinks_is y e = rw (e, to_z-of_z w64 (z -ℤ pos n) less_fits)

-- ---- in-flight's bounds, as the code tests them: below zero the one, else the other

pub bounds_below : (maxwnd : ℕ) (z : ℤ) → lt_z z (pos 0) ≡ true → le_z in_flight_least z ≡ in_bounds maxwnd z
unfolding in_bounds
bounds_below maxwnd (pos a) e = absurd (omega (arith, ltb-true a 0 e))
bounds_below maxwnd (negsuc a) e = sym (and-true (leb a (2 ^ 24 - 1)))

pub bounds_above : (maxwnd : ℕ) (z : ℤ) → SFits w64 z → lt_z z (pos 0) ≡ false
    → (T (non_neg z) × Fits w64 (nat_abs z)) × (leb (nat_abs z) maxwnd ≡ in_bounds maxwnd z)
unfolding in_bounds
bounds_above maxwnd (pos a) f e = ((tt, record { fits = omega (arith, f.sfits) }), refl)
bounds_above maxwnd (negsuc a) f e = let k : ◌≡◌ {A = ℕ} 0 1 = cc in absurd (let b : ⊥ = omega arith in b)
