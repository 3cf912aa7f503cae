-- In-flight's word: with 2^24 added, in-flight in its bounds is a number from 0 on, which fits the machine's word and tells in-flight back.
-- Assumes nothing.
use mathlib.Core.Path.{◌≡◌, refl, sym, ap, ◌∙◌}
use mathlib.Core.Bool.{Bool, true, false}
use mathlib.Core.Logic.{⊎_elim}
use Prim.Native.Nat.{ℕ, ◌+◌, ◌-◌, ◌≤◌}
use native.Mathlib.Omega.{arith}
use lib.Dec.{T, ltb}
use lib.IntN.{ℤ, pos, negsuc, nat_abs, ◌+ℤ◌, ◌-ℤ◌}
use lib.Signed.{non_neg}
use mir.Syntax.{w64}
use mir.Val.{Fits, SFits}
use borrow.Author.Tests.{ltb-false, le-ltb}
use Rattle.std.specs.Int.{int_min, int_max}
use Rattle.rules.specs.Branch.{if_so}
use Rattle.ledger.specs.Bounds.{in_flight_least, above, below, Flown}
use Rattle.ledger.proofs.Signs.{one_side, more_split, less_split}
use Rattle.c_state.specs.Layout.{in_flight_added, in_flight_most, in_flight_word}

-- one number: as far above zero, less as far below
same : (y z : ℤ) → above y + below z ≡ above z + below y → y ≡ z
same (pos a) (pos b) e = ap pos (omega arith)
same (pos a) (negsuc b) e = absurd (let k : ⊥ = omega arith in k)
same (negsuc a) (pos b) e = absurd (let k : ⊥ = omega arith in k)
same (negsuc a) (negsuc b) e = ap negsuc (omega arith)

-- ---- in-flight cut to its bounds, as the code cuts it

abbrev pub cut : ℤ → ℤ
cut z = int_max in_flight_least (int_min z (pos in_flight_most))

pub cut_flown : (z : ℤ) → Flown in_flight_most (cut z)
cut_flown (pos a) = go (ltb in_flight_most a) refl
  where
    go : (t : Bool) → ltb in_flight_most a ≡ t → Flown in_flight_most (cut (pos a))
    go true e = rw e (record { low = omega arith; high = omega arith })
    go false e = rw e (record { low = omega arith; high = ltb-false in_flight_most a e })
cut_flown (negsuc a) = go (ltb (in_flight_added - 1) a) refl
  where
    go : (t : Bool) → ltb (in_flight_added - 1) a ≡ t → Flown in_flight_most (cut (negsuc a))
    go true e = rw e (record { low = omega arith; high = omega arith })
    go false e = rw e (record { low = omega (arith, ltb-false (in_flight_added - 1) a e); high = omega arith })

pub word_cut : (z : ℤ) → nat_abs (cut z +ℤ pos in_flight_added) ≡ in_flight_word z
unfolding in_flight_word if_so
word_cut (pos a) = go (ltb in_flight_most a) refl
  where
    go : (t : Bool) → ltb in_flight_most a ≡ t → nat_abs (cut (pos a) +ℤ pos in_flight_added) ≡ in_flight_word (pos a)
    go true e = rw e
    go false e = rw e
word_cut (negsuc a) = go (ltb (in_flight_added - 1) a) refl
  where
    go : (t : Bool) → ltb (in_flight_added - 1) a ≡ t → nat_abs (cut (negsuc a) +ℤ pos in_flight_added) ≡ in_flight_word (negsuc a)
    go true e = rw e
    go false e = rw e

-- in its bounds it is not cut
uncut : (z : ℤ) → Flown in_flight_most z → cut z ≡ z
uncut (pos a) f = rw (le-ltb in_flight_most a f.high)
uncut (negsuc a) f = rw (le-ltb (in_flight_added - 1) a (omega (arith, f.low)))

-- ---- in-flight in its bounds

module _ (z : ℤ) (f : Flown in_flight_most z) where
  -- with 2^24 added it is not below zero ..
  raised : z +ℤ pos in_flight_added ≡ pos (above z + in_flight_added - below z)
  raised = same (z +ℤ pos in_flight_added) (pos (above z + in_flight_added - below z)) (omega (arith, more_split z in_flight_added, f.low))

  pub raised_cast : T (non_neg (z +ℤ pos in_flight_added)) × Fits w64 (nat_abs (z +ℤ pos in_flight_added))
  raised_cast = rw raised (tt, record { fits = omega (arith, f.high) })

  word_is : in_flight_word z ≡ above z + in_flight_added - below z
  word_is = sym (word_cut z) ∙ ap (λ (y : ℤ). nat_abs (y +ℤ pos in_flight_added)) (uncut z f) ∙ ap nat_abs raised

  pub word_most_lem : in_flight_word z ≤ in_flight_most + in_flight_added
  word_most_lem = omega (arith, word_is, f.high)

  -- .. and its word tells it
  pub word_back : pos (in_flight_word z) -ℤ pos in_flight_added ≡ z
  word_back =
      same (pos (in_flight_word z) -ℤ pos in_flight_added) z (omega (arith, less_split (pos (in_flight_word z)) in_flight_added, word_is, f.low))

  flown_fits : SFits w64 z
  flown_fits = fits z f.low f.high
    where
      fits : (y : ℤ) → below y ≤ in_flight_added → above y ≤ in_flight_most → SFits w64 y
      fits (pos a) l h = record { sfits = omega arith }
      fits (negsuc a) l h = record { sfits = omega arith }

-- ---- a word in its range

module _ (w : ℕ) (h : w ≤ in_flight_most + in_flight_added) where
  lowered_flown : Flown in_flight_most (pos w -ℤ pos in_flight_added)
  lowered_flown =
      ⊎_elim
      (λ o. record { low = omega (arith, less_split (pos w) in_flight_added); high = omega arith })
      (λ o. record { low = omega arith; high = omega (arith, less_split (pos w) in_flight_added) })
      (one_side (pos w -ℤ pos in_flight_added))

  pub lowered_fits : SFits w64 (pos w -ℤ pos in_flight_added)
  lowered_fits = flown_fits (pos w -ℤ pos in_flight_added) lowered_flown

  -- the word of what a word tells is the word
  pub back_word : in_flight_word (pos w -ℤ pos in_flight_added) ≡ w
  back_word = omega (arith, word_is (pos w -ℤ pos in_flight_added) lowered_flown, less_split (pos w) in_flight_added)
