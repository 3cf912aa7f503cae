-- What the machine's operations give, as the contracts say it: a bit put, a mask's bits taken out, the lowest set bit.
-- Assumes nothing.
use mathlib.Core.Path.{◌≡◌, refl, sym, ap, ap₂, ◌∙◌}
use mathlib.Core.Bool.{Bool, true, false, not, ◌&&◌, ◌||◌, and-false}
use mathlib.Core.List.{List}
use mathlib.Core.Logic.{⊎_elim, by_cases}
use Prim.Native.Nat.{ℕ, zero, suc, ◌-◌, ◌*◌, ◌/◌, ◌%◌, ◌^◌, ◌<◌}
use native.Mathlib.Nat.{add-zero, zero-mul, mod-lt, pow-suc, eq-or-lt_of_le, zero-lt-suc}
use native.Mathlib.Decide.{dec_lt}
use native.Mathlib.Omega.{arith}
use lib.Bits.{bit_and, bit_or, and_lt, or_lt}
use lib.Count.{count_trailing_zeros, under}
use lib.Dec.{eqb, lit<}
use lib.ListN.{get_or, set}
use lib.Pow.{pow_pos, pow-lt, shl_exact, ones_sub-lt}
use mir.Val.{bool_byte}
use Rattle.rules.specs.Branch.{if_so, if_eq, eq_yes, eq_no}
use Rattle.bits.specs.Bits.{bit, with_bit, put_bit, without, lowest}
use Rattle.bits.proofs.Digits.{odd, bit_and_lem, bit_or_lem, bit_not, bit_above, bit_zero, bit_low, bit_half, bit_shl_above, bit_shl_below}
use Rattle.bits.proofs.Words.{word_is, lowest_same, same_or_not}

-- ---- 1 << r, and a bit shifted to r

one_bit : bit 1 0 ≡ true
unfolding bit
one_bit = refl

one_same : (r : ℕ) → bit (1 * 2 ^ r) r ≡ true
one_same r = ap (bit (1 * 2 ^ r)) (sym (add-zero r)) ∙ bit_shl_above 1 r 0 ∙ one_bit

one_other : (r i : ℕ) → (i ≡ r → ⊥) → bit (1 * 2 ^ r) i ≡ false
one_other r i n =
    by_cases (dec_lt i r)
    (λ h. bit_shl_below 1 r i h)
    (λ h.
    bit_above (suc r) (1 * 2 ^ r) i (omega (arith, pow-suc 2 r, pow_pos r))
    (⊎_elim (λ e. absurd (n (sym e))) (λ l. l) (eq-or-lt_of_le {n = r} {m = i} (omega arith))))

flag_same : (b : Bool) (r : ℕ) → bit (bool_byte b * 2 ^ r) r ≡ b
flag_same true r = one_same r
flag_same false r = ap (λ (x : ℕ). bit x r) (zero-mul (2 ^ r)) ∙ bit_zero r

flag_other : (b : Bool) (r i : ℕ) → (i ≡ r → ⊥) → bit (bool_byte b * 2 ^ r) i ≡ false
flag_other true r i n = one_other r i n
flag_other false r i n = ap (λ (x : ℕ). bit x i) (zero-mul (2 ^ r)) ∙ bit_zero i

flag_fits : (b : Bool) (r : ℕ) → r < 64 → bool_byte b * 2 ^ r % 2 ^ 64 ≡ bool_byte b * 2 ^ r
flag_fits true r h = shl_exact 1 r 64 (lit< tt) (omega arith)
flag_fits false r h = rw (zero-mul (2 ^ r)) refl

flag_lt : (b : Bool) (r : ℕ) → r < 64 → bool_byte b * 2 ^ r < 2 ^ 64
flag_lt true r h = omega (arith, pow-lt h)
flag_lt false r h = rw (zero-mul (2 ^ r)) (lit< tt)

none_left : (a b : Bool) → ((a && false) || b) ≡ b
none_left a b = ap (λ (x : Bool). x || b) (and-false a)

all_left : (a : Bool) → ((a && true) || false) ≡ a
all_left true = refl
all_left false = refl

-- ---- (w & !(1 << r)) | (b << r)

module _ (w r : ℕ) (b : Bool) (hw : w < 2 ^ 64) (hr : r < 64) where
  placed : ℕ
  placed = bit_or (bit_and w ((2 ^ 64 - 1) - 1 * 2 ^ r)) (bool_byte b * 2 ^ r)

  placed_bit : (j : ℕ) → j < 64 → bit placed j ≡ if_eq j r b (bit w j)
  unfolding placed
  placed_bit j h =
      let mask = (2 ^ 64 - 1) - 1 * 2 ^ r in
      let small : 1 * 2 ^ r < 2 ^ 64 = omega (arith, pow-lt hr) in
      let left : bit mask j ≡ not (bit (1 * 2 ^ r) j) = bit_not 64 (1 * 2 ^ r) j small h in
      let parts : bit placed j ≡ ((bit w j && not (bit (1 * 2 ^ r) j)) || bit (bool_byte b * 2 ^ r) j) =
      bit_or_lem (bit_and w mask) (bool_byte b * 2 ^ r) j
      ∙ ap (λ (x : Bool). x || bit (bool_byte b * 2 ^ r) j) (bit_and_lem w mask j ∙ ap (λ (x : Bool). bit w j && x) left) in
      parts
      ∙ ⊎_elim
      (λ e. rw e (rw (one_same r, flag_same b r) (none_left (bit w r) b ∙ eq_yes r r b b (bit w r) refl refl)))
      (λ n. rw (one_other r j n, flag_other b r j n) (all_left (bit w j) ∙ eq_no j r (bit w j) b (bit w j) n refl))
      (same_or_not j r)

  placed_lt : placed < 2 ^ 64
  unfolding placed
  placed_lt =
      or_lt 64 (bit_and w ((2 ^ 64 - 1) - 1 * 2 ^ r)) (bool_byte b * 2 ^ r)
      (and_lt 64 w ((2 ^ 64 - 1) - 1 * 2 ^ r) hw (ones_sub-lt 64 (1 * 2 ^ r))) (flag_lt b r hr)

  place_law : bit_or (bit_and w ((2 ^ 64 - 1) - 1 * 2 ^ r % 2 ^ 64)) (bool_byte b * 2 ^ r % 2 ^ 64) ≡ with_bit w r b
  unfolding placed with_bit
  place_law =
      ap₂ (λ (x y : ℕ). bit_or (bit_and w ((2 ^ 64 - 1) - x)) y) (flag_fits true r hr) (flag_fits b r hr)
      ∙ word_is placed (λ j. if_eq j r b (bit w j)) placed_lt placed_bit

pub put_law : (ws : List ℕ) (i : ℕ) (b : Bool) → get_or ws (i / 64) 0 < 2 ^ 64
    → set ws (i / 64)
    (bit_or (bit_and (get_or ws (i / 64) 0) ((2 ^ 64 - 1) - 1 * 2 ^ (i % 64) % 2 ^ 64)) (bool_byte b * 2 ^ (i % 64) % 2 ^ 64))
    ≡ put_bit ws i b
unfolding put_bit
put_law ws i b h = ap (set ws (i / 64)) (place_law (get_or ws (i / 64) 0) (i % 64) b h (omega arith))

-- ---- w & !m

pub clear_law : (w m : ℕ) → w < 2 ^ 64 → m < 2 ^ 64 → bit_and w ((2 ^ 64 - 1) - m) ≡ without w m
unfolding without
clear_law w m hw hm =
    word_is (bit_and w ((2 ^ 64 - 1) - m)) (λ j. bit w j && not (bit m j)) (and_lt 64 w ((2 ^ 64 - 1) - m) hw (ones_sub-lt 64 m))
    (λ j h. bit_and_lem w ((2 ^ 64 - 1) - m) j ∙ ap (λ (x : Bool). bit w j && x) (bit_not 64 m j hm h))

-- ---- the zeros below the lowest set bit

under_is : (d t : ℕ) → d < 2 → under d t ≡ if_so (eqb d 1) 0 (suc t)
unfolding if_so
under_is zero t h = refl
under_is (suc zero) t h = refl
under_is (suc (suc d)) t h = absurd (omega arith)

pub first_law : (k w : ℕ) → count_trailing_zeros k w ≡ lowest (bit w) k
unfolding count_trailing_zeros lowest odd
first_law zero w = refl
first_law (suc k) w =
    under_is (w % 2) (count_trailing_zeros k (w / 2)) (mod-lt w (zero-lt-suc 1))
    ∙ ap₂ (λ (b : Bool) (t : ℕ). if_so b 0 (suc t)) (sym (bit_low w))
    (first_law k (w / 2) ∙ lowest_same (bit (w / 2)) (λ j. bit w (suc j)) k (λ j h. bit_half w j))
