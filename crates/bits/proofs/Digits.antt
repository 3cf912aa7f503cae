-- Bit i of what the machine's operations give: one law for each, over the position, the width and the words.
-- Assumes nothing.
use mathlib.Core.Path.{◌≡◌, refl, sym, ap, ◌∙◌}
use mathlib.Core.Bool.{Bool, false, not, ◌&&◌, ◌||◌}
use mathlib.Core.Logic.{by_cases}
use Prim.Native.Nat.{ℕ, zero, suc, ◌+◌, ◌-◌, ◌*◌, ◌/◌, ◌%◌, ◌^◌, ◌≤◌, ◌<◌, zero-le}
use native.Mathlib.Nat.{mod-lt, pow-suc, mul_assoc, mul_comm, div-eq_of_lt, sub-zero, le_of_suc-le-suc, not-suc-le-zero, zero-lt-suc}
use native.Mathlib.Nat.{div-one, lt_of_lt_of_le}
use native.Mathlib.Decide.{dec_lt}
use native.Mathlib.Omega.{arith}
use borrow.Author.Tests.{lt-ltb, le-ltb}
use lib.Bits.{bit_and, bit_or, and_shr, or_shr, and_mod, or_mod, and_mask, shifted_even}
use lib.Dec.{eqb, ltb}
use lib.Pow.{shr-shr, shl-shr, pow-add, pow_pos, pow_mono, ones_lt}
use Rattle.bits.specs.Bits.{bit}

-- the lowest bit is set
unfoldable pub odd : ℕ → Bool
odd w = eqb (w % 2) 1

two_pos : 0 < 2
two_pos = zero-lt-suc 1

-- ---- the lowest bit

and_digits : (p q : ℕ) → p < 2 → q < 2 → eqb (bit_and p q) 1 ≡ (eqb p 1 && eqb q 1)
and_digits zero q h k = refl
and_digits (suc zero) zero h k = refl
and_digits (suc zero) (suc zero) h k = refl
and_digits (suc zero) (suc (suc q)) h k = absurd (omega arith)
and_digits (suc (suc p)) q h k = absurd (omega arith)

or_digits : (p q : ℕ) → p < 2 → q < 2 → eqb (bit_or p q) 1 ≡ (eqb p 1 || eqb q 1)
or_digits zero q h k = refl
or_digits (suc zero) zero h k = refl
or_digits (suc zero) (suc zero) h k = refl
or_digits (suc zero) (suc (suc q)) h k = absurd (omega arith)
or_digits (suc (suc p)) q h k = absurd (omega arith)

pub odd_and : (a b : ℕ) → odd (bit_and a b) ≡ (odd a && odd b)
unfolding odd
odd_and a b = ap (λ (x : ℕ). eqb x 1) (and_mod a b 1) ∙ and_digits (a % 2) (b % 2) (mod-lt a two_pos) (mod-lt b two_pos)

odd_or : (a b : ℕ) → odd (bit_or a b) ≡ (odd a || odd b)
unfolding odd
odd_or a b = ap (λ (x : ℕ). eqb x 1) (or_mod a b 1) ∙ or_digits (a % 2) (b % 2) (mod-lt a two_pos) (mod-lt b two_pos)

-- ---- bit i

pub bit_and_lem : (a b i : ℕ) → bit (bit_and a b) i ≡ (bit a i && bit b i)
unfolding bit odd
bit_and_lem a b i = ap odd (and_shr a b i) ∙ odd_and (a / 2 ^ i) (b / 2 ^ i)

pub bit_or_lem : (a b i : ℕ) → bit (bit_or a b) i ≡ (bit a i || bit b i)
unfolding bit odd
bit_or_lem a b i = ap odd (or_shr a b i) ∙ odd_or (a / 2 ^ i) (b / 2 ^ i)

-- w >> s
pub bit_shr : (w s i : ℕ) → bit (w / 2 ^ s) i ≡ bit w (s + i)
unfolding bit odd
bit_shr w s i = ap odd (shr-shr w s i)

pub bit_low : (w : ℕ) → bit w 0 ≡ odd w
unfolding bit odd
bit_low w = simp div-one

pub bit_half : (w i : ℕ) → bit (w / 2) i ≡ bit w (suc i)
bit_half w i = bit_shr w 1 i ∙ ap (bit w) (omega arith)

-- !w, at k bits
pub not_half : (k b : ℕ) → b < 2 ^ suc k → ((2 ^ suc k - 1) - b) / 2 ≡ (2 ^ k - 1) - b / 2
not_half k b h = rw (pow-suc 2 k) (omega (arith, pow-suc 2 k, pow_pos k))

not_odd : (k b : ℕ) → b < 2 ^ suc k → ((2 ^ suc k - 1) - b) % 2 ≡ 1 - b % 2
not_odd k b h = rw (pow-suc 2 k) (omega (arith, pow-suc 2 k, pow_pos k))

other_digit : (d : ℕ) → d < 2 → eqb (1 - d) 1 ≡ not (eqb d 1)
other_digit zero h = refl
other_digit (suc zero) h = refl
other_digit (suc (suc d)) h = absurd (omega arith)

pub half_below : (k b : ℕ) → b < 2 ^ suc k → b / 2 < 2 ^ k
half_below k b h = omega (arith, pow-suc 2 k)

pub odd_not : (k b : ℕ) → b < 2 ^ suc k → odd ((2 ^ suc k - 1) - b) ≡ not (odd b)
unfolding odd
odd_not k b h = ap (λ (x : ℕ). eqb x 1) (not_odd k b h) ∙ other_digit (b % 2) (mod-lt b two_pos)

pub bit_not : (k b i : ℕ) → b < 2 ^ k → i < k → bit ((2 ^ k - 1) - b) i ≡ not (bit b i)
bit_not zero b i h l = absurd (not-suc-le-zero l)
bit_not (suc k) b zero h l = bit_low ((2 ^ suc k - 1) - b) ∙ odd_not k b h ∙ ap not (sym (bit_low b))
bit_not (suc k) b (suc i) h l =
    sym (bit_half ((2 ^ suc k - 1) - b) i)
    ∙ ap (λ (x : ℕ). bit x i) (not_half k b h)
    ∙ bit_not k (b / 2) i (half_below k b h) (le_of_suc-le-suc l)
    ∙ ap not (bit_half b i)

-- no bit at or above the length
pub bit_above : (k w i : ℕ) → w < 2 ^ k → k ≤ i → bit w i ≡ false
unfolding bit odd
bit_above k w i h l = rw (div-eq_of_lt (lt_of_lt_of_le h (pow_mono l)))

pub bit_zero : (i : ℕ) → bit 0 i ≡ false
bit_zero i = bit_above 0 0 i (omega arith) zero-le

-- n bits set
pub bit_ones : (n i : ℕ) → bit (2 ^ n - 1) i ≡ ltb i n
bit_ones n i =
    by_cases (dec_lt i n)
    (λ h.
    ap (λ (x : ℕ). bit x i) (sym (sub-zero (2 ^ n - 1))) ∙ bit_not n 0 i (pow_pos n) h ∙ ap not (bit_zero i)
    ∙ sym (lt-ltb i n h))
    (λ h. bit_above n (2 ^ n - 1) i (ones_lt n) (omega arith) ∙ sym (le-ltb i n (omega arith)))

-- w << s
shift_parts : (w i t : ℕ) → w * 2 ^ (i + suc t) ≡ w * 2 ^ suc t * 2 ^ i
shift_parts w i t = ap (λ (x : ℕ). w * x) (pow-add 2 i (suc t) ∙ mul_comm (2 ^ i) (2 ^ suc t)) ∙ sym (mul_assoc w (2 ^ suc t) (2 ^ i))

pub bit_shl_above : (w s i : ℕ) → bit (w * 2 ^ s) (s + i) ≡ bit w i
bit_shl_above w s i = sym (bit_shr (w * 2 ^ s) s i) ∙ ap (λ (x : ℕ). bit x i) (shl-shr w s)

even_below : (w i t : ℕ) → bit (w * 2 ^ (i + suc t)) i ≡ false
unfolding bit odd
even_below w i t =
    ap (λ (x : ℕ). eqb (x / 2 ^ i % 2) 1) (shift_parts w i t) ∙ ap (λ (x : ℕ). eqb (x % 2) 1) (shl-shr (w * 2 ^ suc t) i)
    ∙ ap (λ (x : ℕ). eqb x 1) (shifted_even w t)

pub bit_shl_below : (w s i : ℕ) → i < s → bit (w * 2 ^ s) i ≡ false
bit_shl_below w s i h =
    let e : s ≡ i + suc (s - suc i) = omega arith in
    ap (λ (x : ℕ). bit (w * 2 ^ x) i) e ∙ even_below w i (s - suc i)

-- w % 2^k
pub bit_mod : (w k i : ℕ) → bit (w % 2 ^ k) i ≡ (bit w i && ltb i k)
bit_mod w k i =
    ap (λ (x : ℕ). bit x i) (sym (and_mask w k)) ∙ bit_and_lem w (2 ^ k - 1) i ∙ ap (λ (x : Bool). bit w i && x) (bit_ones k i)
