-- Sums over the bits of a word, and what a mask finds of two words, as an ACK's step uses them.
-- Assumes nothing.
use Rattle.std.proofs.Common.{◌≡◌, ℕ, zero, suc, ◌+◌, ◌-◌, ◌*◌, ◌^◌, ◌<◌, ◌≤◌, Bool, true, false, not, ◌&&◌, List, get_or, sym, refl, ap, ◌∙◌, arith}
use native.Mathlib.Nat.{sub-zero}
use lib.Bits.{bit_and}
use Rattle.rules.specs.Branch.{if_so}
use Rattle.bits.specs.Bits.{bit, one, without, sum_to, count_in}
use Rattle.bits.proofs.Digits.{bit_and_lem}
use Rattle.bits.proofs.Words.{zero_bit, word_is, sum_same, sum_join, sum_none}
use Rattle.ledger.specs.Memory.{size_in}
use Rattle.ledger.specs.Delivery.{sizes_of, bytes_in, lessened}
use Rattle.ledger.specs.declared.Totals.{Totals}

-- ---- sums

-- a sum of sums
pub sum_both : (f g h : ℕ → ℕ) (n : ℕ) → ((k : ℕ) → k < n → f k ≡ g k + h k) → sum_to f n ≡ sum_to g n + sum_to h n
unfolding sum_to
sum_both f g h zero e = refl
sum_both f g h (suc n) e = omega (arith, sum_both f g h n (λ k l. e k (omega arith)), e n (omega arith))

-- a longer sum is no less
pub sum_longer : (f : ℕ → ℕ) (m n : ℕ) → m ≤ n → sum_to f m ≤ sum_to f n
sum_longer f m n h =
    let e : m + (n - m) ≡ n = omega arith in
    omega (arith, sum_join f m (n - m), ap (sum_to f) e)

-- ---- choices by a test

pub one_no : (b : Bool) → b ≡ false → one b ≡ 0
unfolding one if_so
one_no b e = rw e

pub so_true : (b : Bool) (x y : ℕ) → b ≡ true → if_so b x y ≡ x
unfolding if_so
so_true b x y e = rw e

pub so_false : (b : Bool) (x y : ℕ) → b ≡ false → if_so b x y ≡ y
unfolding if_so
so_false b x y e = rw e

-- ---- the sizes of a word's slots

-- those of two words' common bits
pub sizes_both : (sizes : List ℕ) (q mark mask : ℕ) → sizes_of (bit (bit_and mark mask)) sizes q ≡ bytes_in mark mask sizes q
unfolding sizes_of bytes_in
sizes_both sizes q mark mask =
    sum_same (λ i. if_so (bit (bit_and mark mask) i) (size_in (get_or sizes (q * 64 + i) 0)) 0)
    (λ i. if_so (bit mark i && bit mask i) (size_in (get_or sizes (q * 64 + i) 0)) 0) 64
    (λ i h. ap (λ (b : Bool). if_so b (size_in (get_or sizes (q * 64 + i) 0)) 0) (bit_and_lem mark mask i))

-- ---- a mask that finds none of a word's bits

left_out : (a b : Bool) → (a && b) ≡ false → a ≡ (a && not b)
left_out true true e = e
left_out true false e = refl
left_out false b e = refl

module _ (w mask : ℕ) (none : bit_and w mask ≡ 0) where
  none_at : (j : ℕ) → (bit w j && bit mask j) ≡ false
  none_at j = sym (bit_and_lem w mask j) ∙ ap (λ (x : ℕ). bit x j) none ∙ zero_bit j

  -- it counts none ..
  pub count_none : count_in w mask ≡ 0
  unfolding count_in
  count_none = sum_none (λ j. one (bit w j && bit mask j)) 64 (λ j h. one_no (bit w j && bit mask j) (none_at j))

  -- .. it finds no bytes ..
  pub bytes_none : (sizes : List ℕ) (q : ℕ) → bytes_in w mask sizes q ≡ 0
  unfolding bytes_in sizes_of
  bytes_none sizes q =
      sum_none (λ j. if_so (bit w j && bit mask j) (size_in (get_or sizes (q * 64 + j) 0)) 0) 64
      (λ j h. so_false (bit w j && bit mask j) (size_in (get_or sizes (q * 64 + j) 0)) 0 (none_at j))

  -- .. and the word stays as it is without it
  pub without_none : w < 2 ^ 64 → without w mask ≡ w
  unfolding without
  without_none short = sym (word_is w (λ j. bit w j && not (bit mask j)) short (λ j h. left_out (bit w j) (bit mask j) (none_at j)))

  -- of the totals only the flying packets change
  pub lessened_none : (out : ℕ) (sizes : List ℕ) (q : ℕ) (t : Totals) → ◌≡◌ {A = Totals}
      (record {
        flying = t.flying - count_in out mask;
        marked = t.marked;
        marked_bytes = t.marked_bytes;
        backlog = t.backlog;
        in_flight = t.in_flight;
      })
      (lessened out w mask sizes q t)
  unfolding lessened
  lessened_none out sizes q t = simp (count_none, bytes_none, sub-zero)
