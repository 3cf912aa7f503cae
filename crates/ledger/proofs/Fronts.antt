-- Slots of one word in the order of their packets: where they lie, and the first that is outstanding.
-- Assumes nothing.
use Rattle.std.proofs.Common.{◌≡◌, ℕ, ◌+◌, ◌-◌, ◌*◌, ◌/◌, ◌%◌, ◌^◌, ◌<◌, ◌≤◌, Bool, true, false, List, length, get_or, sym, ap, ◌∙◌, ap₂, add_assoc, mod-eq_of_lt, arith}
use mathlib.Core.Bool.{false≢true}
use mathlib.Core.Logic.{by_cases}
use native.Mathlib.Nat.{mod-add-mod}
use native.Mathlib.Decide.{dec_lt}
use Rattle.bits.specs.Bits.{bit, bit_at, lowest}
use Rattle.bits.proofs.Digits.{bit_shr, bit_above}
use Rattle.bits.proofs.Words.{lowest_at, lowest_before, lowest_is}
use Rattle.ledger.specs.Ring.{place_of}
use Rattle.ledger.proofs.Geometry.{Cap, place_flat}

-- the slots from that of packet k on lie beside each other up to the ring's end
pub place_run : (cap : ℕ) → Cap cap → (low k i j : ℕ) → i ≡ place_of cap low k → i + j < cap → place_of cap low (k + j) ≡ i + j
place_run cap C low k i j e h =
    place_flat cap C low (k + j)
    ∙ ap (λ (x : ℕ). x % cap) (sym (add_assoc (low % cap) k j))
    ∙ sym (mod-add-mod (low % cap + k) cap j)
    ∙ ap (λ (x : ℕ). (x + j) % cap) (sym (place_flat cap C low k) ∙ sym e)
    ∙ mod-eq_of_lt h

-- a slot's bit, by its word
pub slot_bit : (ws : List ℕ) (i j : ℕ) → i % 64 + j < 64 → bit_at ws (i + j) ≡ bit (get_or ws (i / 64) 0) (i % 64 + j)
unfolding bit_at
slot_bit ws i j h =
    let q : (i + j) / 64 ≡ i / 64 = omega arith in
    let r : (i + j) % 64 ≡ i % 64 + j = omega arith in
    ap₂ (λ (x y : ℕ). bit (get_or ws x 0) y) q r

-- the bit of the packet k after low
abbrev pub bit_of_age : List ℕ → ℕ → ℕ → Bool
bit_of_age ws low k = bit_at ws (place_of (length ws * 64) low k)

-- slot i is that of the packet k after low
pub record Slot (ws : List ℕ) (low k i : ℕ) : Type 0 where
  pub caps : Cap (length ws * 64)
  pub place : i ≡ place_of (length ws * 64) low k
  pub inside : i < length ws * 64

-- t is the lowest bit from slot i's on in its word
pub record Lowest (ws : List ℕ) (i t : ℕ) : Type 0 where
  pub short : get_or ws (i / 64) 0 < 2 ^ 64
  pub first : t ≡ lowest (bit (get_or ws (i / 64) 0 / 2 ^ (i % 64))) 64

-- of the first k packets, at most n, none is outstanding
pub record Passed (ws : List ℕ) (low n k : ℕ) : Type 0 where
  pub none : (j : ℕ) → j < k → j < n → bit_of_age ws low j ≡ false

module _ {ws : List ℕ} {low k i : ℕ} (S : Slot ws low k i) where
  -- the packets of one word
  pub word_place_lem : (j : ℕ) → i % 64 + j < 64 → place_of (length ws * 64) low (k + j) ≡ i + j
  word_place_lem j h = place_run (length ws * 64) S.caps low k i j S.place (omega (arith, S.inside))

  age_bit : (j : ℕ) → i % 64 + j < 64 → bit_of_age ws low (k + j) ≡ bit (get_or ws (i / 64) 0 / 2 ^ (i % 64)) j
  age_bit j h = ap (bit_at ws) (word_place_lem j h) ∙ slot_bit ws i j h ∙ sym (bit_shr (get_or ws (i / 64) 0) (i % 64) j)

  module _ {t n : ℕ} (F : Lowest ws i t) (P : Passed ws low n k) where
    -- none stands before the first ..
    before : (j : ℕ) → i % 64 + (j - k) < 64 → j < k + t → j < n → bit_of_age ws low j ≡ false
    before j m h l =
        by_cases (dec_lt j k) (λ y. P.none j y l)
        (λ y.
        let s : k + (j - k) ≡ j = omega arith in
        ap (bit_of_age ws low) (sym s)
        ∙ age_bit (j - k) m
        ∙ lowest_before (bit (get_or ws (i / 64) 0 / 2 ^ (i % 64))) 64 (j - k) (omega (arith, F.first)))

    module _ (found : t < 64) where
      there : bit (get_or ws (i / 64) 0 / 2 ^ (i % 64)) t ≡ true
      there =
          ap (bit (get_or ws (i / 64) 0 / 2 ^ (i % 64))) F.first
          ∙ lowest_at (bit (get_or ws (i / 64) 0 / 2 ^ (i % 64))) 64 (omega (arith, F.first))

      in_word : i % 64 + t < 64
      in_word =
          by_cases (dec_lt (i % 64 + t) 64) (λ y. y)
          (λ y.
          absurd
          (false≢true
          (sym (bit_above 64 (get_or ws (i / 64) 0) (i % 64 + t) F.short (omega arith))
          ∙ sym (bit_shr (get_or ws (i / 64) 0) (i % 64) t)
          ∙ there)))

      pub stops : k + t < n → lowest (bit_of_age ws low) n ≡ k + t
      stops h =
          lowest_is (bit_of_age ws low) n (k + t) (omega arith) (λ j m. before j (omega (arith, in_word)) m (omega arith))
          (λ m. age_bit t in_word ∙ there)

      pub stops_late : n ≤ k + t → lowest (bit_of_age ws low) n ≡ n
      stops_late h =
          lowest_is (bit_of_age ws low) n n (omega arith) (λ j m. before j (omega (arith, in_word)) (omega arith) m)
          (λ m. absurd (omega arith))

    -- .. and where the word has none, none stands in it
    pub passes : 64 ≤ t → Passed ws low n (k + (64 - i % 64))
    passes h = record { none = λ j m l. before j (omega arith) (omega arith) l }

pub none_left : {ws : List ℕ} {low n k : ℕ} → Passed ws low n k → n ≤ k → lowest (bit_of_age ws low) n ≡ n
none_left {ws} {low} {n} P h =
    lowest_is (bit_of_age ws low) n n (omega arith) (λ j m. P.none j (omega arith) m) (λ m. absurd (omega arith))
