-- What an ACK covers of the 64 PSNs from psn on, as a word: by how far psn lies behind cum, or the map's first bit ahead of it.
-- Assumes nothing.
use Rattle.std.proofs.Common.{◌≡◌, ℕ, ◌+◌, ◌-◌, ◌*◌, ◌/◌, ◌%◌, ◌^◌, ◌<◌, ◌≤◌, Bool, true, ◌&&◌, ◌||◌, ltb, ◌⊎◌, sym, ap, ◌∙◌, ⊎_elim, mod-lt, one-mul, arith, lit<, pow_pos, shl_exact, le-ltb, lt-ltb, le-leb}
use mathlib.Core.Bool.{and-true}
use mathlib.Core.Logic.{by_cases}
use native.Mathlib.Decide.{dec_lt}
use borrow.Author.Tests.{lt-leb}
use lib.Bits.{bit_or, or_lt}
use lib.Pow.{ones_lt, pow-lt, shr_le}
use Rattle.bits.specs.Bits.{bit, word_of}
use Rattle.bits.proofs.Digits.{bit_or_lem, bit_shr, bit_above, bit_zero, bit_ones, bit_shl_above, bit_mod}
use Rattle.bits.proofs.Words.{word_is}
use Rattle.serial.specs.Wrap.{minus}
use Rattle.serial.specs.Psn.{psns, reach, plus, bit_of, covered}
use Rattle.serial.proofs.Wraps.{minus_lt, minus_is, laps}
use Rattle.serial.proofs.Cover.{plus_turns, turns, minus_step}

-- a map of 64 bits has no bit from 64 on
bit_of_lem : (map i : ℕ) → map < 2 ^ 64 → bit_of map i ≡ bit map i
unfolding bit_of bit
bit_of_lem map i h =
    by_cases (dec_lt i 64)
    (λ l. rw (lt-ltb i 64 l))
    (λ g. rw (le-ltb i 64 (omega arith)) (sym (bit_above 64 map i h (omega arith))))

-- ---- the PSN j after psn, where psn lies behind cum by at most 2^30

module _ (cum map psn j : ℕ) (near : minus psns cum psn ≤ reach) where
  -- cum covers it up to cum itself ..
  pub by_cum : j ≤ minus psns cum psn → covered cum map (plus psn j) ≡ true
  unfolding covered
  by_cum h = rw (le-leb (minus psns cum (plus psn j)) reach (omega (arith, minus_step psn cum j h)))

  -- .. and past cum its bit does
  past : minus psns cum psn < j → j < 64 → reach < minus psns cum (plus psn j)
  past l h =
      let e =
      minus_is psns (minus psns cum psn + psns - j) cum (plus psn j) (laps psns cum psn + (psn + j) / psns) (psn / psns + 2)
      (omega arith) (omega (arith, plus_turns psn j, turns cum psn)) in
      omega arith

  past_bit : minus psns cum psn < j → j < 64 → j - (minus psns cum psn + 1) ≡ minus psns (plus psn j) (plus cum 1)
  past_bit l h =
      minus_is psns (j - (minus psns cum psn + 1)) (plus psn j) (plus cum 1)
      ((cum + 1) / psns + (psn / psns + 1)) ((psn + j) / psns + laps psns cum psn)
      (omega arith) (omega (arith, plus_turns psn j, plus_turns cum 1, turns cum psn))

  pub by_map : minus psns cum psn < j → j < 64 → map < 2 ^ 64
      → covered cum map (plus psn j) ≡ bit map (j - (minus psns cum psn + 1))
  unfolding covered
  by_map l h m =
      rw (lt-leb (minus psns cum (plus psn j)) reach (past l h), ← past_bit l h) (bit_of_lem map (j - (minus psns cum psn + 1)) m)

-- ---- where cum lies behind psn

pub far_is : (cum psn : ℕ) → (minus psns cum psn ≤ reach) ⊎ (reach + 64 ≤ minus psns cum psn) → reach < minus psns cum psn
    → reach + 64 ≤ minus psns cum psn
far_is cum psn e h = ⊎_elim (λ l. absurd (omega arith)) (λ r. r) e

module _ (cum map psn j : ℕ) (far : reach + 64 ≤ minus psns cum psn) (h : j < 64) where
  ahead_is : psns - 1 - minus psns cum psn ≡ minus psns psn (plus cum 1)
  ahead_is =
      let l = minus_lt psns cum psn (omega arith) in
      minus_is psns (psns - 1 - minus psns cum psn) psn (plus cum 1) ((cum + 1) / psns + psn / psns) (laps psns cum psn)
      (omega arith) (omega (arith, plus_turns cum 1, turns cum psn))

  ahead_bit : minus psns psn (plus cum 1) + j ≡ minus psns (plus psn j) (plus cum 1)
  ahead_bit =
      minus_is psns (minus psns psn (plus cum 1) + j) (plus psn j) (plus cum 1)
      (laps psns psn (plus cum 1)) ((psn + j) / psns + (plus cum 1 / psns + 1))
      (omega (arith, ahead_is)) (omega (arith, plus_turns psn j, turns psn (plus cum 1)))

  pub by_ahead : map < 2 ^ 64 → covered cum map (plus psn j) ≡ bit map (minus psns psn (plus cum 1) + j)
  unfolding covered
  by_ahead m =
      let out : reach < minus psns cum (plus psn j) = omega (arith, minus_step psn cum j (omega arith)) in
      rw (lt-leb (minus psns cum (plus psn j)) reach out, ← ahead_bit) (bit_of_lem map (minus psns psn (plus cum 1) + j) m)

-- ---- the words

module _ (cum map psn : ℕ) (m : map < 2 ^ 64) where
  abbrev covers : ℕ → Bool
  covers j = covered cum map (plus psn j)

  module _ (near : minus psns cum psn ≤ reach) where
    pub all_law : 63 ≤ minus psns cum psn → 2 ^ 64 - 1 ≡ word_of covers
    all_law all =
        word_is (2 ^ 64 - 1) covers (ones_lt 64)
        (λ j h. bit_ones 64 j ∙ lt-ltb j 64 h ∙ sym (by_cum cum map psn j near (omega arith)))

    -- n = behind + 1 PSNs are covered by cum, and then comes the map
    module _ (some : minus psns cum psn < 63) where
      abbrev n : ℕ
      n = minus psns cum psn + 1

      pub low_fits : 1 * 2 ^ n % 2 ^ 64 ≡ 2 ^ n
      low_fits = shl_exact {a = 1} 1 n 64 (lit< tt) (omega arith) ∙ one-mul (2 ^ n)

      joined : ℕ
      joined = bit_or (2 ^ n - 1) (map * 2 ^ n % 2 ^ 64)

      joined_lt : joined < 2 ^ 64
      unfolding joined
      joined_lt =
          or_lt 64 (2 ^ n - 1) (map * 2 ^ n % 2 ^ 64) (omega (arith, pow-lt {i = n} {j = 64} (omega arith)))
          (mod-lt (map * 2 ^ n) (pow_pos 64))

      joined_bit : (j : ℕ) → j < 64 → bit joined j ≡ covers j
      unfolding joined
      joined_bit j h =
          let parts : bit joined j ≡ (ltb j n || (bit (map * 2 ^ n) j && ltb j 64)) =
          bit_or_lem (2 ^ n - 1) (map * 2 ^ n % 2 ^ 64) j
          ∙ rw (bit_ones n j, bit_mod (map * 2 ^ n) 64 j) in
          parts
          ∙ by_cases (dec_lt j n)
          (λ l. rw (lt-ltb j n l) (sym (by_cum cum map psn j near (omega arith))))
          (λ g.
          let e : n + (j - n) ≡ j = omega arith in
          rw (le-ltb j n (omega arith), lt-ltb j 64 h) (and-true (bit (map * 2 ^ n) j)
          ∙ ap (bit (map * 2 ^ n)) (sym e)
          ∙ bit_shl_above map n (j - n)
          ∙ sym (by_map cum map psn j near (omega arith) h m)))

      pub joined_law : bit_or (1 * 2 ^ n % 2 ^ 64 - 1) (map * 2 ^ n % 2 ^ 64) ≡ word_of covers
      unfolding joined
      joined_law =
          ap (λ (x : ℕ). bit_or (x - 1) (map * 2 ^ n % 2 ^ 64)) low_fits ∙ word_is joined covers joined_lt joined_bit

  module _ (far : reach + 64 ≤ minus psns cum psn) where
    pub shifted_law : map / 2 ^ minus psns psn (plus cum 1) ≡ word_of covers
    shifted_law =
        let a = minus psns psn (plus cum 1) in
        word_is (map / 2 ^ a) covers (omega (arith, shr_le map a))
        (λ j h. bit_shr map a j ∙ sym (by_ahead cum map psn j far h m))

    pub none_law : 64 ≤ minus psns psn (plus cum 1) → 0 ≡ word_of covers
    none_law out =
        let a = minus psns psn (plus cum 1) in
        word_is 0 covers (pow_pos 64)
        (λ j h. bit_zero j ∙ sym (by_ahead cum map psn j far h m ∙ bit_above 64 map (a + j) m (omega arith)))
