-- PSNs and what an ACK covers: sums and differences modulo 2^32, by `minus_is`; a map's highest set bit; the wrapped
-- comparison at 32 bits, by `wrap`.
-- Assumes nothing.
use Rattle.std.proofs.Common.{◌≡◌, ℕ, zero, suc, ◌+◌, ◌-◌, ◌*◌, ◌/◌, ◌%◌, ◌^◌, ◌<◌, ◌≤◌, true, false, ltb, leb, sym, refl, ap, ◌∙◌, lt_of_lt_of_le, add_assoc, pow-suc, le-div_iff_mul-le, not-le_of_lt, arith, pow_pos, pow_mono, ltb-false, le-ltb, lt-ltb, le-leb}
use mathlib.Core.Bool.{and-false}
use mathlib.Core.Logic.{by_cases}
use native.Mathlib.Nat.{mod-add-mod, div-eq_of_lt, div-eq_of_lt-le}
use native.Mathlib.Decide.{dec_le, dec_lt}
use lib.Count.{count_leading_zeros, leading_length, leading_top}
use borrow.Author.Tests.{lt-leb}
use Rattle.rules.specs.Test.{neither}
use Rattle.serial.specs.Wrap.{minus}
use Rattle.serial.specs.Psn.{psns, reach, plus, bit_of, covered, back_of, span_of, unsent_or_old}
use Rattle.serial.proofs.Wraps.{minus_lt, minus_is, laps, minus_turns, minus_back, wrap}

-- a sum is a PSN
pub plus_lt : (p k : ℕ) → plus p k < psns
unfolding plus
plus_lt p k = omega arith

-- a sum with its turns written out
pub plus_turns : (p k : ℕ) → plus p k + (p + k) / psns * psns ≡ p + k
unfolding plus
plus_turns p k = omega arith

-- a difference with its turns written out
pub turns : (a b : ℕ) → minus psns a b + b + laps psns a b * psns ≡ a + (b / psns + 1) * psns
turns a b = minus_turns psns a b (omega arith)

-- going on by a, and then by b
pub plus_plus : (p a b : ℕ) → plus (plus p a) b ≡ plus p (a + b)
unfolding plus
plus_plus p a b = mod-add-mod (p + a) psns b ∙ ap (λ (x : ℕ). x % psns) (add_assoc p a b)

-- going on from low by how far next lies ahead leads to next
pub plus_minus : (low next : ℕ) → next < psns → plus low (minus psns next low) ≡ next
unfolding plus
plus_minus low next h = minus_back psns next low h

-- the PSN k after low lies k ahead of it
pub minus_plus : (low k : ℕ) → k < psns → minus psns (plus low k) low ≡ k
minus_plus low k h = sym (minus_is psns k (plus low k) low 0 ((low + k) / psns) h (omega (arith, plus_turns low k)))

-- low moves on by m of the packets up to next
pub minus_step : (low next m : ℕ) → m ≤ minus psns next low → minus psns next (plus low m) + m ≡ minus psns next low
minus_step low next m h =
    let l = minus_lt psns next low (omega arith) in
    let e =
    minus_is psns (minus psns next low - m) next (plus low m) (laps psns next low + (low + m) / psns) (low / psns + 1)
    (omega arith) (omega (arith, plus_turns low m, turns next low)) in
    omega arith

-- how far packet k of those from low up to next lies back
pub back_of_lem : (low next k : ℕ) → k < minus psns next low → back_of next (plus low k) + suc k ≡ minus psns next low
unfolding back_of
back_of_lem low next k kn =
    let l = minus_lt psns next low (omega arith) in
    let e =
    minus_is psns (minus psns next low - suc k) (minus psns next 1) (plus low k)
    ((low + k) / psns + laps psns next low + 1) (laps psns next 1 + (low / psns + 1))
    (omega arith) (omega (arith, plus_turns low k, turns next 1, turns next low)) in
    omega arith

-- THE FACT at 32 bits. Of at most 4,096 packets from low up to next, cum covers packet k by its cumulative part exactly where k lies
-- at least as far back as cum does ..
pub cum_part : (low next k cum : ℕ) → minus psns next low ≤ 4096 → k < minus psns next low → back_of next cum ≤ reach
    → leb (minus psns cum (plus low k)) reach ≡ leb (back_of next cum + suc k) (minus psns next low)
unfolding back_of
cum_part low next k cum few kn hb =
    let p : ℕ = plus low k in
    let b : back_of next p + suc k ≡ minus psns next low = back_of_lem low next k kn in
    let w = wrap psns (reach + 1) (minus psns next 1) cum p (omega arith) (omega arith) (omega arith) in
    by_cases (dec_le (back_of next cum) (back_of next p))
    (λ le.
    le-leb (minus psns cum p) reach (omega (arith, w.0 le))
    ∙ sym (le-leb (back_of next cum + suc k) (minus psns next low) (omega arith)))
    (λ gt.
    lt-leb (minus psns cum p) reach (omega (arith, w.1 (omega arith)))
    ∙ sym (lt-leb (back_of next cum + suc k) (minus psns next low) (omega arith)))

-- .. and so of n packets from low
pub cum_covers : (low n k cum : ℕ) → n ≤ 4096 → k < n → back_of (plus low n) cum ≤ reach
    → leb (minus psns cum (plus low k)) reach ≡ leb (back_of (plus low n) cum + suc k) n
cum_covers low n k cum hn hk hb =
    let e : minus psns (plus low n) low ≡ n = minus_plus low n (omega arith) in
    rw e at (cum_part low (plus low n) k cum (omega arith) (omega arith) hb)

-- a map of more than 64 bits has no leading zeros
leading_none : (k a : ℕ) → 2 ^ k ≤ a → count_leading_zeros k a ≡ 0
unfolding count_leading_zeros
leading_none zero a h = refl
leading_none (suc k) zero h = absurd (not-le_of_lt (pow_pos (suc k)) h)
leading_none (suc k) (suc a) h = leading_none k (suc a / 2) ((le-div_iff_mul-le (omega arith)).1 (omega (arith, pow-suc 2 k)))

-- no bit at or beyond the span is set ..
pub bit_beyond : (map i : ℕ) → span_of map ≤ i → bit_of map i ≡ false
unfolding span_of bit_of
bit_beyond map i h =
    by_cases (dec_lt map (2 ^ 64))
    (λ l.
    let s = leading_length 64 map l in
    let m : s.0 ≤ i = omega (arith, s.1) in
    rw (div-eq_of_lt (lt_of_lt_of_le s.2 (pow_mono m))) (and-false (ltb i 64)))
    (λ g. simp (le-ltb i 64 (omega (arith, leading_none 64 map (omega arith)))))

-- .. and the last one before it is: `span_of` ends at the highest set bit
pub bit_top : (map : ℕ) → 0 < map → map < 2 ^ 64 → bit_of map (span_of map - 1) ≡ true
unfolding span_of bit_of
bit_top map p l =
    let t = leading_top 64 map p l in
    let e : 64 - count_leading_zeros 64 map - 1 ≡ t.0 = omega (arith, t.1) in
    let one : map / 2 ^ t.0 ≡ 1 = div-eq_of_lt-le (2 ^ t.0) (omega (arith, t.2)) (omega (arith, t.3, pow-suc 2 t.0)) in
    rw (e, one, lt-ltb t.0 64 (omega (arith, t.1)))

-- an ACK that isn't refused with 9 lies at most 2^30 back, and its map ends before next
pub sent_facts : (next cum map : ℕ) → unsent_or_old next cum map ≡ false → (back_of next cum ≤ reach) × (span_of map ≤ back_of next cum)
unfolding unsent_or_old
sent_facts next cum map e =
    let n = neither (ltb reach (back_of next cum)) (ltb (back_of next cum) (span_of map)) e in
    (ltb-false reach (back_of next cum) n.0, ltb-false (back_of next cum) (span_of map) n.1)

-- the bit by which a map would cover packet k, where k lies past cum
pub bit_past : (low next cum k : ℕ) → k < minus psns next low → back_of next cum ≤ reach → minus psns next low ≤ k + back_of next cum
    → minus psns (plus low k) (plus cum 1) + minus psns next low ≡ k + back_of next cum
unfolding back_of
bit_past low next cum k kn hb past =
    let e =
    minus_is psns (k + back_of next cum - minus psns next low) (plus low k) (plus cum 1)
    (laps psns next 1 + laps psns (minus psns next 1) cum + (low / psns + 1) + (cum + 1) / psns)
    ((low + k) / psns + 1 + (cum / psns + 1) + laps psns next low)
    (omega arith)
    (omega (arith, plus_turns low k, plus_turns cum 1, turns next 1, turns next low, turns (minus psns next 1) cum)) in
    omega arith

-- it covers no packet past the furthest one that it names, cum + span
pub beyond : (low next cum map j : ℕ) → minus psns next low ≤ 4096 → unsent_or_old next cum map ≡ false → j < minus psns next low
    → minus psns next low + span_of map ≤ j + back_of next cum → covered cum map (plus low j) ≡ false
unfolding covered
beyond low next cum map j few sent jn past =
    let f = sent_facts next cum map sent in
    let c = cum_part low next j cum few jn f.0 ∙ lt-leb (back_of next cum + suc j) (minus psns next low) (omega arith) in
    let i = bit_past low next cum j jn f.0 (omega arith) in
    simp (c, bit_beyond map (minus psns (plus low j) (plus cum 1)) (omega arith))
