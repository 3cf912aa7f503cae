-- What an ACK covers of a flow's packets and of the 64 PSNs behind next, as its step looks at them a word at a time: nothing past the
-- furthest PSN that it names. By the one theorem on wrapped numbers, at 32 bits.
-- Assumes nothing.
use Rattle.std.proofs.Common.{◌≡◌, ℕ, ◌+◌, ◌-◌, ◌/◌, ◌<◌, ◌≤◌, false, ◌⊎◌, inl, inr, arith}
use mathlib.Core.Logic.{by_cases}
use native.Mathlib.Decide.{dec_le}
use borrow.Author.Tests.{lt-leb}
use Rattle.serial.specs.Wrap.{minus}
use Rattle.serial.specs.Psn.{psns, reach, plus, covered, back_of, span_of, unsent_or_old}
use Rattle.serial.proofs.Wraps.{minus_is, laps, wrap}
use Rattle.serial.proofs.Cover.{plus_turns, turns, back_of_lem, bit_beyond, sent_facts}

-- the PSN j after low lies this far past cum + 1, and cum lies behind it by all the other PSNs
module _ (low next cum j : ℕ) (few : minus psns next low ≤ 4096) (hb : back_of next cum ≤ reach) (jn : j < minus psns next low + 64)
    (past : minus psns next low ≤ j + back_of next cum) where
  bit_of_lem : minus psns (plus low j) (plus cum 1) + minus psns next low ≡ j + back_of next cum
  unfolding back_of
  bit_of_lem =
      let e =
      minus_is psns (j + back_of next cum - minus psns next low) (plus low j) (plus cum 1)
      (laps psns next 1 + laps psns (minus psns next 1) cum + (low / psns + 1) + (cum + 1) / psns)
      ((low + j) / psns + 1 + (cum / psns + 1) + laps psns next low)
      (omega arith)
      (omega (arith, plus_turns low j, plus_turns cum 1, turns next 1, turns next low, turns (minus psns next 1) cum)) in
      omega arith

  behind : reach < minus psns cum (plus low j)
  behind =
      let d : ℕ = minus psns (plus low j) (plus cum 1) in
      let e =
      minus_is psns (psns - 1 - d) cum (plus low j) ((cum + 1) / psns + plus cum 1 / psns) (laps psns (plus low j) (plus cum 1))
      (omega arith) (omega (arith, bit_of_lem, plus_turns cum 1, turns (plus low j) (plus cum 1))) in
      omega (arith, bit_of_lem)

-- it covers no PSN past the furthest one that it names, cum + span
pub beyond_next : (low next cum map j : ℕ) → unsent_or_old next cum map ≡ false → minus psns next low ≤ 4096
    → j < minus psns next low + 64 → minus psns next low + span_of map ≤ j + back_of next cum → covered cum map (plus low j) ≡ false
unfolding covered
beyond_next low next cum map j sent few jn past =
    let s = sent_facts next cum map sent in
    let b = bit_of_lem low next cum j few s.0 jn (omega arith) in
    simp (
      lt-leb (minus psns cum (plus low j)) reach (behind low next cum j few s.0 jn (omega arith)),
      bit_beyond map (minus psns (plus low j) (plus cum 1)) (omega arith),
    )

-- packet k lies at most 2^30 behind cum, or so far that 64 PSNs on it does not come that near
pub near_or_far : (low next cum k : ℕ) → minus psns next low ≤ 4096 → k < minus psns next low → back_of next cum ≤ reach
    → (minus psns cum (plus low k) ≤ reach) ⊎ (reach + 64 ≤ minus psns cum (plus low k))
unfolding back_of
near_or_far low next cum k few kn hb =
    let p : ℕ = plus low k in
    let b : back_of next p + (k + 1) ≡ minus psns next low = omega (arith, back_of_lem low next k kn) in
    let w = wrap psns (reach + 65) (minus psns next 1) cum p (omega arith) (omega arith) (omega arith) in
    by_cases (dec_le (back_of next cum) (back_of next p)) (λ le. inl (omega (arith, w.0 le))) (λ gt. inr (omega (arith, w.1 (omega arith))))
