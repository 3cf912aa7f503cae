-- The EVs in their circular order from the cursor on: where each stands, and where so many steps land. By cutting the list at the cursor.
-- Assumes nothing.
use Rattle.std.proofs.Common.{◌≡◌, ℕ, suc, ◌+◌, ◌-◌, ◌*◌, ◌%◌, ◌<◌, ◌≤◌, List, ◌++◌, length, get_or, take, drop, sym, ap, ◌∙◌, le_of_eq, mod-eq_of_lt, arith, length-append, length-drop, take-append-drop, length-take-le, get_or-drop, take_all, drop-cons, get_or-take, get_or-append-add}
use mathlib.Core.Logic.{by_cases}
use native.Mathlib.Nat.{sub-zero, add-mod_right}
use native.Mathlib.Decide.{dec_lt}
use lib.ListN.{get_or-append}
use Rattle.paths.specs.Path.{avoided, first_free, from, steps, landed, choice}
use Rattle.paths.proofs.Walk.{stops, avoided_append, stays, goes, steps_lt}

-- a number below twice n, modulo n, past the end
pub once_round : (x n : ℕ) → n ≤ x → x < n + n → x - n ≡ x % n
once_round x n l h =
    let e : x ≡ (x - n) + n = omega arith in
    sym (ap (λ (y : ℕ). y % n) e ∙ add-mod_right (x - n) n ∙ mod-eq_of_lt (omega arith))

module _ (cursor : ℕ) (evs : List ℕ) (inside : cursor < length evs) where
  pub length_from : length (from cursor evs) ≡ length evs
  length_from = simp (length-append, length-drop, length-take-le cursor evs (omega arith)) (omega arith)

  -- the order does not change how many are avoided
  pub avoided_from : (time : ℕ) → avoided time (from cursor evs) ≡ avoided time evs
  avoided_from time =
      let whole = ap (avoided time) (take-append-drop cursor evs) in
      omega (arith, avoided_append time (drop cursor evs) (take cursor evs), avoided_append time (take cursor evs) (drop cursor evs))

  -- the EV that lies k steps from the cursor
  pub from_at : (k : ℕ) → k < length evs → get_or (from cursor evs) k 0 ≡ get_or evs ((cursor + k) % length evs) 0
  from_at k h =
      let tail = length-drop cursor evs in
      by_cases (dec_lt (cursor + k) (length evs))
      (λ l. get_or-append (drop cursor evs) (take cursor evs) 0 k (omega arith) ∙ get_or-drop cursor evs k 0
      ∙ ap (λ (x : ℕ). get_or evs x 0) (sym (mod-eq_of_lt l)))
      (λ l.
      let j = cursor + k - length evs in
      let e : k ≡ length (drop cursor evs) + j = omega arith in
      ap (λ (x : ℕ). get_or (from cursor evs) x 0) e ∙ get_or-append-add (drop cursor evs) (take cursor evs) j 0
      ∙ get_or-take cursor evs j 0 (omega arith)
      ∙ ap (λ (x : ℕ). get_or evs x 0) (once_round (cursor + k) (length evs) (omega arith) (omega arith)))

  -- the two parts that are lent are that order
  parts : take (length evs - cursor) (drop cursor evs) ++ take (cursor - 0) evs ≡ from cursor evs
  parts = rw (take_all (length evs - cursor) (drop cursor evs) (le_of_eq (length-drop cursor evs)), sub-zero)

  -- how many EVs the choice passes, in that order
  module _ (time : ℕ) where
    pub steps_inside : steps time (from cursor evs) < length evs
    steps_inside = omega (arith, length_from, steps_lt time (from cursor evs) (omega (arith, length_from)))

    pub over_half : length evs < 2 * avoided time evs → 0 ≡ steps time (from cursor evs)
    over_half many = stays time (from cursor evs) (omega (arith, length_from, avoided_from time))

    pub half_or_less : 2 * avoided time evs ≤ length evs → first_free time (from cursor evs) ≡ steps time (from cursor evs)
    half_or_less few = goes time (from cursor evs) (omega (arith, length_from, avoided_from time))

    -- where the EV at the cursor is free, no EV is passed
    pub cursor_free : get_or evs cursor 0 ≤ time → 0 ≡ steps time (from cursor evs)
    cursor_free free =
        let first : first_free time (from cursor evs) ≡ 0 = rw (drop-cons evs cursor 0)
        (stops time (get_or evs cursor 0) (drop (suc cursor) evs ++ take cursor evs) free) in
        by_cases (dec_lt (length evs) (2 * avoided time evs)) over_half (λ few. omega (arith, half_or_less (omega arith)))

    -- the round over the two parts that are lent
    pub free_parts : (s : ℕ) → s ≡ first_free time (take (length evs - cursor) (drop cursor evs) ++ take (cursor - 0) evs)
        → s ≡ first_free time (from cursor evs)
    free_parts s e = e ∙ ap (first_free time) parts

    pub avoided_parts : (m : ℕ) → m ≡ avoided time (take (length evs - cursor) (drop cursor evs) ++ take (cursor - 0) evs)
        → m ≡ avoided time evs
    avoided_parts m e = e ∙ ap (avoided time) parts ∙ avoided_from time

    -- what so many steps make of the choice
    pub lands_on : (s : ℕ) → s ≡ steps time (from cursor evs) → landed cursor s (length evs) ≡ choice time cursor evs
    unfolding choice
    lands_on s e = ap (λ (x : ℕ). landed cursor x (length evs)) e
