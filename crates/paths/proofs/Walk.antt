-- How the avoided count and the first free EV go, entry by entry and part by part: by induction over the times.
-- Assumes nothing.
use Rattle.std.proofs.Common.{◌≡◌, ℕ, zero, suc, ◌+◌, ◌-◌, ◌*◌, ◌/◌, ◌%◌, ◌^◌, ◌<◌, ◌≤◌, List, [], ◌∷◌, ◌++◌, length, get_or, take, drop, sym, refl, ap, ◌∙◌, le_of_eq, not-suc-le-zero, zero-add, add-one, arith, length-drop, drop_of_length-le, length-take, get_or-drop, take_all, drop-cons, get_or-take}
use mathlib.Core.Logic.{by_cases}
use native.Mathlib.Decide.{dec_lt}
use Rattle.rules.specs.Branch.{lt_yes, lt_no, lt_both}
use Rattle.paths.specs.Path.{time_most, Early, avoids, avoided, first_free, steps}

pub avoids_le : (time until : ℕ) → avoids time until ≤ 1
unfolding avoids
avoids_le time until = lt_both (λ (r : ℕ). r ≤ 1) time until 1 0 (λ h. omega arith) (λ h. omega arith)

-- the highest bit of a wrapped difference of times
pub sign_tells : (time until d : ℕ) → time < time_most → until < time_most → d < 2 ^ 64 → (d + until) % 2 ^ 64 ≡ time
    → d / time_most ≡ avoids time until
unfolding avoids
sign_tells time until d ht hu hd e =
    by_cases (dec_lt time until)
    (λ h. lt_yes time until _ 1 0 h (omega arith))
    (λ h. lt_no time until _ 1 0 (omega arith) (omega arith))

-- a part of the times is as early
pub early_part : (evs : List ℕ) (m k : ℕ) → Early evs → Early (take m (drop k evs))
early_part evs m k E =
    record {
      each = λ j h.
          let n = length-take m (drop k evs) in
          let rest = length-drop k evs in
          rw (get_or-take m (drop k evs) j 0 (omega arith), get_or-drop k evs j 0) (E.each (k + j) (omega arith));
    }

module _ (time : ℕ) where
  -- the first free EV of a list, by whether its first EV is avoided
  passes : (until : ℕ) (evs : List ℕ) → time < until → first_free time (until ∷ evs) ≡ suc (first_free time evs)
  unfolding first_free
  passes until evs h = sym (lt_yes time until (suc (first_free time evs)) (suc (first_free time evs)) 0 h refl)

  pub stops : (until : ℕ) (evs : List ℕ) → until ≤ time → first_free time (until ∷ evs) ≡ 0
  unfolding first_free
  stops until evs h = sym (lt_no time until 0 (suc (first_free time evs)) 0 h refl)

  -- ---- one entry more

  pub avoided_next : (evs : List ℕ) (i : ℕ) → i < length evs → avoided time (drop i evs) ≡ avoids time (get_or evs i 0)
      + avoided time (drop (i + 1) evs)
  unfolding avoided
  avoided_next evs i h = rw (add-one, drop-cons evs i 0)

  pub free_next : (evs : List ℕ) (i : ℕ) → i < length evs → time < get_or evs i 0
      → first_free time (drop i evs) ≡ first_free time (drop (i + 1) evs) + 1
  free_next evs i h a = rw (add-one (first_free time (drop (i + 1) evs)), add-one, drop-cons evs i 0 h)
      (passes (get_or evs i 0) (drop (suc i) evs) a)

  pub free_here : (evs : List ℕ) (i : ℕ) → i < length evs → get_or evs i 0 ≤ time → first_free time (drop i evs) ≡ 0
  free_here evs i h a = rw (drop-cons evs i 0 h) (stops (get_or evs i 0) (drop (suc i) evs) a)

  -- nothing is left at the end
  pub avoided_rest : (evs : List ℕ) (i : ℕ) → length evs ≤ i → avoided time (drop i evs) ≡ 0
  unfolding avoided
  avoided_rest evs i h = rw (drop_of_length-le evs h)

  pub free_rest : (evs : List ℕ) (i : ℕ) → length evs ≤ i → first_free time (drop i evs) ≡ 0
  unfolding first_free
  free_rest evs i h = rw (drop_of_length-le evs h)

  -- ---- bounds

  pub avoided_le : (evs : List ℕ) → avoided time evs ≤ length evs
  unfolding avoided
  avoided_le [] = omega arith
  avoided_le (until ∷ evs) = omega (arith, avoided_le evs, avoids_le time until)

  -- every EV before the first free one is avoided: there are at least so many
  pub free_le_avoided : (evs : List ℕ) → first_free time evs ≤ avoided time evs
  unfolding first_free avoided avoids
  free_le_avoided [] = omega arith
  free_le_avoided (until ∷ evs) =
      by_cases (dec_lt time until)
      (λ h. omega (arith, passes until evs h, lt_yes {A = ℕ} time until 1 1 0 h refl, free_le_avoided evs))
      (λ h. omega (arith, stops until evs (omega arith)))

  -- ---- what the first free EV is

  pub before_avoided : (evs : List ℕ) (k : ℕ) → k < first_free time evs → time < get_or evs k 0
  unfolding first_free
  before_avoided [] k h = absurd (not-suc-le-zero h)
  before_avoided (until ∷ evs) zero h = by_cases (dec_lt time until) (λ a. a) (λ a. absurd (omega (arith, stops until evs (omega arith))))
  before_avoided (until ∷ evs) (suc k) h =
      by_cases (dec_lt time until)
      (λ a. before_avoided evs k (omega (arith, passes until evs a)))
      (λ a. absurd (omega (arith, stops until evs (omega arith))))

  pub first_is_free : (evs : List ℕ) → first_free time evs < length evs → get_or evs (first_free time evs) 0 ≤ time
  unfolding first_free
  first_is_free [] h = absurd (not-suc-le-zero h)
  first_is_free (until ∷ evs) h =
      by_cases (dec_lt time until)
      (λ a. rw (passes until evs a) (first_is_free evs (omega (arith, passes until evs a))))
      (λ a. rw (stops until evs (omega arith)) (omega arith))

  -- ---- two parts

  pub avoided_append : (xs ys : List ℕ) → avoided time (xs ++ ys) ≡ avoided time xs + avoided time ys
  unfolding avoided
  avoided_append [] ys = omega arith
  avoided_append (until ∷ xs) ys = omega (arith, avoided_append xs ys)

  pub free_before : (xs ys : List ℕ) → first_free time xs < length xs → first_free time (xs ++ ys) ≡ first_free time xs
  free_before [] ys h = absurd (not-suc-le-zero h)
  free_before (until ∷ xs) ys h =
      by_cases (dec_lt time until)
      (λ a. let e = passes until xs a in omega (arith, passes until (xs ++ ys) a, free_before xs ys (omega arith)))
      (λ a. omega (arith, stops until xs (omega arith), stops until (xs ++ ys) (omega arith)))

  pub free_after : (xs ys : List ℕ) → first_free time xs ≡ length xs → first_free time (xs ++ ys) ≡ length xs + first_free time ys
  free_after [] ys h = omega arith
  free_after (until ∷ xs) ys h =
      by_cases (dec_lt time until)
      (λ a. let e = passes until xs a in omega (arith, passes until (xs ++ ys) a, free_after xs ys (omega arith)))
      (λ a. absurd (omega (arith, stops until xs (omega arith))))

  -- ---- how many EVs the choice passes

  pub stays : (evs : List ℕ) → length evs < 2 * avoided time evs → 0 ≡ steps time evs
  unfolding steps
  stays evs h = lt_yes (length evs) (2 * avoided time evs) 0 0 (first_free time evs) h refl

  pub goes : (evs : List ℕ) → 2 * avoided time evs ≤ length evs → first_free time evs ≡ steps time evs
  unfolding steps
  goes evs h = lt_no (length evs) (2 * avoided time evs) (first_free time evs) 0 (first_free time evs) h refl

  pub steps_lt : (evs : List ℕ) → 0 < length evs → steps time evs < length evs
  steps_lt evs h =
      by_cases (dec_lt (length evs) (2 * avoided time evs))
      (λ many. omega (arith, stays evs many))
      (λ few. omega (arith, goes evs (omega arith), free_le_avoided evs))

  -- ---- one walk: every EV that is passed is avoided, and the count goes on from the first free one

  pub avoided_past : (evs : List ℕ) → first_free time evs + avoided time (drop (first_free time evs) evs) ≡ avoided time evs
  unfolding first_free avoided avoids
  avoided_past [] = refl
  avoided_past (until ∷ evs) =
      by_cases (dec_lt time until)
      (λ h. rw (passes until evs h) (omega (arith, lt_yes {A = ℕ} time until 1 1 0 h refl, avoided_past evs)))
      (λ h. rw (stops until evs (omega arith)) (zero-add _))

  -- the same of the rest as it is lent on
  pub avoided_lent : (evs : List ℕ) (k m : ℕ) → k ≡ first_free time evs → m ≡ avoided time (take (length evs - k) (drop k evs))
      → k + m ≡ avoided time evs
  avoided_lent evs k m first rest =
      let all : m ≡ avoided time (drop k evs) = rest ∙ ap (avoided time)
      (take_all (length evs - k) (drop k evs) (le_of_eq (length-drop k evs))) in
      rw (all, first) (avoided_past evs)

  -- the same over two parts, as the walk goes over them
  module _ (tail head : List ℕ) where
    pub free_tail : first_free time tail < length tail → first_free time tail ≡ first_free time (tail ++ head)
    free_tail h = sym (free_before tail head h)

    pub free_head : length tail ≤ first_free time tail → first_free time tail + first_free time head ≡ first_free time (tail ++ head)
    free_head h =
        let whole : first_free time tail ≡ length tail = omega (arith, free_le_avoided tail, avoided_le tail) in
        omega (arith, free_after tail head whole)

    -- a part that is passed whole counts whole
    pub avoided_head : length tail ≤ first_free time tail → first_free time tail + avoided time head ≡ avoided time (tail ++ head)
    avoided_head h = omega (arith, free_le_avoided tail, avoided_le tail, avoided_append tail head)
