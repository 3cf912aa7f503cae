-- The next path, said of the EVs themselves: which one `choice` takes, and where the cursor goes. By the laws of Walk and Circle.
-- Assumes nothing.
use Rattle.std.proofs.Common.{◌≡◌, ℕ, ◌+◌, ◌*◌, ◌%◌, ◌<◌, ◌≤◌, List, length, get_or, refl, mod-lt, mod-eq_of_lt, arith}
use Rattle.paths.specs.Path.{avoided, from, steps, landed, choice}
use Rattle.paths.proofs.Walk.{before_avoided, first_is_free}
use Rattle.paths.proofs.Circle.{length_from, from_at, steps_inside, over_half, half_or_less}

-- EV ev lies s steps from the cursor, less than once round, and every EV that is passed is avoided
pub record First (time cursor : ℕ) (evs : List ℕ) (s ev : ℕ) : Type 0 where
  pub once : s < length evs
  pub place : ev ≡ (cursor + s) % length evs
  pub passed : (k : ℕ) → k < s → time < get_or evs ((cursor + k) % length evs) 0

-- of n EVs, ev and the new cursor are two, and the new cursor is the one after ev, circularly
pub record Inside (n ev next : ℕ) : Type 0 where
  pub ev_inside : ev < n
  pub cursor_inside : next < n
  pub cursor_next : next ≡ (ev + 1) % n

module _ (time cursor : ℕ) (evs : List ℕ) (inside : cursor < length evs) where
  -- Where more than half of the EVs are avoided, the cursor is taken.
  pub choice_full : length evs < 2 * avoided time evs → (choice time cursor evs).ev ≡ cursor
  unfolding choice landed
  choice_full full =
      let none : cursor + steps time (from cursor evs) ≡ cursor = omega (arith, over_half cursor evs inside time full) in
      rw none (mod-eq_of_lt inside)

  module _ (few : 2 * avoided time evs ≤ length evs) where
    -- Where not more than half are avoided, the EV that is taken is not avoided.
    pub choice_free : get_or evs (choice time cursor evs).ev 0 ≤ time
    unfolding choice landed
    choice_free =
        let near = steps_inside cursor evs inside time in
        let found = half_or_less cursor evs inside time few in
        let n = length_from cursor evs inside in
        rw (← from_at cursor evs inside (steps time (from cursor evs)) near, ← found) (first_is_free time (from cursor evs) (omega arith))

    -- And it is the first such EV from the cursor on.
    pub choice_first : First time cursor evs (steps time (from cursor evs)) (choice time cursor evs).ev
    unfolding choice landed
    choice_first =
        let near = steps_inside cursor evs inside time in
        let found = half_or_less cursor evs inside time few in
        record {
          once = near;
          place = refl;
          passed = λ k h. rw (← from_at cursor evs inside k (omega arith)) (before_avoided time (from cursor evs) k (omega arith));
        }

  -- In either case the choice stays among the EVs, and the cursor moves to the EV after the one that is taken.
  pub choice_inside : Inside (length evs) (choice time cursor evs).ev (choice time cursor evs).cursor
  unfolding choice landed
  choice_inside = record { ev_inside = mod-lt _ (omega arith); cursor_inside = mod-lt _ (omega arith); cursor_next = refl }
