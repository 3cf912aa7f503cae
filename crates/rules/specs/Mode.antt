-- A mode of the state as a number: on or off.
-- Assumes nothing.
use Rattle.std.specs.Prelude.{◌≡◌, ℕ, ◌≤◌, Bool, true, cond, eqb, leb}
use Rattle.std.proofs.Common.{leb-true, le-leb}

abbrev pub off : ℕ
off = 0

abbrev pub on : ℕ
on = 1

unfoldable pub is_on : ℕ → Bool
is_on mode = eqb mode on

-- no other number is a mode
unfoldable pub is_mode : ℕ → Bool
is_mode mode = leb mode on

pub mode_tells : (mode : ℕ) → is_mode mode ≡ true → mode ≤ on
unfolding is_mode
mode_tells mode e = leb-true mode on e

pub mode_yes : (mode : ℕ) → mode ≤ on → is_mode mode ≡ true
unfolding is_mode
mode_yes mode h = le-leb mode on h

unfoldable pub mode_of : Bool → ℕ
mode_of test = cond test on off
