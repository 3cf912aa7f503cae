-- Refusals as rows: each has a test and the number that it gives. Of several that apply, the first row's number
-- is given; 0 where none applies.
-- Assumes nothing.
use Rattle.std.specs.Prelude.{◌≡◌, refl, Bool, true, false, List, [], ◌∷◌, ℕ, ◌<◌}
use Rattle.std.proofs.Common.{arith}
use Rattle.rules.specs.Branch.{if_so, so_yes, so_no}

pub record Row : Type 0 where
  pub test : Bool
  pub number : ℕ

-- "refused with this number where the test holds"
abbrev pub row : Bool → ℕ → Row
row t n = record { test = t; number = n }

-- the number of the first row whose test holds
unfoldable pub first_of : List Row → ℕ
first_of [] = 0
first_of (x ∷ xs) = if_so x.test x.number (first_of xs)

pub first_none : 0 ≡ first_of []
unfolding first_of
first_none = refl

pub first_here : (r n : ℕ) (t : Bool) (xs : List Row) → t ≡ true → r ≡ n → r ≡ first_of (row t n ∷ xs)
unfolding first_of
first_here r n t xs e f = so_yes t r n (first_of xs) e f

pub first_later : (r n : ℕ) (t : Bool) (xs : List Row) → t ≡ false → r ≡ first_of xs → r ≡ first_of (row t n ∷ xs)
unfolding first_of
first_later r n t xs e f = so_no t r n (first_of xs) e f

-- where no row applies, no test holds
pub none_here : (n : ℕ) (t : Bool) (xs : List Row) → 0 < n → first_of (row t n ∷ xs) ≡ 0 → (t ≡ false) × (first_of xs ≡ 0)
unfolding first_of if_so
none_here n true xs h e = absurd (omega arith)
none_here n false xs h e = (refl, e)

-- what `search` walks rows by, beside the facts of the branches
pub ruleset rows = (first_none, first_here, first_later)
