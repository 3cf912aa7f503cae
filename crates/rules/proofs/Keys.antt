-- What the last arm of a `match`, `_`, tells of an enum: its place is one of those that no arm before has, so
-- it is none that an arm before has.
-- Assumes nothing.
use mathlib.Core.Path.{◌≡◌}
use mathlib.Core.Bool.{Bool, true, not, ◌&&◌}
use mathlib.Core.List.{List, [], ◌∷◌}
use mathlib.Core.Logic.{⊎_elim}
use Prim.Native.Nat.{ℕ}
use lib.Dec.{eqb}
use types.Run.{OneOf}
use borrow.Author.Tests.{eqb-false, not-true}
use Rattle.rules.specs.Test.{both}

-- a place that is none of these
unfoldable pub apart : ℕ → List ℕ → Bool
apart n [] = true
apart n (k ∷ ks) = not (eqb n k) && apart n ks

pub apart_not : (n : ℕ) (ks : List ℕ) → apart n ks ≡ true → OneOf ks n → ⊥
unfolding apart
apart_not n [] e h = h
apart_not n (k ∷ []) e h = eqb-false n k (not-true _ (both (not (eqb n k)) true e).0) h
apart_not n (k ∷ j ∷ ks) e h =
    let p = both (not (eqb n k)) (apart n (j ∷ ks)) e in
    ⊎_elim (eqb-false n k (not-true _ p.0)) (apart_not n (j ∷ ks) p.1) h
