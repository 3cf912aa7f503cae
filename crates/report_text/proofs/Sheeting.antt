-- The report at a buffer's front: where the figures or the room are not enough nothing is put, else the report.
-- Assumes nothing.
use mathlib.Core.Path.{◌≡◌, refl, sym}
use mathlib.Core.List.{List}
use Prim.Native.Nat.{ℕ, ◌≤◌, ◌<◌}
use lib.ListN.{length}
use lib.Seq.{length-take-le}
use native.Mathlib.Omega.{arith}
use Rattle.rules.specs.Branch.{eq_yes, eq_no, lt_yes, lt_no}
use Rattle.text.specs.Counts.{IsPrefixLen}
use Rattle.text.specs.Decimal.{Put}
use Rattle.report_text.specs.Places.{figure_count}
use Rattle.report_text.specs.Sheet.{sheet_text, sheet_most, sheeted}

module _ (figures out : List ℕ) where
  pub no_figures : (length figures ≡ figure_count → ⊥) → (0, out) ≡ sheeted figures out
  unfolding sheeted
  no_figures h = eq_no _ _ _ _ _ h refl

  pub no_room : length figures ≡ figure_count → length out < sheet_most → (0, out) ≡ sheeted figures out
  unfolding sheeted
  no_room e h = eq_yes _ _ _ _ _ e (lt_yes _ _ _ _ _ h refl)

  pub room : {after : List ℕ} {n : ℕ} → length figures ≡ figure_count → sheet_most ≤ length out → Put out 0 (sheet_text figures) after n
      → (n, after) ≡ sheeted figures out
  unfolding sheeted
  room {after} {n} e h p =
      let past : n ≡ length (sheet_text figures) = omega (arith, p.past) in
      eq_yes _ _ _ _ _ e (lt_no _ _ _ _ _ h (cc (past, p.is)))

-- so many bytes are the buffer's front
pub counts_none : (out : List ℕ) → IsPrefixLen 0 out
counts_none out = (omega arith, refl)

pub counts : (n : ℕ) (out : List ℕ) → n ≤ length out → IsPrefixLen n out
counts n out h = (h, sym (length-take-le n out h))
