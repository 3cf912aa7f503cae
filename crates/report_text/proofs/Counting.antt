-- The loop that puts counts, a line for each that is not 0: `Listed` is its invariant.
-- Assumes nothing.
use mathlib.Core.Path.{◌≡◌, refl, sym}
use mathlib.Core.List.{List, [], ◌∷◌, ◌++◌}
use Prim.Native.Nat.{ℕ, ◌+◌, ◌*◌, ◌≤◌}
use lib.ListN.{get_or}
use native.Mathlib.Numerals.{add-one}
use native.Mathlib.Omega.{arith}
use Rattle.rules.specs.Branch.{eq_yes, eq_no}
use Rattle.text.specs.Decimal.{newline, column, Put}
use Rattle.text.proofs.Puts.{then}
use Rattle.report_text.specs.Sheet.{count_line, count_lines, line_most}

-- ---- one count

pub put_none : (out : List ℕ) (at : ℕ) → Put out at [] out at
put_none out at = record { past = omega arith; is = refl }

pub count_none : (label : List ℕ) (number n : ℕ) → n ≡ 0 → count_line label number n ≡ []
unfolding count_line
count_none label number n e = sym (eq_yes n 0 [] _ _ e refl)

pub count_some : (label : List ℕ) (number n : ℕ) → (n ≡ 0 → ⊥)
    → label ++ (column number ++ (column n ++ (newline ∷ []))) ≡ count_line label number n
unfolding count_line
count_some label number n e = eq_no n 0 _ _ _ e refl

-- ---- one after another

-- k of them are put
pub record Listed (out₀ : List ℕ) (at : ℕ) (label : List ℕ) (number place : ℕ) (figures out : List ℕ) (p k : ℕ) : Type 0 where
  pub words : Put out₀ at (count_lines label number place figures k) out p
  pub most : p ≤ at + k * line_most

module _ (label : List ℕ) (number place : ℕ) (figures : List ℕ) where
  pub listed_none : (out : List ℕ) (at : ℕ) → Listed out at label number place figures out at 0
  unfolding count_lines
  listed_none out at = record { words = put_none out at; most = omega arith }

  pub listed_more : {out₀ : List ℕ} {at : ℕ} {out : List ℕ} {p k : ℕ} → Listed out₀ at label number place figures out p k
      → {after : List ℕ} {next : ℕ} → Put out p (count_line label (number + k) (get_or figures (place + k) 0)) after next
      → next ≤ p + line_most
      → Listed out₀ at label number place figures after next (k + 1)
  unfolding count_lines
  listed_more {out₀} {at} {out} {p} {k} g {after} {next} line short =
      record {
        words = rw (add-one k) (then g.words line);
        most = omega (arith, g.most);
      }
