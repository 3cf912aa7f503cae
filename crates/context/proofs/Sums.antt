-- What one flow adds to a sum over all, and what the others add.
-- Assumes nothing.
use mathlib.Core.Path.{◌≡◌, refl, sym, ap}
use mathlib.Core.Logic.{by_cases}
use Prim.Native.Nat.{ℕ, zero, suc, ◌+◌, ◌*◌, ◌≤◌, ◌<◌}
use native.Mathlib.Nat.{not-suc-le-zero}
use native.Mathlib.Decide.{dec_lt}
use native.Mathlib.Omega.{arith}
use Rattle.rules.specs.Branch.{if_eq, eq_yes, eq_no, eq_both}
use Rattle.bits.specs.Bits.{sum_to}
use Rattle.bits.proofs.Words.{sum_same, sum_le}

-- the sum of the others
unfoldable pub sum_but : ℕ → (ℕ → ℕ) → ℕ → ℕ
sum_but k f n = sum_to (λ j. if_eq j k 0 (f j)) n

-- none of the first n is k: the others are all
but_none : (k : ℕ) (f : ℕ → ℕ) (n : ℕ) → n ≤ k → sum_but k f n ≡ sum_to f n
unfolding sum_but
but_none k f n h = sum_same _ f n (λ j l. sym (eq_no j k (f j) 0 (f j) (λ e. omega arith) refl))

-- A SUM IS ONE'S PART AND THE OTHERS'
pub sum_split : (k : ℕ) (f : ℕ → ℕ) (n : ℕ) → k < n → sum_to f n ≡ sum_but k f n + f k
unfolding sum_to sum_but
sum_split k f zero h = absurd (not-suc-le-zero h)
sum_split k f (suc n) h =
    by_cases (dec_lt k n)
    (λ l. omega (arith, sum_split k f n l, last_other l))
    (λ l.
    let e : n ≡ k = omega arith in
    omega (arith, but_none k f n (omega arith), last_own e, ap f e))
  where
    last_other : k < n → sum_but k f (suc n) ≡ sum_but k f n + f n
    last_other l = ap (λ (x : ℕ). sum_to (λ j. if_eq j k 0 (f j)) n + x) (sym (eq_no n k (f n) 0 (f n) (λ e. omega arith) refl))

    last_own : n ≡ k → sum_but k f (suc n) ≡ sum_but k f n + 0
    last_own e = ap (λ (x : ℕ). sum_to (λ j. if_eq j k 0 (f j)) n + x) (sym (eq_yes n k 0 0 (f n) e refl))

-- the others' sum does not hang on what k has
pub but_same : (k : ℕ) (f g : ℕ → ℕ) (n : ℕ) → ((j : ℕ) → j < n → (j ≡ k → ⊥) → f j ≡ g j) → sum_but k f n ≡ sum_but k g n
unfolding sum_but
but_same k f g n h =
    sum_same _ _ n
    (λ j l. eq_both (λ (x : ℕ). x ≡ if_eq j k 0 (g j)) j k 0 (f j) (λ e. eq_yes j k 0 0 (g j) e refl)
    (λ e. eq_no j k (f j) 0 (g j) e (h j l e)))

pub but_le : (k : ℕ) (f : ℕ → ℕ) (n b : ℕ) → ((j : ℕ) → j < n → f j ≤ b) → sum_but k f n ≤ n * b
unfolding sum_but
but_le k f n b h = sum_le _ n b (λ j l. eq_both (λ (x : ℕ). x ≤ b) j k 0 (f j) (λ e. omega arith) (λ e. h j l))
