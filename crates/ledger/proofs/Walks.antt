-- Laws of walks: a test at each of the first n numbers, what the packets of a queue add up to, a table of a function's values.
-- Assumes nothing.
use Rattle.std.proofs.Common.{◌≡◌, ℕ, zero, suc, ◌+◌, ◌*◌, ◌<◌, ◌≤◌, Bool, true, ◌&&◌, List, [], ◌∷◌, ◌++◌, length, get_or, set, sym, refl, ap, subst, ⊎_elim, zero-le, le_refl, le_of_suc-le-suc, not-suc-le-zero, add-zero, add-suc, suc-mul, eq-or-lt_of_le, add-one, arith}
use mathlib.Core.Bool.{and-true, and_assoc}
use Rattle.rules.specs.Test.{both, whole}
use Rattle.ledger.specs.Packets.{no_packet, sum_of}
use Rattle.ledger.specs.Ring.{tabulate}
use Rattle.ledger.specs.Sound.{all_to}
use Rattle.ledger.specs.declared.Packet.{Packet}

-- ---- a test at each of 0 .. n - 1

module _ (f : ℕ → Bool) where
  pub all_none : all_to f 0 ≡ true
  unfolding all_to
  all_none = refl

  pub all_more : (n : ℕ) → all_to f (n + 1) ≡ (all_to f n && f n)
  unfolding all_to
  all_more n = rw add-one refl

  -- the test over n holds where it holds at each number below n, and only there
  pub all_at : (n : ℕ) → all_to f n ≡ true → (k : ℕ) → k < n → f k ≡ true
  unfolding all_to
  all_at zero e k l = absurd (not-suc-le-zero l)
  all_at (suc n) e k l =
      let p = both (all_to f n) (f n) e in
      ⊎_elim (λ q. subst (λ (j : ℕ). f j ≡ true) (sym q) p.1) (λ m. all_at n p.0 k m) (eq-or-lt_of_le (le_of_suc-le-suc l))

  pub all_of : (n : ℕ) → ((k : ℕ) → k < n → f k ≡ true) → all_to f n ≡ true
  unfolding all_to
  all_of zero h = refl
  all_of (suc n) h = whole (all_of n (λ k l. h k (omega arith))) (h n (le_refl (suc n)))

-- a test that agrees at each of them
pub all_same : (f g : ℕ → Bool) (n : ℕ) → ((k : ℕ) → k < n → f k ≡ g k) → all_to f n ≡ all_to g n
unfolding all_to
all_same f g zero h = refl
all_same f g (suc n) h = rw (all_same f g n (λ k l. h k (omega arith)), h n (le_refl (suc n)))

-- the test over j + m is one over the first j and one over the m behind them
pub all_join : (f g h : ℕ → Bool) (j m : ℕ) → ((k : ℕ) → k < j → f k ≡ g k) → ((k : ℕ) → k < m → f (j + k) ≡ h k)
    → all_to f (j + m) ≡ (all_to g j && all_to h m)
unfolding all_to
all_join f g h j zero a b = rw (add-zero, and-true) (all_same f g j a)
all_join f g h j (suc m) a b =
    rw (add-suc, all_join f g h j m a (λ k l. b k (omega arith)), b m (le_refl (suc m))) (and_assoc (all_to g j) (all_to h m) (h m))

-- ---- what the packets of a queue add up to

module _ (adds : Packet → ℕ) where
  pub sum_append : (xs ys : List Packet) → sum_of adds (xs ++ ys) ≡ sum_of adds xs + sum_of adds ys
  unfolding sum_of
  sum_append [] ys = omega arith
  sum_append (x ∷ xs) ys = omega (arith, sum_append xs ys)

  pub sum_one : (x : Packet) → sum_of adds (x ∷ []) ≡ adds x
  unfolding sum_of
  sum_one x = omega arith

  -- packet k becomes x
  pub sum_set : (xs : List Packet) (k : ℕ) (x : Packet) → k < length xs
      → sum_of adds (set xs k x) + adds (get_or xs k no_packet) ≡ sum_of adds xs + adds x
  unfolding sum_of
  sum_set [] k x h = absurd (not-suc-le-zero h)
  sum_set (y ∷ ys) zero x h = omega arith
  sum_set (y ∷ ys) (suc k) x h = omega (arith, sum_set ys k x (le_of_suc-le-suc h))

  -- a packet adds no more than all do
  pub sum_at_le : (xs : List Packet) (k : ℕ) → k < length xs → adds (get_or xs k no_packet) ≤ sum_of adds xs
  unfolding sum_of
  sum_at_le [] k h = absurd (not-suc-le-zero h)
  sum_at_le (y ∷ ys) zero h = omega arith
  sum_at_le (y ∷ ys) (suc k) h = omega (arith, sum_at_le ys k (le_of_suc-le-suc h))

  -- each adds at most b
  pub sum_bound : (b : ℕ) (xs : List Packet) → ((k : ℕ) → k < length xs → adds (get_or xs k no_packet) ≤ b) → sum_of adds xs ≤ length xs * b
  unfolding sum_of
  sum_bound b [] h = zero-le
  sum_bound b (x ∷ xs) h =
      omega (arith, h 0 (omega arith), sum_bound b xs (λ k l. h (suc k) (omega arith)), suc-mul (length xs) b)

-- ---- a table of a function's values

module _ {A : Type 0} where
  pub length_tabulate : (f : ℕ → A) (n : ℕ) → length (tabulate f n) ≡ n
  unfolding tabulate
  length_tabulate f zero = refl
  length_tabulate f (suc n) = ap suc (length_tabulate (λ k. f (suc k)) n)

  pub get_d_tabulate : (f : ℕ → A) (d : A) (n k : ℕ) → k < n → get_or (tabulate f n) k d ≡ f k
  unfolding tabulate
  get_d_tabulate f d zero k h = absurd (not-suc-le-zero h)
  get_d_tabulate f d (suc n) zero h = refl
  get_d_tabulate f d (suc n) (suc k) h = get_d_tabulate (λ k. f (suc k)) d n k (le_of_suc-le-suc h)
