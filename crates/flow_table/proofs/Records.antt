-- Laws of a table as words and as records: the two show the same flows, a store in one is the store in the other, and each is had back
-- from the other.
-- Assumes nothing.
use mathlib.Core.Path.{◌≡◌, refl, sym, ap, ◌∙◌}
use mathlib.Core.Bool.{false, and-false}
use mathlib.Core.List.{List, [], ◌∷◌, ◌++◌}
use Prim.Native.Nat.{ℕ, zero, suc, ◌*◌, ◌/◌, ◌%◌, ◌<◌}
use native.Mathlib.Omega.{arith}
use lib.Dec.{leb}
use lib.ListN.{length, get_or, set, take, get_or-append}
use lib.Seq.{ext_get_or, take-nil}
use borrow.Author.Tests.{eq-eqb, lt-leb}
use Rattle.rules.specs.Test.{inside}
use Rattle.ledger.specs.declared.Flow.{Flow}
use Rattle.ledger.proofs.Walks.{length_tabulate, get_d_tabulate}
use Rattle.flow_table.specs.Words.{flow_words, flows_most, word_place, count_of, is_table, flow_at, with_flow}
use Rattle.flow_table.specs.Words.{words_of, first_flows, flows_of, no_flow}

-- ---- the words of records

pub words_length : (fs : List Flow) → length (words_of fs) ≡ flow_words * length fs
unfolding words_of
words_length [] = refl
words_length (f ∷ fs) = omega (arith, words_length fs)

pub words_count : (fs : List Flow) → count_of (words_of fs) ≡ length fs
words_count fs = omega (arith, words_length fs)

-- they are those of a table where there are one to eight records
pub words_table : (fs : List Flow) → is_table (words_of fs) ≡ inside 1 (length fs) flows_most
unfolding is_table
words_table fs =
    let e : length (words_of fs) ≡ flow_words * count_of (words_of fs) = omega (arith, words_length fs) in
    rw (eq-eqb _ _ e, words_count fs)

pub many_no_table : (fs : List Flow) → flows_most < length fs → is_table (words_of fs) ≡ false
unfolding inside
many_no_table fs many = words_table fs ∙ rw (lt-leb (length fs) flows_most many) (and-false (leb 1 (length fs)))

-- a word of flow k + 1 is one of flow k, four words on
later : (k i : ℕ) → word_place (suc k) i ≡ suc (suc (suc (suc (word_place k i))))
later k i = omega arith

pub words_flow : (fs : List Flow) (k : ℕ) → flow_at (words_of fs) k ≡ get_or fs k no_flow
unfolding flow_at words_of
words_flow [] k = refl
words_flow (f ∷ fs) zero = refl
words_flow (f ∷ fs) (suc k) = simp (later k 0, later k 1, later k 2, later k 3) (words_flow fs k)

pub words_set : (fs : List Flow) (k : ℕ) (f : Flow) → with_flow (words_of fs) k f ≡ words_of (set fs k f)
unfolding with_flow words_of
words_set [] k f = refl
words_set (g ∷ fs) zero f = refl
words_set (g ∷ fs) (suc k) f =
    simp (later k 0, later k 1, later k 2, later k 3)
    (ap (λ (ws : List ℕ). g.low ∷ g.next ∷ g.held ∷ g.backlog ∷ ws) (words_set fs k f))

pub words_take : (n : ℕ) (fs : List Flow) → take (flow_words * n) (words_of fs) ≡ words_of (take n fs)
unfolding words_of
words_take zero fs = refl
words_take (suc n) [] = take-nil (flow_words * suc n)
words_take (suc n) (f ∷ fs) =
    let e : flow_words * suc n ≡ suc (suc (suc (suc (flow_words * n)))) = omega arith in
    rw e (ap (λ (ws : List ℕ). f.low ∷ f.next ∷ f.held ∷ f.backlog ∷ ws) (words_take n fs))

-- ---- two tables of the same flows are the same

module _ (n : ℕ) (ws vs : List ℕ) (long : length ws ≡ flow_words * n) (as_long : length vs ≡ flow_words * n)
    (same : (k : ℕ) → k < n → flow_at ws k ≡ flow_at vs k) where
  at_place : (k : ℕ) → k < n → (r : ℕ) → r < flow_words → get_or ws (word_place k r) 0 ≡ get_or vs (word_place k r) 0
  unfolding flow_at
  at_place k l zero h = ap (λ (f : Flow). f.low) (same k l)
  at_place k l (suc zero) h = ap (λ (f : Flow). f.next) (same k l)
  at_place k l (suc (suc zero)) h = ap (λ (f : Flow). f.held) (same k l)
  at_place k l (suc (suc (suc zero))) h = ap (λ (f : Flow). f.backlog) (same k l)
  at_place k l (suc (suc (suc (suc r)))) h = absurd (omega arith)

  pub flows_same : ws ≡ vs
  flows_same =
      ext_get_or 0 ws vs (long ∙ sym as_long) (λ i h.
      let e : word_place (i / flow_words) (i % flow_words) ≡ i = omega arith in
      rw e at (at_place (i / flow_words) (omega arith) (i % flow_words) (omega arith)))

-- ---- and back

pub first_length : (n : ℕ) (ws : List ℕ) → length (first_flows n ws) ≡ n
unfolding first_flows
first_length n ws = length_tabulate (flow_at ws) n

pub first_at : (n : ℕ) (ws : List ℕ) (k : ℕ) → k < n → get_or (first_flows n ws) k no_flow ≡ flow_at ws k
unfolding first_flows
first_at n ws k l = get_d_tabulate (flow_at ws) no_flow n k l

-- the first flows' words are the words
pub first_words : (n : ℕ) (ws : List ℕ) → length ws ≡ flow_words * n → words_of (first_flows n ws) ≡ ws
first_words n ws e =
    flows_same n (words_of (first_flows n ws)) ws (words_length (first_flows n ws) ∙ ap (λ (m : ℕ). flow_words * m) (first_length n ws)) e
    (λ k l. words_flow (first_flows n ws) k ∙ first_at n ws k l)

pub words_flows : (ws : List ℕ) → length ws ≡ flow_words * count_of ws → words_of (flows_of ws) ≡ ws
words_flows ws e = first_words (count_of ws) ws e

pub flows_words : (fs : List Flow) → flows_of (words_of fs) ≡ fs
flows_words fs =
    let n = first_length (count_of (words_of fs)) (words_of fs) ∙ words_count fs in
    ext_get_or no_flow (flows_of (words_of fs)) fs n (λ k l. first_at (count_of (words_of fs)) (words_of fs) k (omega (arith, words_count fs))
    ∙ words_flow fs k)

-- the first flows stand in the first words
pub first_front : (n : ℕ) (ws vs : List ℕ) → length ws ≡ flow_words * n → first_flows n (ws ++ vs) ≡ first_flows n ws
unfolding flow_at
first_front n ws vs e =
    ext_get_or no_flow (first_flows n (ws ++ vs)) (first_flows n ws) (first_length n (ws ++ vs) ∙ sym (first_length n ws)) (λ k l.
    let h : k < n = omega (arith, first_length n (ws ++ vs)) in
    let front : (i : ℕ) → i < flow_words → get_or (ws ++ vs) (word_place k i) 0 ≡ get_or ws (word_place k i) 0 =
    λ i m. get_or-append ws vs 0 (word_place k i) (omega arith) in
    first_at n (ws ++ vs) k h ∙ rw (front 0 (omega arith), front 1 (omega arith), front 2 (omega arith), front 3 (omega arith)) refl
    ∙ sym (first_at n ws k h))
