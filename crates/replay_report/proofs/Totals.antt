-- REQUEST M-105, "the bucket counts add up to the samples taken, cut ones included": of any turns (`buckets_add_up`), and of the figures of
-- a report (`report_adds_up`). Assumes nothing.
use mathlib.Core.Path.{◌≡◌, refl, ◌∙◌}
use mathlib.Core.Bool.{Bool, true, false}
use mathlib.Core.List.{List, [], ◌∷◌}
use Prim.Native.Nat.{ℕ, zero, suc, ◌+◌, ◌-◌, ◌^◌, ◌≤◌, ◌<◌}
use lib.Dec.{eqb}
use lib.ListN.{length, get_or, get_or-replicate}
use borrow.Author.Tests.{eqb-true, eqb-false, ne_eqb}
use native.Mathlib.Omega.{arith}
use Rattle.rules.specs.Branch.{if_so, so_both}
use Rattle.window.specs.Limits.{sample_most}
use Rattle.window.specs.Delays.{sample_in}
use Rattle.window.specs.declared.Sampling.TheVariants.{Taken, Cut, Gone, Ambiguous, NotPositive}
use Rattle.context.specs.Context.{Context}
use Rattle.replay.specs.Batches.{kind_of}
use Rattle.replay.specs.Places.{Feed, logged, end_from, Turning, turn_of, turns_in, turns_of}
use Rattle.replay.specs.declared.Place.{Place}
use Rattle.replay.specs.declared.Shown.{Shown}
use Rattle.replay.specs.declared.Shown.TheVariants.{Nothing, State, Path, Sample as Sampled}
use Rattle.report_text.specs.Places.{kinds_at, least_at, greatest_at, buckets_at, buckets, figure_count}
use Rattle.replay_report.specs.Figures.{bucket_of}
use Rattle.replay_report.specs.Statements.{one, how_many, kind_test, of_kind, sample_shown, ticks_test, in_bucket, total, Counts, kind}
use Rattle.replay_report.specs.Statements.{bucket, least_of, greatest_of, zeros, report_from}
use Rattle.replay_report.proofs.Buckets.{bucket_most}
use Rattle.replay_report.proofs.Exact.{figure_counts, least_is, least_fresh, greatest_is}
use Rattle.replay_report.proofs.Highest.{turns_positive}

-- ---- sums

total_same : (n : ℕ) (a b : ℕ → ℕ) → ((k : ℕ) → k < n → a k ≡ b k) → total n a ≡ total n b
unfolding total
total_same zero a b e = refl
total_same (suc n) a b e = omega (arith, total_same n a b (λ k h. e k (omega arith)), e n (omega arith))

total_none : (n : ℕ) → total n (λ k. 0) ≡ 0
unfolding total
total_none zero = refl
total_none (suc n) = omega (arith, total_none n)

total_both : (n : ℕ) (a b : ℕ → ℕ) → total n (λ k. a k + b k) ≡ total n a + total n b
unfolding total
total_both zero a b = refl
total_both (suc n) a b = omega (arith, total_both n a b)

-- one number stands among the first n once, or not at all
one_below : (n b : ℕ) → n ≤ b → total n (λ k. one (eqb b k)) ≡ 0
unfolding total if_so
one_below zero b h = refl
one_below (suc n) b h = rw (ne_eqb b n (λ e. let no : ⊥ = omega arith in no)) (omega (arith, one_below n b (omega arith)))

one_among : (n b : ℕ) → b < n → total n (λ k. one (eqb b k)) ≡ 1
unfolding total if_so
one_among zero b h = absurd (let no : ⊥ = omega arith in no)
one_among (suc n) b h = by (eqb b n) refl (one_among n b)
  where
    by : (t : Bool) → eqb b n ≡ t → (b < n → total n (λ k. one (eqb b k)) ≡ 1) → total n (λ k. one (eqb b k)) + one t ≡ 1
    by true e less = omega (arith, one_below n b (omega (arith, eqb-true b n e)))
    by false e less = omega (arith, less (omega (arith, eqb-false b n e)))

-- ---- a turn's sample stands in one bucket

shown_adds_up : (s : Shown) → total buckets (λ k. one (ticks_test k (sample_shown s))) ≡ one (kind_test 1 s) + one (kind_test 2 s)
unfolding sample_shown kind_test ticks_test sample_in kind_of if_so
shown_adds_up Nothing = total_none buckets
shown_adds_up State = total_none buckets
shown_adds_up (Path ev) = total_none buckets
shown_adds_up (Sampled (Taken t)) = one_among buckets (bucket_of t) (bucket_most t)
shown_adds_up (Sampled Cut) = one_among buckets (bucket_of sample_most) (bucket_most sample_most)
shown_adds_up (Sampled Gone) = total_none buckets
shown_adds_up (Sampled Ambiguous) = total_none buckets
shown_adds_up (Sampled NotPositive) = total_none buckets

-- THE BUCKETS ADD UP: over any turns they hold the samples taken and those cut
pub buckets_add_up : (ts : List Turning) → total buckets (λ k. how_many (in_bucket k) ts) ≡ how_many (of_kind 1) ts + how_many (of_kind 2) ts
unfolding how_many
buckets_add_up [] = total_none buckets
buckets_add_up (t ∷ ts) =
    total_both buckets (λ k. one (in_bucket k t)) (λ k. how_many (in_bucket k) ts)
    ∙ omega (arith, shown_adds_up t.shown, buckets_add_up ts)

-- ---- and so do the figures of a report

few_turns : (test : Turning → Bool) (ts : List Turning) → how_many test ts ≤ length ts
unfolding how_many
few_turns test [] = omega arith
few_turns test (t ∷ ts) =
    omega (arith, few_turns test ts, so_both (λ (n : ℕ). n ≤ 1) (test t) 1 0 (λ _. omega arith) (λ _. omega arith))

-- no more turns than bytes
turns_few : (k : ℕ) (f : Feed) (p : Place) (w : Context) → length (turns_in k f p w) ≤ k
unfolding turns_in
turns_few zero f p w = omega arith
turns_few (suc k) f p w =
    let t = turn_of f p w in
    so_both (λ (ts : List Turning). length ts ≤ suc k) t.ended _ _ (λ _. omega arith)
    (λ _. omega (arith, turns_few k f t.place t.after))

log_few : (log : List ℕ) (p : Place) (w : Context) → length (turns_of (logged log) p w) ≤ length log
unfolding turns_of end_from
log_few log p w = omega (arith, turns_few (length log - p.at) (logged log) p w)

-- from zeros, a figure that counts is the exact count
module _ (log : List ℕ) (p : Place) (w : Context) (fits : length log < 2 ^ 64) where
  abbrev turns : List Turning
  turns = turns_of (logged log) p w

  pub report_counts : {i : ℕ} {test : Turning → Bool} → Counts i test → i < figure_count → get_or (report_from log p w) i 0 ≡ how_many test turns
  report_counts {i} {test} c h =
      let none : get_or zeros i 0 ≡ 0 = get_or-replicate figure_count i 0 0 h in
      omega (arith, figure_counts c (logged log) p turns zeros refl (omega arith), few_turns test turns, log_few log p w)

  -- THE FIGURES ADD UP: a report's buckets hold the samples taken and those cut
  pub report_adds_up : total buckets (λ k. get_or (report_from log p w) (buckets_at + k) 0)
      ≡ get_or (report_from log p w) (kinds_at + 1) 0 + get_or (report_from log p w) (kinds_at + 2) 0
  report_adds_up =
      total_same buckets _ (λ k. how_many (in_bucket k) turns) (λ k h. report_counts (bucket k h) (omega arith))
      ∙ omega (
        arith,
        buckets_add_up turns,
        report_counts (kind 1 (omega arith) (omega arith)) (omega arith),
        report_counts
            (kind 2 (omega arith) (omega arith)) (omega arith),
      )

  -- "least and greatest sample (0 if none)"
  pub report_least : get_or (report_from log p w) least_at 0 ≡ least_of turns
  report_least = least_is (logged log) p turns zeros (turns_positive (logged log) p w) refl ∙ least_fresh (least_of turns)

  pub report_greatest : get_or (report_from log p w) greatest_at 0 ≡ greatest_of turns
  report_greatest = greatest_is (logged log) p turns zeros refl ∙ omega arith
