-- What a record adds to the figures, by what was matched and tested. Assumes nothing.
use mathlib.Core.Path.{◌≡◌, refl}
use mathlib.Core.Bool.{Bool}
use mathlib.Core.List.{List}
use Prim.Native.Nat.{ℕ, ◌+◌, ◌≤◌, ◌<◌, max}
use lib.ListN.{get_or, set}
use native.Mathlib.Omega.{arith}
use Rattle.rules.specs.Branch.{so_both, eq_yes, eq_no, lt_yes, lt_no}
use Rattle.window.specs.Delays.{sample_in}
use Rattle.window.specs.Sample.{Sample}
use Rattle.std.specs.Prelude.{Some, None}
use Rattle.window.specs.declared.Sampling.{Sampling}
use Rattle.sender.specs.declared.Send.{Send}
use Rattle.replay.specs.Batches.{kind_of}
use Rattle.replay.specs.declared.Shown.{Shown}
use Rattle.replay.specs.declared.Shown.TheVariants.{Nothing, State, Path, Sample as Sampled}
use Rattle.replay.specs.declared.records.Event.{Event}
use Rattle.replay.specs.declared.records.Event.TheVariants as event
use Rattle.replay.specs.declared.turns.Found.{Found}
use Rattle.replay.specs.declared.turns.Found.TheVariants as found
use Rattle.replay.proofs.Batching.{kind_most}
use Rattle.report_text.specs.Places.{answers, kinds_at, figure_count, buckets_at, least_at, greatest_at}
use Rattle.replay_report.specs.Figures.{raised, answer_counted, kind_counted, bucket_of, lesser, least_kept, greatest_kept, ticks_counted}
use Rattle.replay_report.specs.Figures.{sample_counted, sent_at, send_counted, event_counted, bytes_counted, counted}

-- ---- answers

module _ (number : ℕ) (figures : List ℕ) where
  pub answer_one : number < answers → {r : List ℕ} → r ≡ raised number 1 figures → r ≡ answer_counted number figures
  unfolding answer_counted
  answer_one h {r} e = lt_yes number answers r _ figures h e

  pub answer_none : answers ≤ number → figures ≡ answer_counted number figures
  unfolding answer_counted
  answer_none h = lt_no number answers figures _ figures h refl

-- ---- samples

pub kind_inside : (q : Sampling) {at : ℕ} → at ≡ kinds_at + kind_of q → at < figure_count
kind_inside q e = omega (arith, kind_most q refl)

module _ (figures : List ℕ) where
  pub ticks_none : (p : Sample) → p ≡ None → figures ≡ ticks_counted p figures
  unfolding ticks_counted
  ticks_none p e = rw e

  pub ticks_one : (p : Sample) (t : ℕ) → p ≡ Some t → (least greatest k : ℕ) (r : List ℕ) → least ≡ lesser (get_or figures least_at 0) t
      → greatest ≡ max (get_or (set figures least_at least) greatest_at 0) t → k ≡ bucket_of t
      → r ≡ raised (buckets_at + k) 1 (set (set figures least_at least) greatest_at greatest) → r ≡ ticks_counted p figures
  unfolding ticks_counted least_kept greatest_kept
  ticks_one p t e least greatest k r l g b q = rw (e, ← l, ← g, ← b) q

  pub sample_none : (s : Shown) → ((q : Sampling) → s ≡ Sampled q → ⊥) → figures ≡ sample_counted s figures
  unfolding sample_counted
  sample_none Nothing n = refl
  sample_none State n = refl
  sample_none (Path ev) n = refl
  sample_none (Sampled q) n = absurd (n q refl)

  pub sample_one : (s : Shown) (q : Sampling) → s ≡ Sampled q → (at : ℕ) (x : List ℕ) (p : Sample) (r : List ℕ) → at ≡ kinds_at + kind_of q
      → x ≡ raised at 1 figures → p ≡ sample_in q → r ≡ ticks_counted p x → r ≡ sample_counted s figures
  unfolding sample_counted kind_counted
  sample_one s q e at x p r a b d h = rw (e, ← a, ← b, ← d) h

-- ---- bytes

pub sent_inside : (b : Bool) {at : ℕ} → at ≡ sent_at b → at < figure_count
sent_inside b e = rw e (so_both (λ (at : ℕ). at < figure_count) b _ _ (λ _. omega arith) (λ _. omega arith))

module _ (number : ℕ) (figures : List ℕ) where
  pub send_none : (e : Event) → ((time k : ℕ) (a : Send) → e ≡ event.Send time k a → ⊥) → figures ≡ event_counted number e figures
  unfolding event_counted
  send_none (event.NewData time k bytes) n = refl
  send_none (event.Send time k a) n = absurd (n time k a refl)
  send_none (event.Ack time k a) n = refl
  send_none (event.Nack time k a) n = refl
  send_none (event.Loss time k a) n = refl
  send_none (event.Path time k) n = refl
  send_none (event.SetUp s) n = refl

  module _ (e : Event) (time k : ℕ) (a : Send) (is : e ≡ event.Send time k a) where
    pub send_refused : (number ≡ 0 → ⊥) → figures ≡ event_counted number e figures
    unfolding event_counted send_counted
    send_refused n = rw is (eq_no number 0 figures _ figures n refl)

    pub send_one : number ≡ 0 → {r : List ℕ} → r ≡ raised (sent_at a.resend) a.size figures → r ≡ event_counted number e figures
    unfolding event_counted send_counted
    send_one y {r} h = rw is (eq_yes number 0 r _ figures y h)

  pub stands_none : (x : Found) → ((e : Event) (next : ℕ) → x ≡ found.Whole e next → ⊥) → figures ≡ bytes_counted number x figures
  unfolding bytes_counted
  stands_none (found.Whole e next) n = absurd (n e next refl)
  stands_none found.End n = refl
  stands_none found.Malformed n = refl

  pub stands_one : (x : Found) (e : Event) (next : ℕ) → x ≡ found.Whole e next → {r : List ℕ} → r ≡ event_counted number e figures
      → r ≡ bytes_counted number x figures
  unfolding bytes_counted
  stands_one x e next is h = rw is h

-- ---- all of it

pub all_counted : (stands : Found) (number : ℕ) (shown : Shown) (figures x y r : List ℕ) → x ≡ answer_counted number figures
    → y ≡ sample_counted shown x
    → r ≡ bytes_counted number stands y → r ≡ counted stands number shown figures
unfolding counted
all_counted stands number shown figures x y r a b e = rw (← a, ← b) e
