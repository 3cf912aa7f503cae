-- One figure after each step that counts a record: what is raised, what is kept, and what is left alone. Assumes nothing.
use mathlib.Core.Path.{◌≡◌, refl, sym, ap, ◌∙◌}
use mathlib.Core.Bool.{Bool, true, false}
use mathlib.Core.List.{List}
use Prim.Native.Nat.{ℕ, ◌+◌, ◌≤◌, ◌<◌, max}
use lib.Dec.{eqb}
use lib.ListN.{length, get_or, length-set}
use lib.Seq.{get_or-set_same, get_or-set_other}
use borrow.Author.Tests.{eqb-true, eqb-false, ne_eqb}
use native.Mathlib.Omega.{arith}
use Rattle.rules.specs.Branch.{if_so, if_eq, so_both, lt_both, eq_both, eq_yes, eq_no}
use Rattle.window.specs.Delays.{sample_in}
use Rattle.window.specs.Sample.{Sample}
use Rattle.std.specs.Prelude.{Some, None}
use Rattle.window.specs.declared.Sampling.{Sampling}
use Rattle.window.specs.declared.Sampling.TheVariants.{Taken, Cut, Gone, Ambiguous, NotPositive}
use Rattle.sender.specs.declared.Send.{Send}
use Rattle.replay.specs.Batches.{kind_of}
use Rattle.replay.specs.declared.Shown.{Shown}
use Rattle.replay.specs.declared.Shown.TheVariants.{Nothing, State, Path, Sample as Sampled}
use Rattle.replay.specs.declared.records.Event.{Event}
use Rattle.replay.specs.declared.records.Event.TheVariants as event
use Rattle.replay.specs.declared.turns.Found.{Found}
use Rattle.replay.specs.declared.turns.Found.TheVariants as found
use Rattle.replay.proofs.Batching.{kind_most}
use Rattle.report_text.specs.Places.{answers, kinds_at, least_at, greatest_at, buckets_at, buckets, new_at, figure_count}
use Rattle.replay_report.specs.Figures.{word_most, added, raised, answer_counted, kind_counted, bucket_of, least_kept, greatest_kept}
use Rattle.replay_report.specs.Figures.{ticks_counted, sample_counted, sent_at, send_counted, event_counted, bytes_counted}
use Rattle.replay_report.specs.Statements.{one, kind_test, sample_shown, ticks_test, with_least, with_greatest, send_bytes, event_bytes}
use Rattle.replay_report.specs.Statements.{record_bytes}
use Rattle.replay_report.proofs.Buckets.{bucket_most}

-- ---- one figure after a figure is raised

pub raised_long : (at n : ℕ) (fs : List ℕ) → length (raised at n fs) ≡ length fs
unfolding raised
raised_long at n fs = length-set fs at _

pub raised_other : (at n : ℕ) (fs : List ℕ) (i : ℕ) → (i ≡ at → ⊥) → get_or (raised at n fs) i 0 ≡ get_or fs i 0
unfolding raised
raised_other at n fs i d = get_or-set_other fs at i _ 0 d

pub raised_same : (at n : ℕ) (fs : List ℕ) (i : ℕ) → i ≡ at → i < length fs → get_or (raised at n fs) i 0 ≡ added (get_or fs i 0) n
unfolding raised
raised_same at n fs i e h = rw (← e) (get_or-set_same fs i _ 0 h)

one_no : (b : Bool) → b ≡ false → one b ≡ 0
unfolding if_so
one_no b e = rw e

one_yes : (b : Bool) → b ≡ true → one b ≡ 1
unfolding if_so
one_yes b e = rw e

-- a figure that is left alone counts nothing
none_added : {a : ℕ} → a ≤ word_most → a ≡ added a (one false)
none_added h = omega (arith, one_no false refl)

-- one that may be raised by one counts the test of whether it is
one_added : (at : ℕ) (fs : List ℕ) (i : ℕ) (b : Bool) → (b ≡ true → i ≡ at) → (b ≡ false → i ≡ at → ⊥) → i < length fs
    → get_or fs i 0 ≤ word_most
    → get_or (raised at 1 fs) i 0 ≡ added (get_or fs i 0) (one b)
one_added at fs i true y n h w = raised_same at 1 fs i (y refl) h ∙ ap (added (get_or fs i 0)) (sym (one_yes true refl))
one_added at fs i false y n h w = raised_other at 1 fs i (n refl) ∙ none_added w

-- ---- answers

pub answer_long : (number : ℕ) (fs : List ℕ) → length (answer_counted number fs) ≡ length fs
unfolding answer_counted
answer_long number fs = lt_both (λ (l : List ℕ). length l ≡ length fs) number answers _ _ (λ _. raised_long number 1 fs) (λ _. refl)

pub answer_other : (number : ℕ) (fs : List ℕ) (i : ℕ) → answers ≤ i → get_or (answer_counted number fs) i 0 ≡ get_or fs i 0
unfolding answer_counted
answer_other number fs i h =
    lt_both (λ (l : List ℕ). get_or l i 0 ≡ get_or fs i 0) number answers _ _
    (λ b. raised_other number 1 fs i (λ e. let no : ⊥ = omega arith in no))
    (λ _. refl)

pub answer_at : (number : ℕ) (fs : List ℕ) (n : ℕ) → n < answers → n < length fs → get_or fs n 0 ≤ word_most
    → get_or (answer_counted number fs) n 0 ≡ added (get_or fs n 0) (one (eqb number n))
unfolding answer_counted
answer_at number fs n h l w =
    lt_both (λ (x : List ℕ). get_or x n 0 ≡ added (get_or fs n 0) (one (eqb number n))) number answers _ _
    (λ _. one_added number fs n (eqb number n) (λ e. sym (eqb-true number n e)) (λ e q. eqb-false number n e (sym q)) l w)
    (λ b. none_added w ∙ ap (λ (k : ℕ). added (get_or fs n 0) k) (one_no false refl ∙ sym (one_no (eqb number n) (other b))))
  where
    other : answers ≤ number → eqb number n ≡ false
    other b = ne_eqb number n (λ e. let no : ⊥ = omega arith in no)

-- ---- samples

kind_some : (q : Sampling) → 1 ≤ kind_of q
unfolding kind_of
kind_some (Taken ticks) = omega arith
kind_some Cut = omega arith
kind_some Gone = omega arith
kind_some Ambiguous = omega arith
kind_some NotPositive = omega arith

least_long : (t : ℕ) (fs : List ℕ) → length (least_kept t fs) ≡ length fs
unfolding least_kept
least_long t fs = length-set fs least_at _

ends_long : (t : ℕ) (fs : List ℕ) → length (greatest_kept t (least_kept t fs)) ≡ length fs
unfolding least_kept greatest_kept
ends_long t fs = simp length-set

ticks_long : (p : Sample) (fs : List ℕ) → length (ticks_counted p fs) ≡ length fs
unfolding ticks_counted
ticks_long (Some t) fs = raised_long (buckets_at + bucket_of t) 1 (greatest_kept t (least_kept t fs)) ∙ ends_long t fs
ticks_long None fs = refl

-- the least and the greatest are figures of their own
pub least_other : (t : ℕ) (fs : List ℕ) (i : ℕ) → (i ≡ least_at → ⊥) → get_or (least_kept t fs) i 0 ≡ get_or fs i 0
unfolding least_kept
least_other t fs i d = get_or-set_other fs least_at i _ 0 d

pub greatest_other : (t : ℕ) (fs : List ℕ) (i : ℕ) → (i ≡ greatest_at → ⊥) → get_or (greatest_kept t fs) i 0 ≡ get_or fs i 0
unfolding greatest_kept
greatest_other t fs i d = get_or-set_other fs greatest_at i _ 0 d

ticks_kept : (t : ℕ) (fs : List ℕ) (i : ℕ) → (i ≡ least_at → ⊥) → (i ≡ greatest_at → ⊥)
    → get_or (greatest_kept t (least_kept t fs)) i 0 ≡ get_or fs i 0
ticks_kept t fs i l g = greatest_other t (least_kept t fs) i g ∙ least_other t fs i l

ticks_other : (p : Sample) (fs : List ℕ) (i : ℕ) → i < least_at → get_or (ticks_counted p fs) i 0 ≡ get_or fs i 0
unfolding ticks_counted
ticks_other (Some t) fs i h =
    raised_other _ 1 _ i (λ e. let no : ⊥ = omega arith in no)
    ∙ ticks_kept t fs i (λ e. let no : ⊥ = omega arith in no) (λ e. let no : ⊥ = omega arith in no)
ticks_other None fs i h = refl

pub kind_other : (q : Sampling) (fs : List ℕ) (i : ℕ) → (i ≡ kinds_at + kind_of q → ⊥) → get_or (kind_counted q fs) i 0 ≡ get_or fs i 0
unfolding kind_counted
kind_other q fs i d = raised_other (kinds_at + kind_of q) 1 fs i d

pub kind_long : (q : Sampling) (fs : List ℕ) → length (kind_counted q fs) ≡ length fs
unfolding kind_counted
kind_long q fs = raised_long (kinds_at + kind_of q) 1 fs

pub sample_long : (s : Shown) (fs : List ℕ) → length (sample_counted s fs) ≡ length fs
unfolding sample_counted
sample_long Nothing fs = refl
sample_long State fs = refl
sample_long (Path ev) fs = refl
sample_long (Sampled q) fs = ticks_long (sample_in q) (kind_counted q fs) ∙ kind_long q fs

pub sample_other : (s : Shown) (fs : List ℕ) (i : ℕ) → i < answers → get_or (sample_counted s fs) i 0 ≡ get_or fs i 0
unfolding sample_counted
sample_other Nothing fs i h = refl
sample_other State fs i h = refl
sample_other (Path ev) fs i h = refl
sample_other (Sampled q) fs i h =
    ticks_other (sample_in q) (kind_counted q fs) i (omega arith) ∙ kind_other q fs i (λ e. let no : ⊥ = omega (arith, kind_some q) in no)

pub kind_at : (s : Shown) (fs : List ℕ) (k : ℕ) → 1 ≤ k → k ≤ 5 → length fs ≡ figure_count → get_or fs (kinds_at + k) 0 ≤ word_most
    → get_or (sample_counted s fs) (kinds_at + k) 0 ≡ added (get_or fs (kinds_at + k) 0) (one (kind_test k s))
unfolding sample_counted kind_test kind_counted
kind_at Nothing fs k a b l w = none_added w
kind_at State fs k a b l w = none_added w
kind_at (Path ev) fs k a b l w = none_added w
kind_at (Sampled q) fs k a b l w =
    ticks_other (sample_in q) (kind_counted q fs) (kinds_at + k) (omega arith)
    ∙ one_added (kinds_at + kind_of q) fs (kinds_at + k) (eqb (kind_of q) k)
    (λ e. let is : kind_of q ≡ k = eqb-true (kind_of q) k e in omega arith)
    (λ e d. eqb-false (kind_of q) k e (omega arith))
    (omega arith)
    w

ticks_at : (p : Sample) (fs : List ℕ) (k : ℕ) → k < buckets → length fs ≡ figure_count → get_or fs (buckets_at + k) 0 ≤ word_most
    → get_or (ticks_counted p fs) (buckets_at + k) 0 ≡ added (get_or fs (buckets_at + k) 0) (one (ticks_test k p))
unfolding ticks_counted ticks_test
ticks_at (Some t) fs k h l w =
    let gs = greatest_kept t (least_kept t fs) in
    let long : length gs ≡ length fs = ends_long t fs in
    let same : get_or gs (buckets_at + k) 0 ≡ get_or fs (buckets_at + k) 0
    = ticks_kept t fs (buckets_at + k) (λ e. let no : ⊥ = omega arith in no) (λ e. let no : ⊥ = omega arith in no) in
    one_added (buckets_at + bucket_of t) gs (buckets_at + k) (eqb (bucket_of t) k)
    (λ e. let is : bucket_of t ≡ k = eqb-true (bucket_of t) k e in omega arith)
    (λ e d. eqb-false (bucket_of t) k e (omega arith))
    (omega arith)
    (omega arith)
    ∙ ap (λ (a : ℕ). added a (one (eqb (bucket_of t) k))) same
ticks_at None fs k h l w = none_added w

pub bucket_at : (s : Shown) (fs : List ℕ) (k : ℕ) → k < buckets → length fs ≡ figure_count → get_or fs (buckets_at + k) 0 ≤ word_most
    → get_or (sample_counted s fs) (buckets_at + k) 0 ≡ added (get_or fs (buckets_at + k) 0) (one (ticks_test k (sample_shown s)))
unfolding sample_counted sample_shown ticks_test
bucket_at Nothing fs k h l w = none_added w
bucket_at State fs k h l w = none_added w
bucket_at (Path ev) fs k h l w = none_added w
bucket_at (Sampled q) fs k h l w =
    let same : get_or (kind_counted q fs) (buckets_at + k) 0 ≡ get_or fs (buckets_at + k) 0
    = kind_other q fs (buckets_at + k) (λ e. let no : ⊥ = omega (arith, kind_most q refl) in no) in
    ticks_at (sample_in q) (kind_counted q fs) k h (kind_long q fs ∙ l) (omega arith)
    ∙ ap (λ (a : ℕ). added a (one (ticks_test k (sample_in q)))) same

-- the least and the greatest
ticks_least : (p : Sample) (fs : List ℕ) → length fs ≡ figure_count → get_or (ticks_counted p fs) least_at 0 ≡ with_least p (get_or fs least_at 0)
unfolding ticks_counted with_least least_kept
ticks_least (Some t) fs l =
    raised_other (buckets_at + bucket_of t) 1 _ least_at (λ e. let no : ⊥ = omega arith in no)
    ∙ (greatest_other t (least_kept t fs) least_at (λ e. let no : ⊥ = omega (arith, e) in no) ∙ get_or-set_same fs least_at _ 0 (omega arith))
ticks_least None fs l = refl

pub least_at_lem : (s : Shown) (fs : List ℕ) → length fs ≡ figure_count
    → get_or (sample_counted s fs) least_at 0 ≡ with_least (sample_shown s) (get_or fs least_at 0)
unfolding sample_counted sample_shown with_least
least_at_lem Nothing fs l = refl
least_at_lem State fs l = refl
least_at_lem (Path ev) fs l = refl
least_at_lem (Sampled q) fs l =
    ticks_least (sample_in q) (kind_counted q fs) (kind_long q fs ∙ l)
    ∙ ap (with_least (sample_in q)) (kind_other q fs least_at (λ e. let no : ⊥ = omega (arith, kind_most q refl) in no))

ticks_greatest : (p : Sample) (fs : List ℕ) → length fs ≡ figure_count
    → get_or (ticks_counted p fs) greatest_at 0 ≡ with_greatest p (get_or fs greatest_at 0)
unfolding ticks_counted with_greatest greatest_kept
ticks_greatest (Some t) fs l =
    let long : greatest_at < length (least_kept t fs) = omega (arith, least_long t fs) in
    raised_other (buckets_at + bucket_of t) 1 _ greatest_at (λ e. let no : ⊥ = omega arith in no)
    ∙ (get_or-set_same (least_kept t fs) greatest_at _ 0 long
    ∙ ap (λ (m : ℕ). max m t) (least_other t fs greatest_at (λ e. let no : ⊥ = omega (arith, e) in no)))
ticks_greatest None fs l = refl

pub greatest_at_lem : (s : Shown) (fs : List ℕ) → length fs ≡ figure_count
    → get_or (sample_counted s fs) greatest_at 0 ≡ with_greatest (sample_shown s) (get_or fs greatest_at 0)
unfolding sample_counted sample_shown with_greatest
greatest_at_lem Nothing fs l = refl
greatest_at_lem State fs l = refl
greatest_at_lem (Path ev) fs l = refl
greatest_at_lem (Sampled q) fs l =
    ticks_greatest (sample_in q) (kind_counted q fs) (kind_long q fs ∙ l)
    ∙ ap (with_greatest (sample_in q)) (kind_other q fs greatest_at (λ e. let no : ⊥ = omega (arith, kind_most q refl) in no))

-- samples leave the bytes alone
ticks_late : (p : Sample) (fs : List ℕ) (i : ℕ) → new_at ≤ i → get_or (ticks_counted p fs) i 0 ≡ get_or fs i 0
unfolding ticks_counted
ticks_late (Some t) fs i h =
    raised_other (buckets_at + bucket_of t) 1 _ i (λ e. let no : ⊥ = omega (arith, bucket_most t) in no)
    ∙ ticks_kept t fs i (λ e. let no : ⊥ = omega arith in no) (λ e. let no : ⊥ = omega arith in no)
ticks_late None fs i h = refl

pub sample_late : (s : Shown) (fs : List ℕ) (i : ℕ) → new_at ≤ i → get_or (sample_counted s fs) i 0 ≡ get_or fs i 0
unfolding sample_counted
sample_late Nothing fs i h = refl
sample_late State fs i h = refl
sample_late (Path ev) fs i h = refl
sample_late (Sampled q) fs i h =
    ticks_late (sample_in q) (kind_counted q fs) i h ∙ kind_other q fs i (λ e. let no : ⊥ = omega (arith, kind_most q refl) in no)

-- ---- bytes

pub sent_late : (b : Bool) → new_at ≤ sent_at b
sent_late b = so_both (λ (at : ℕ). new_at ≤ at) b _ _ (λ _. omega arith) (λ _. omega arith)

-- bytes change no figure before theirs, and not how many there are
abbrev Late : ℕ → List ℕ → List ℕ → Type 0
Late i fs gs = (length gs ≡ length fs) × (i < new_at → get_or gs i 0 ≡ get_or fs i 0)

late_none : (i : ℕ) (fs : List ℕ) → Late i fs fs
late_none i fs = (refl, λ _. refl)

send_late : (number : ℕ) (a : Send) (i : ℕ) (fs : List ℕ) → Late i fs (send_counted number a fs)
unfolding send_counted
send_late number a i fs =
    eq_both (λ (l : List ℕ). Late i fs l) number 0 _ _
    (λ _. (
      raised_long (sent_at a.resend) a.size fs,
      λ h. raised_other (sent_at a.resend) a.size fs i
          (λ e. let no : ⊥ = omega (arith, sent_late a.resend) in no),
    ))
    (λ _. late_none i fs)

event_late : (number : ℕ) (e : Event) (i : ℕ) (fs : List ℕ) → Late i fs (event_counted number e fs)
unfolding event_counted
event_late number (event.NewData time k bytes) i fs = late_none i fs
event_late number (event.Send time k a) i fs = send_late number a i fs
event_late number (event.Ack time k a) i fs = late_none i fs
event_late number (event.Nack time k a) i fs = late_none i fs
event_late number (event.Loss time k a) i fs = late_none i fs
event_late number (event.Path time k) i fs = late_none i fs
event_late number (event.SetUp s) i fs = late_none i fs

pub bytes_late : (number : ℕ) (x : Found) (i : ℕ) (fs : List ℕ) → Late i fs (bytes_counted number x fs)
unfolding bytes_counted
bytes_late number (found.Whole e next) i fs = event_late number e i fs
bytes_late number found.End i fs = late_none i fs
bytes_late number found.Malformed i fs = late_none i fs

-- a figure of bytes that gets none
zero_added : {a n : ℕ} → a ≤ word_most → n ≡ 0 → a ≡ added a n
zero_added h e = omega arith

-- a send's bytes go to the figure of its kind
kind_sent : (resend again : Bool) (n : ℕ) (fs : List ℕ) → length fs ≡ figure_count → get_or fs (sent_at again) 0 ≤ word_most
    → get_or (raised (sent_at resend) n fs) (sent_at again) 0 ≡ added (get_or fs (sent_at again) 0) (if_so resend (if_so again n 0) (if_so again 0 n))
unfolding if_so
kind_sent true true n fs l w = raised_same 69 n fs 69 refl (omega arith)
kind_sent true false n fs l w = raised_other 69 n fs 68 (λ e. let no : ⊥ = omega (arith, e) in no) ∙ zero_added w refl
kind_sent false true n fs l w = raised_other 68 n fs 69 (λ e. let no : ⊥ = omega (arith, e) in no) ∙ zero_added w refl
kind_sent false false n fs l w = raised_same 68 n fs 68 refl (omega arith)

module _ (again : Bool) (number : ℕ) (fs : List ℕ) (l : length fs ≡ figure_count) (w : get_or fs (sent_at again) 0 ≤ word_most) where
  abbrev Sent : List ℕ → ℕ → Type 0
  Sent gs n = get_or gs (sent_at again) 0 ≡ added (get_or fs (sent_at again) 0) n

  none_sent : Sent fs (if_eq number 0 0 0)
  none_sent = zero_added w (eq_both (λ (n : ℕ). n ≡ 0) number 0 0 0 (λ _. refl) (λ _. refl))

  send_sent : (a : Send) → Sent (send_counted number a fs) (if_eq number 0 (send_bytes again a) 0)
  unfolding send_counted send_bytes
  send_sent a =
      eq_both (λ (gs : List ℕ). Sent gs (if_eq number 0 (send_bytes again a) 0)) number 0 _ fs
      (λ y. kind_sent a.resend again a.size fs l w ∙ ap (added (get_or fs (sent_at again) 0)) (eq_yes number 0 _ _ 0 y refl))
      (λ n. zero_added w (sym (eq_no number 0 0 (send_bytes again a) 0 n refl)))

  event_sent : (e : Event) → Sent (event_counted number e fs) (if_eq number 0 (event_bytes again e) 0)
  unfolding event_counted event_bytes
  event_sent (event.NewData time k bytes) = none_sent
  event_sent (event.Send time k a) = send_sent a
  event_sent (event.Ack time k a) = none_sent
  event_sent (event.Nack time k a) = none_sent
  event_sent (event.Loss time k a) = none_sent
  event_sent (event.Path time k) = none_sent
  event_sent (event.SetUp s) = none_sent

  pub bytes_sent_lem : (x : Found) → Sent (bytes_counted number x fs) (record_bytes again number x)
  unfolding bytes_counted record_bytes
  bytes_sent_lem (found.Whole e next) = event_sent e
  bytes_sent_lem found.End = zero_added w refl
  bytes_sent_lem found.Malformed = zero_added w refl
