-- REQUEST M-105, "Every figure has a definition over the log and the controller's answers": a figure that counts is the exact count of its
-- turns, added to what was there, up to the greatest word (`figure_counts`), and so are the bytes (`bytes_count`); the greatest and the
-- least are those of the samples (`greatest_is`, `least_is`). Assumes nothing.
use mathlib.Core.Path.{◌≡◌, refl, sym, ap, ◌∙◌}
use mathlib.Core.Bool.{Bool, true, false}
use mathlib.Core.List.{List, [], ◌∷◌}
use Prim.Native.Nat.{ℕ, ◌+◌, ◌≤◌, min, max}
use lib.Dec.{eqb}
use lib.ListN.{length, get_or}
use borrow.Author.Tests.{eqb-true, eqb-false}
use native.Mathlib.Omega.{arith}
use Rattle.rules.specs.Branch.{eq_yes, eq_no}
use Rattle.window.specs.Sample.{Sample}
use Rattle.std.specs.Prelude.{Some, None}
use Rattle.replay.specs.Places.{Feed, found_at, Turning}
use Rattle.replay.specs.declared.Place.{Place}
use Rattle.replay.specs.declared.Shown.{Shown}
use Rattle.replay.specs.declared.turns.Found.{Found}
use Rattle.report_text.specs.Places.{kinds_at, least_at, greatest_at, buckets_at, figure_count}
use Rattle.replay_report.specs.Figures.{word_most, added, lesser, answer_counted, sample_counted, sent_at, counted}
use Rattle.replay_report.specs.Tallies.{counting}
use Rattle.replay_report.specs.Statements.{
  one,
  how_many,
  kind_test,
  sample_shown,
  ticks_test,
  Counts,
  answer,
  kind,
  bucket,
  with_least,
  least_of,
  least_of_both,
  Positive,
  with_greatest,
  greatest_of,
  record_bytes,
  bytes_sent,
}
use Rattle.replay_report.proofs.Layers.{
  answer_long,
  answer_other,
  answer_at,
  sample_long,
  sample_other,
  sample_late,
  kind_at,
  bucket_at,
  least_at_lem,
  greatest_at_lem,
  bytes_late,
  sent_late,
  bytes_sent_lem,
}

-- ---- figures that count

pub counted_long : (x : Found) (number : ℕ) (shown : Shown) (fs : List ℕ) → length (counted x number shown fs) ≡ length fs
unfolding counted
counted_long x number shown fs = (bytes_late number x 0 _).0 ∙ (sample_long shown _ ∙ answer_long number fs)

turn_counts : {i : ℕ} {test : Turning → Bool} → Counts i test → (x : Found) (t : Turning) (fs : List ℕ) → length fs ≡ figure_count
    → get_or fs i 0 ≤ word_most
    → get_or (counted x t.number t.shown fs) i 0 ≡ added (get_or fs i 0) (one (test t))
unfolding counted
turn_counts (answer n h) x t fs l w =
    (bytes_late t.number x n _).1 (omega arith)
    ∙ (sample_other t.shown _ n h ∙ answer_at t.number fs n h (omega arith) w)
turn_counts (kind k a b) x t fs l w =
    let gs = answer_counted t.number fs in
    let same : get_or gs (kinds_at + k) 0 ≡ get_or fs (kinds_at + k) 0 = answer_other t.number fs (kinds_at + k) (omega arith) in
    (bytes_late t.number x (kinds_at + k) _).1 (omega arith)
    ∙ (kind_at t.shown gs k a b (answer_long t.number fs ∙ l) (omega arith)
    ∙ ap (λ (m : ℕ). added m (one (kind_test k t.shown))) same)
turn_counts (bucket k h) x t fs l w =
    let gs = answer_counted t.number fs in
    let same : get_or gs (buckets_at + k) 0 ≡ get_or fs (buckets_at + k) 0 = answer_other t.number fs (buckets_at + k) (omega arith) in
    (bytes_late t.number x (buckets_at + k) _).1 (omega arith)
    ∙ (bucket_at t.shown gs k h (answer_long t.number fs ∙ l) (omega arith)
    ∙ ap (λ (m : ℕ). added m (one (ticks_test k (sample_shown t.shown)))) same)

added_more : (a b c : ℕ) → added (added a b) c ≡ added a (b + c)
added_more a b c = omega arith

-- THE FIGURES ARE EXACT COUNTS: each that counts is what it was, and as many more as there are turns that its test holds of
pub figure_counts : {i : ℕ} {test : Turning → Bool} → Counts i test → (f : Feed) (p : Place) (ts : List Turning) (fs : List ℕ)
    → length fs ≡ figure_count → get_or fs i 0 ≤ word_most → get_or (counting f p ts fs) i 0 ≡ added (get_or fs i 0) (how_many test ts)
unfolding counting how_many
figure_counts c f p [] fs l w = omega arith
figure_counts {i} {test} c f p (t ∷ ts) fs l w =
    let x = found_at f p.at in
    let here : get_or (counted x t.number t.shown fs) i 0 ≡ added (get_or fs i 0) (one (test t)) = turn_counts c x t fs l w in
    figure_counts c f t.place ts (counted x t.number t.shown fs) (counted_long x t.number t.shown fs ∙ l) (omega arith)
    ∙ (ap (λ (m : ℕ). added m (how_many test ts)) here ∙ added_more (get_or fs i 0) (one (test t)) (how_many test ts))

-- ---- bytes

turn_bytes : (again : Bool) (x : Found) (t : Turning) (fs : List ℕ) → length fs ≡ figure_count → get_or fs (sent_at again) 0 ≤ word_most
    → get_or (counted x t.number t.shown fs) (sent_at again) 0 ≡ added (get_or fs (sent_at again) 0) (record_bytes again t.number x)
unfolding counted
turn_bytes again x t fs l w =
    let i = sent_at again in
    let late = sent_late again in
    let gs = answer_counted t.number fs in
    let hs = sample_counted t.shown gs in
    let same : get_or hs i 0 ≡ get_or fs i 0 = sample_late t.shown gs i late ∙ answer_other t.number fs i (omega arith) in
    bytes_sent_lem again t.number hs (sample_long t.shown gs ∙ (answer_long t.number fs ∙ l)) (omega arith) x
    ∙ ap (λ (m : ℕ). added m (record_bytes again t.number x)) same

-- THE BYTES ARE EXACT SUMS, up to the greatest word: those of the sends that were accepted, new or again
pub bytes_count : (again : Bool) (f : Feed) (p : Place) (ts : List Turning) (fs : List ℕ) → length fs ≡ figure_count
    → get_or fs (sent_at again) 0 ≤ word_most
    → get_or (counting f p ts fs) (sent_at again) 0 ≡ added (get_or fs (sent_at again) 0) (bytes_sent again f p ts)
unfolding counting bytes_sent
bytes_count again f p [] fs l w = omega arith
bytes_count again f p (t ∷ ts) fs l w =
    let i = sent_at again in
    let x = found_at f p.at in
    let here : get_or (counted x t.number t.shown fs) i 0 ≡ added (get_or fs i 0) (record_bytes again t.number x) =
    turn_bytes again x t fs l w in
    bytes_count again f t.place ts (counted x t.number t.shown fs) (counted_long x t.number t.shown fs ∙ l) (omega arith)
    ∙ (ap (λ (m : ℕ). added m (bytes_sent again f t.place ts)) here
    ∙ added_more (get_or fs i 0) (record_bytes again t.number x) (bytes_sent again f t.place ts))

-- ---- the greatest and the least

greatest_on : (q : Sample) (a b : ℕ) → max (with_greatest q a) b ≡ max a (with_greatest q b)
unfolding with_greatest
greatest_on (Some t) a b = omega arith
greatest_on None a b = refl

turn_greatest : (x : Found) (t : Turning) (fs : List ℕ) → length fs ≡ figure_count
    → get_or (counted x t.number t.shown fs) greatest_at 0 ≡ with_greatest (sample_shown t.shown) (get_or fs greatest_at 0)
unfolding counted
turn_greatest x t fs l =
    (bytes_late t.number x greatest_at _).1 (omega arith)
    ∙ (greatest_at_lem t.shown _ (answer_long t.number fs ∙ l)
    ∙ ap (with_greatest (sample_shown t.shown)) (answer_other t.number fs greatest_at (omega arith)))

-- THE GREATEST: of what was there and of the turns' samples
pub greatest_is : (f : Feed) (p : Place) (ts : List Turning) (fs : List ℕ) → length fs ≡ figure_count
    → get_or (counting f p ts fs) greatest_at 0 ≡ max (get_or fs greatest_at 0) (greatest_of ts)
unfolding counting greatest_of
greatest_is f p [] fs l = omega arith
greatest_is f p (t ∷ ts) fs l =
    let x = found_at f p.at in
    greatest_is f t.place ts (counted x t.number t.shown fs) (counted_long x t.number t.shown fs ∙ l)
    ∙ (ap (λ (m : ℕ). max m (greatest_of ts)) (turn_greatest x t fs l)
    ∙ greatest_on (sample_shown t.shown) (get_or fs greatest_at 0) (greatest_of ts))

turn_least : (x : Found) (t : Turning) (fs : List ℕ) → length fs ≡ figure_count
    → get_or (counted x t.number t.shown fs) least_at 0 ≡ with_least (sample_shown t.shown) (get_or fs least_at 0)
unfolding counted
turn_least x t fs l =
    (bytes_late t.number x least_at _).1 (omega arith)
    ∙ (least_at_lem t.shown _ (answer_long t.number fs ∙ l) ∙ ap (with_least (sample_shown t.shown))
    (answer_other t.number fs least_at (omega arith)))

-- the lesser of two, of which 0 is none
lesser_none : (a t : ℕ) → a ≡ 0 → lesser a t ≡ t
unfolding lesser
lesser_none a t e = sym (eq_yes a 0 t t _ e refl)

lesser_some : (a t : ℕ) → (a ≡ 0 → ⊥) → lesser a t ≡ min a t
unfolding lesser
lesser_some a t n = sym (eq_no a 0 (min a t) t _ n refl)

both_first : (a b : ℕ) → b ≡ 0 → least_of_both a b ≡ a
unfolding least_of_both
both_first a b e = sym (eq_yes b 0 a a _ e refl)

both_lesser : (a b : ℕ) → (b ≡ 0 → ⊥) → least_of_both a b ≡ lesser a b
unfolding least_of_both
both_lesser a b n = sym (eq_no b 0 (lesser a b) a _ n refl)

-- in which order samples come does not matter, since none is 0
least_order : (t a b : ℕ) → 1 ≤ t → least_of_both (lesser a t) b ≡ least_of_both a (lesser b t)
least_order t a b h = by (eqb a 0) (eqb b 0) refl refl
  where
    by : (s u : Bool) → eqb a 0 ≡ s → eqb b 0 ≡ u → least_of_both (lesser a t) b ≡ least_of_both a (lesser b t)
    by true true e f =
        let x = lesser_none a t (eqb-true a 0 e) in
        let y = lesser_none b t (eqb-true b 0 f) in
        omega (
          arith,
          x,
          y,
          both_first (lesser a t) b (eqb-true b 0 f),
          both_lesser a (lesser b t)
              (λ z. let no : ⊥ = omega (arith, y, z) in no),
          lesser_none a (lesser b t) (eqb-true a 0 e),
        )
    by true false e f =
        let x = lesser_none a t (eqb-true a 0 e) in
        let y = lesser_some b t (eqb-false b 0 f) in
        omega (
          arith,
          x,
          y,
          both_lesser (lesser a t) b (eqb-false b 0 f),
          lesser_some (lesser a t) b (λ z. let no : ⊥ = omega (arith, x, z) in no),
          both_lesser a (lesser b t) (λ z. let no : ⊥ = omega (arith, y, z, eqb-false b 0 f) in no),
          lesser_none a (lesser b t) (eqb-true a 0 e),
        )
    by false true e f =
        let x = lesser_some a t (eqb-false a 0 e) in
        let y = lesser_none b t (eqb-true b 0 f) in
        omega (
          arith,
          x,
          y,
          both_first (lesser a t) b (eqb-true b 0 f),
          both_lesser a (lesser b t) (λ z. let no : ⊥ = omega (arith, y, z) in no),
          lesser_some a (lesser b t) (eqb-false a 0 e),
        )
    by false false e f =
        let x = lesser_some a t (eqb-false a 0 e) in
        let y = lesser_some b t (eqb-false b 0 f) in
        omega (
          arith,
          x,
          y,
          both_lesser (lesser a t) b (eqb-false b 0 f),
          lesser_some (lesser a t) b (λ z. let no : ⊥ = omega (arith, x, z, eqb-false a 0 e) in no),
          both_lesser a (lesser b t) (λ z. let no : ⊥ = omega (arith, y, z, eqb-false b 0 f) in no),
          lesser_some a (lesser b t) (eqb-false a 0 e),
        )

least_on : (q : Sample) (a b : ℕ) → ((t : ℕ) → q ≡ Some t → 1 ≤ t) → least_of_both (with_least q a) b ≡ least_of_both a (with_least q b)
unfolding with_least
least_on (Some t) a b h = least_order t a b (h t refl)
least_on None a b h = refl

-- THE LEAST: of what was there and of the turns' samples, of which none is 0
pub least_is : (f : Feed) (p : Place) (ts : List Turning) (fs : List ℕ) → Positive ts → length fs ≡ figure_count
    → get_or (counting f p ts fs) least_at 0 ≡ least_of_both (get_or fs least_at 0) (least_of ts)
unfolding counting least_of
least_is f p [] fs h l = sym (both_first (get_or fs least_at 0) 0 refl)
least_is f p (t ∷ ts) fs h l =
    let x = found_at f p.at in
    least_is f t.place ts (counted x t.number t.shown fs) h.1 (counted_long x t.number t.shown fs ∙ l)
    ∙ (ap (λ (m : ℕ). least_of_both m (least_of ts)) (turn_least x t fs l)
    ∙ least_on (sample_shown t.shown) (get_or fs least_at 0) (least_of ts) h.0)

-- from none, it is the least of the samples
pub least_fresh : (b : ℕ) → least_of_both 0 b ≡ b
least_fresh b = by (eqb b 0) refl
  where
    by : (u : Bool) → eqb b 0 ≡ u → least_of_both 0 b ≡ b
    by true f = omega (arith, both_first 0 b (eqb-true b 0 f), eqb-true b 0 f)
    by false f = both_lesser 0 b (eqb-false b 0 f) ∙ lesser_none 0 b refl
