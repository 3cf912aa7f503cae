-- The loop of a report: `Going` is its invariant, and the turns that are left are its measure; the test of
-- number 2 before it. Assumes nothing.
use mathlib.Core.Path.{◌≡◌, refl, sym, ap, ◌∙◌}
use mathlib.Core.Bool.{Bool, true, false, ◌&&◌, ◌||◌, not}
use mathlib.Core.List.{List, [], ◌∷◌}
use Prim.Native.Nat.{ℕ, ◌<◌}
use lib.Dec.{eqb}
use lib.ListN.{length}
use borrow.Author.Tests.{eqb-true, not-true, not-false}
use native.Mathlib.Omega.{arith}
use Rattle.rules.specs.Branch.{so_yes, so_no}
use Rattle.rules.specs.Test.{both}
use Rattle.context.specs.Context.{Context}
use Rattle.replay.specs.Places.{Feed, found_at, sound_place, Turning, over, turn_of, turns_of, last_place, last_context}
use Rattle.replay.specs.declared.Place.{Place}
use Rattle.replay.specs.declared.turns.Found.{Found}
use Rattle.replay.proofs.Progress.{turn_sound_place, turns_none, turns_more}
use Rattle.replay.proofs.Looping.{ended_same}
use Rattle.report_text.specs.Places.{figure_count}
use Rattle.replay_report.specs.Figures.{counted}
use Rattle.replay_report.specs.Tallies.{counting, Tallying, led, tally_turns_of, tally_of}

-- number 2 does not apply, and what is left takes the figures to the whole
pub record Going (f : Feed) (p₀ : Place) (w₀ : Context) (figures₀ : List ℕ) (p : Place) (w : Context) (figures : List ℕ) : Type 0 where
  pub good : sound_place p w ≡ true
  pub long : length figures ≡ figure_count
  pub is : tally_turns_of f p w figures ≡ tally_turns_of f p₀ w₀ figures₀

pub going_none : (f : Feed) (p : Place) (w : Context) (figures : List ℕ) → sound_place p w ≡ true → length figures ≡ figure_count
    → Going f p w figures p w figures
going_none f p w figures h l = record { good = h; long = l; is = refl }

-- where there are no turns nothing is counted
led_none : (f : Feed) (p : Place) (w : Context) (figures : List ℕ)
    → led f p w [] figures ≡ record { number = 0; place = p; after = w; figures = figures }
unfolding last_place last_context counting
led_none f p w figures = refl

-- one turn is counted, and the rest after it
led_more : (f : Feed) (p : Place) (w : Context) (figures : List ℕ) (t : Turning) (ts : List Turning)
    → led f p w (t ∷ ts) figures ≡ led f t.place t.after ts (counted (found_at f p.at) t.number t.shown figures)
unfolding last_place last_context counting
led_more f p w figures t ts = refl

-- the turns are this one and those after it
rest_of : (f : Feed) (p : Place) (w : Context) (t : Turning) → t ≡ turn_of f p w → t.ended ≡ false
    → turns_of f p w ≡ t ∷ turns_of f t.place t.after
rest_of f p w t e d =
    let d' : (turn_of f p w).ended ≡ false = rw e at d in
    turns_more f p w d' ∙ ap (λ (x : Turning). x ∷ turns_of f x.place x.after) (sym e)

module _ {f : Feed} {p₀ : Place} {w₀ : Context} {figures₀ : List ℕ} {p : Place} {w : Context} {figures : List ℕ}
    (g : Going f p₀ w₀ figures₀ p w figures)
    (t : Turning) (e : t ≡ turn_of f p w) where
  pub going_ended : t.ended ≡ true → record { number = 0; place = t.place; after = t.after; figures = figures }
      ≡ tally_turns_of f p₀ w₀ figures₀
  unfolding tally_turns_of
  going_ended d =
      let d' : (turn_of f p w).ended ≡ true = rw e at d in
      let same : t ≡ over p w = e ∙ ended_same f p w d' in
      ap (λ (x : Turning). record { number = 0; place = x.place; after = x.after; figures = figures }) same
      ∙ (sym (ap (λ (ts : List Turning). led f p w ts figures) (turns_none f p w d') ∙ led_none f p w figures) ∙ g.is)

  pub going_more : t.ended ≡ false → (stands : Found) → stands ≡ found_at f p.at → (figures' : List ℕ)
      → figures' ≡ counted stands t.number t.shown figures → length figures' ≡ length figures
      → Going f p₀ w₀ figures₀ t.place t.after figures'
  unfolding tally_turns_of
  going_more d stands s figures' n l =
      let ts = turns_of f t.place t.after in
      let n' : figures' ≡ counted (found_at f p.at) t.number t.shown figures =
      n ∙ ap (λ (x : Found). counted x t.number t.shown figures) s in
      record {
        good = rw (sym e) at (turn_sound_place f p w g.good);
        long = l ∙ g.long;
        is =
            ap (led f t.place t.after ts) n'
            ∙ (sym (ap (λ (us : List Turning). led f p w us figures) (rest_of f p w t e d) ∙ led_more f p w figures t ts) ∙ g.is);
      }

  -- fewer turns are left
  pub going_less : t.ended ≡ false → length (turns_of f t.place t.after) < length (turns_of f p w)
  going_less d = omega (arith, ap length (rest_of f p w t e d))

-- ---- the test of number 2 before the loop

neither_not : (a b : Bool) → (not a || not b) ≡ not (a && b)
neither_not true b = refl
neither_not false b = refl

module _ (f : Feed) (p : Place) (w : Context) (figures : List ℕ) (r : Bool) (e : r ≡ sound_place p w) where
  abbrev pub failed : Bool
  failed = not (eqb (length figures) figure_count) || not r

  whole_is : {b : Bool} → failed ≡ b → not (eqb (length figures) figure_count && sound_place p w) ≡ b
  whole_is t = rw (← e) (sym (neither_not (eqb (length figures) figure_count) r) ∙ t)

  pub tally_tested : failed ≡ false → (sound_place p w ≡ true) × (length figures ≡ figure_count)
  tally_tested t =
      let h = both (eqb (length figures) figure_count) (sound_place p w) (not-false _ (whole_is t)) in
      (h.1, eqb-true (length figures) figure_count h.0)

  pub tally_refused : failed ≡ true → record { number = 2; place = p; after = w; figures = figures } ≡ tally_of f p w figures
  unfolding tally_of
  tally_refused t = so_no (eqb (length figures) figure_count && sound_place p w) _ (tally_turns_of f p w figures) _
      (not-true _ (whole_is t)) refl

  pub tally_made : failed ≡ false → (x : Tallying) → x ≡ tally_turns_of f p w figures → x ≡ tally_of f p w figures
  unfolding tally_of
  tally_made t x is = so_yes (eqb (length figures) figure_count && sound_place p w) x _ _ (not-false _ (whole_is t)) is
