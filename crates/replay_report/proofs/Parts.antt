-- REQUEST M-105 over a log in parts: a call for each part, with the same figures, leaves what one call over the joined bytes leaves
-- (`parts_tallied`). Assumes nothing.
use mathlib.Core.Path.{◌≡◌, refl, sym, ap, ◌∙◌}
use mathlib.Core.Bool.{Bool, false}
use mathlib.Core.List.{List, [], ◌∷◌, ◌++◌}
use Prim.Native.Nat.{ℕ, zero, suc, ◌+◌, ◌-◌, ◌≤◌}
use lib.ListN.{length, take, drop}
use lib.Seq.{take_all}
use native.Mathlib.Omega.{arith}
use Rattle.rules.specs.Branch.{so_both}
use Rattle.context.specs.Context.{Context}
use Rattle.replay.specs.Places.{Feed, feed, found_at, end_of, Turning, over, on_found, turn_of, turns_in, turns_of, last_place, last_context}
use Rattle.replay.specs.declared.Place.{Place}
use Rattle.replay.specs.declared.Source.TheVariants.{Part}
use Rattle.replay.specs.declared.turns.Found.{Found}
use Rattle.replay.specs.declared.turns.Found.TheVariants as found
use Rattle.replay.proofs.Parts.{Kept, turn_forward, last_forward, part_kept, dropped, turns_stay, turns_dropped}
use Rattle.replay_report.specs.Figures.{counted}
use Rattle.replay_report.specs.Tallies.{counting, Tallying, led, tally_turns_of}

-- turns and further ones
led_append : (f : Feed) (p : Place) (w : Context) (ts us : List Turning) (fs : List ℕ)
    → led f p w (ts ++ us) fs ≡ led f (last_place p ts) (last_context w ts) us (counting f p ts fs)
unfolding last_place last_context counting
led_append f p w [] us fs = refl
led_append f p w (t ∷ ts) us fs = led_append f t.place t.after ts us (counted (found_at f p.at) t.number t.shown fs)

-- a turn counts the same by what stands there in another feed
counted_as : (f g : Feed) (p : Place) (t : Turning) (ts : List Turning) (fs : List ℕ) → found_at f p.at ≡ found_at g p.at
    → ((gs : List ℕ) → counting f t.place ts gs ≡ counting g t.place ts gs) → counting f p (t ∷ ts) fs ≡ counting g p (t ∷ ts) fs
unfolding counting
counted_as f g p t ts fs e later =
    later (counted (found_at f p.at) t.number t.shown fs)
    ∙ ap (λ (x : Found). counting g t.place ts (counted x t.number t.shown fs)) e

-- ---- what is there of a log stays when more bytes come

module _ (f g : Feed) (kept : (at : ℕ) → Kept (found_at f at) (found_at g at)) where
  kept_found : (p : Place) (w : Context) (x : Found) → found_at f p.at ≡ x → Kept x (found_at g p.at) → (on_found p w x).ended ≡ false
      → found_at f p.at ≡ found_at g p.at
  unfolding on_found
  kept_found p w (found.Whole e next) q k go = q ∙ sym k
  kept_found p w found.End q k go = absurd (let z : ◌≡◌ {A = ℕ} 0 1 = cc in let no : ⊥ = omega arith in no)
  kept_found p w found.Malformed q k go = q ∙ sym k

  kept_stands : (p : Place) (w : Context) → (turn_of f p w).ended ≡ false → found_at f p.at ≡ found_at g p.at
  unfolding turn_of
  kept_stands p w =
      so_both (λ (t : Turning). t.ended ≡ false → found_at f p.at ≡ found_at g p.at) p.stopped (over p w) _
      (λ s go. absurd (let z : ◌≡◌ {A = ℕ} 0 1 = cc in let no : ⊥ = omega arith in no))
      (λ s go. kept_found p w (found_at f p.at) refl (kept p.at) go)

  kept_counting : (k : ℕ) (p : Place) (w : Context) (fs : List ℕ) → counting f p (turns_in k f p w) fs ≡ counting g p (turns_in k f p w) fs
  unfolding turns_in counting
  kept_counting zero p w fs = refl
  kept_counting (suc k) p w fs =
      let t = turn_of f p w in
      so_both (λ (ts : List Turning). counting f p ts fs ≡ counting g p ts fs) t.ended [] _ (λ _. refl)
      (λ go. counted_as f g p t (turns_in k f t.place t.after) fs (kept_stands p w go) (kept_counting k t.place t.after))

-- ---- where the same stands from an offset on

module _ (f g : Feed) (from : ℕ) (same : (at : ℕ) → from ≤ at → found_at f at ≡ found_at g at) where
  same_counting : (k : ℕ) (p : Place) (w : Context) (fs : List ℕ) → from ≤ p.at
      → counting f p (turns_in k f p w) fs ≡ counting g p (turns_in k f p w) fs
  unfolding turns_in counting
  same_counting zero p w fs h = refl
  same_counting (suc k) p w fs h =
      let t = turn_of f p w in
      so_both (λ (ts : List Turning). counting f p ts fs ≡ counting g p ts fs) t.ended [] _ (λ _. refl)
      (λ go.
      counted_as f g p t (turns_in k f t.place t.after) fs (same p.at h)
      (λ gs. same_counting k t.place t.after gs (omega (arith, turn_forward f p w))))

-- ---- two parts

-- the place does not go back
last_later : (f : Feed) (p : Place) (w : Context) → p.at ≤ (last_place p (turns_of f p w)).at
last_later f p w =
    let ts = turns_of f p w in
    let all : take (length ts) ts ≡ ts = take_all (length ts) ts (omega arith) in
    rw all at (last_forward f (length ts) p w)

module _ (base : ℕ) (closed : Bool) (part more : List ℕ) (p : Place) (w : Context) (fs : List ℕ) (from : base ≤ p.at) where
  abbrev first : Tallying
  first = tally_turns_of (feed (Part base false) part) p w fs

  -- the joined bytes from the offset on that the first call leaves
  abbrev left : List ℕ
  left = drop (first.place.at - base) (part ++ more)

  -- A REPORT IN PARTS IS THE REPORT: a call over the bytes that are there, then one over the rest with the figures that it leaves
  pub parts_tallied : tally_turns_of (feed (Part base closed) (part ++ more)) p w fs
      ≡ tally_turns_of (feed (Part first.place.at closed) left) first.place first.after first.figures
  unfolding tally_turns_of turns_of
  parts_tallied =
      let f = feed (Part base false) part in
      let g = feed (Part base closed) (part ++ more) in
      let ts = turns_of f p w in
      let q = last_place p ts in
      let v = last_context w ts in
      let n = q.at - base in
      let far : base + n ≡ q.at = omega (arith, last_later f p w) in
      let h = feed (Part (base + n) closed) (drop n (part ++ more)) in
      let us = turns_of g q v in
      let gs = counting f p ts fs in
      ap (λ (xs : List Turning). led g p w xs fs) (turns_stay base closed part more p w)
      ∙ (led_append g p w ts us fs
      ∙ (ap (led g q v us) (sym (kept_counting f g (part_kept base closed part more) (end_of f - p.at) p w fs))
      ∙ (ap (λ (xs : List ℕ). record { number = 0; place = last_place q us; after = last_context v us; figures = xs })
      (same_counting g h (base + n) (dropped base closed (part ++ more) n) (end_of g - q.at) q v gs (omega arith))
      ∙ (ap (λ (xs : List Turning). led h q v xs gs) (turns_dropped base closed (part ++ more) n q v (omega arith))
      ∙ ap (λ (b : ℕ). tally_turns_of (feed (Part b closed) (drop n (part ++ more))) q v gs) far))))
