-- REQUEST M-105, "bucket k holds those whose highest set bit is k": of any sample that a turn shows, which is from 1 to 2^20
-- (`highest_bit`). Assumes nothing.
use mathlib.Core.Path.{◌≡◌, refl, ap}
use mathlib.Core.Bool.{Bool}
use mathlib.Core.List.{[]}
use mathlib.Core.Option.{Option, none, some}
use Prim.Native.Nat.{ℕ, zero, suc, ◌-◌, ◌/◌, ◌^◌, ◌≤◌, ◌<◌}
use native.Mathlib.Nat.{pow-suc}
use native.Mathlib.Omega.{arith}
use Rattle.rules.specs.Branch.{so_both, lt_both, eq_both}
use Rattle.window.specs.Delays.{sampling_of, sample_in, Sampled}
use Rattle.std.specs.Prelude.{Some, None}
use Rattle.window.specs.declared.Sampling.{Sampling}
use Rattle.window.proofs.Tests.{sample_bounds, same_sample}
use Rattle.sender.specs.World.{World, view_of}
use Rattle.sender.specs.Steps.{ack_sampling, nack_sampling}
use Rattle.sender.specs.Events.{says}
use Rattle.sender.specs.declared.Ack.{Ack}
use Rattle.sender.specs.declared.Nack.{Nack}
use Rattle.context.specs.Context.{Context, world_at}
use Rattle.replay.specs.Answers.{Telling, shown_says, shown_path, shown_first, on_first, on_later, on_event}
use Rattle.replay.specs.Places.{Feed, end_of, Turning, turn_of, turns_in, turns_of}
use Rattle.replay.specs.declared.Place.{Place}
use Rattle.replay.specs.declared.Shown.{Shown}
use Rattle.replay.specs.declared.Shown.TheVariants.{Nothing, State, Path, Sample as Showing}
use Rattle.replay.specs.declared.records.Event.{Event}
use Rattle.replay.specs.declared.records.Event.TheVariants as event
use Rattle.replay.proofs.Progress.{turn_cases}
use Rattle.report_text.specs.Places.{buckets}
use Rattle.replay_report.specs.Figures.{halvings, bucket_of}
use Rattle.replay_report.specs.Statements.{sample_shown, Positive}

-- ---- halving ends at the highest set bit

abbrev Bit : ℕ → ℕ → Type 0
Bit n k = (2 ^ k ≤ n) × (n < 2 ^ suc k)

halvings_bit : (most n : ℕ) → 1 ≤ n → n < 2 ^ suc most → Bit n (halvings most n)
unfolding halvings
halvings_bit zero n low high = (low, high)
halvings_bit (suc most) n low high =
    lt_both (Bit n) n 2 _ _
    (λ h. (low, h))
    (λ h.
    let half = halvings_bit most (n / 2) (omega arith) (omega (arith, pow-suc 2 (suc most))) in
    let k = halvings most (n / 2) in
    (omega (arith, half.0, pow-suc 2 k), omega (arith, half.1, pow-suc 2 (suc k))))

bucket_bit : (ticks : ℕ) → 1 ≤ ticks → ticks < 2 ^ buckets → Bit ticks (bucket_of ticks)
unfolding bucket_of
bucket_bit ticks low high = halvings_bit 31 ticks low high

-- ---- a sample that a turn shows is from 1 to 2^20

abbrev Held : Shown → Type 0
Held s = (q : Sampling) → s ≡ Showing q → Sampled (sample_in q)

-- a line that shows no sample
abbrev bare : Shown → ℕ
bare Nothing = 0
bare State = 0
bare (Path ev) = 0
bare (Showing q) = 1

not_shown : {s : Shown} → bare s ≡ 0 → Held s
not_shown {s} b q e = absurd (let no : ⊥ = omega (arith, b, ap bare e) in no)

not_absent : {ticks : ℕ} → None ≡ Some ticks → ⊥
not_absent e = let z : ◌≡◌ {A = ℕ} 0 1 = cc in omega arith

held_says : (n : ℕ) (q : Sampling) → Sampled (sample_in q) → Held (shown_says (says n q))
unfolding says shown_says
held_says n q h =
    eq_both (λ (o : Option Sampling). Held (shown_says o)) n 0 (some q) none
    (λ _ r e. let same : q ≡ r = cc in rw same at h)
    (λ _. not_shown refl)

held_path : (n ev : ℕ) → Held (shown_path n ev)
unfolding shown_path
held_path n ev = eq_both Held n 0 (Path ev) State (λ _. not_shown refl) (λ _. not_shown refl)

held_first : (n : ℕ) → Held (shown_first n)
unfolding shown_first
held_first n = eq_both Held n 0 State Nothing (λ _. not_shown refl) (λ _. not_shown refl)

held_sampling : (out : Bool) (resent : ℕ) (retx : Bool) (time sent service : ℕ)
    → Sampled (sample_in (sampling_of out resent retx time sent service))
held_sampling out resent retx time sent service = rw (same_sample out resent retx time sent service)
    (sample_bounds out resent retx time sent service)

held_ack : (time : ℕ) (a : Ack) (w : World) → Sampled (sample_in (ack_sampling time a (view_of w)))
unfolding ack_sampling
held_ack time a w = held_sampling _ _ _ _ _ _

held_nack : (time : ℕ) (a : Nack) (w : World) → Sampled (sample_in (nack_sampling time a (view_of w)))
unfolding nack_sampling
held_nack time a w = held_sampling _ _ _ _ _ _

on_first_lem : (e : Event) (w : Context) → Held (on_first e w).shown
unfolding on_first
on_first_lem (event.NewData time k bytes) w = not_shown refl
on_first_lem (event.Send time k a) w = not_shown refl
on_first_lem (event.Ack time k a) w = not_shown refl
on_first_lem (event.Nack time k a) w = not_shown refl
on_first_lem (event.Loss time k a) w = not_shown refl
on_first_lem (event.Path time k) w = not_shown refl
on_first_lem (event.SetUp s) w = held_first _

on_later_lem : (e : Event) (w : Context) → Held (on_later e w).shown
unfolding on_later
on_later_lem (event.NewData time k bytes) w = not_shown refl
on_later_lem (event.Send time k a) w = not_shown refl
on_later_lem (event.Ack time k a) w = held_says _ (ack_sampling time a (view_of (world_at k w))) (held_ack time a (world_at k w))
on_later_lem (event.Nack time k a) w = held_says _ (nack_sampling time a (view_of (world_at k w))) (held_nack time a (world_at k w))
on_later_lem (event.Loss time k a) w = not_shown refl
on_later_lem (event.Path time k) w = held_path _ _
on_later_lem (event.SetUp s) w = not_shown refl

on_event_lem : (done : ℕ) (e : Event) (w : Context) → Held (on_event done e w).shown
unfolding on_event
on_event_lem done e w = eq_both (λ (t : Telling). Held t.shown) done 0 _ _ (λ _. on_first_lem e w) (λ _. on_later_lem e w)

turn_held : (f : Feed) (p : Place) (w : Context) → Held (turn_of f p w).shown
turn_held f p w =
    turn_cases f p w (λ (t : Turning). Held t.shown) (not_shown refl) (λ e next _ _. on_event_lem p.done e w) (λ _ _. not_shown refl)

positive : (s : Shown) → Held s → (ticks : ℕ) → sample_shown s ≡ Some ticks → 1 ≤ ticks
unfolding sample_shown
positive Nothing h ticks e = absurd (not_absent e)
positive State h ticks e = absurd (not_absent e)
positive (Path ev) h ticks e = absurd (not_absent e)
positive (Showing q) h ticks e = (h q refl).low ticks e

turns_held : (k : ℕ) (f : Feed) (p : Place) (w : Context) → Positive (turns_in k f p w)
unfolding turns_in
turns_held zero f p w = tt
turns_held (suc k) f p w =
    let t = turn_of f p w in
    so_both Positive t.ended [] _ (λ _. tt) (λ _. (positive t.shown (turn_held f p w), turns_held k f t.place t.after))

pub turns_positive : (f : Feed) (p : Place) (w : Context) → Positive (turns_of f p w)
unfolding turns_of
turns_positive f p w = turns_held (end_of f - p.at) f p w

-- A SAMPLE'S BUCKET IS ITS HIGHEST SET BIT, whatever is replayed
pub highest_bit : (f : Feed) (p : Place) (w : Context) (q : Sampling) (ticks : ℕ) → (turn_of f p w).shown ≡ Showing q
    → sample_in q ≡ Some ticks → (2 ^ bucket_of ticks ≤ ticks) × (ticks < 2 ^ suc (bucket_of ticks))
highest_bit f p w q ticks shows is =
    let held = turn_held f p w q shows in
    bucket_bit ticks (held.low ticks is) (omega (arith, held.high ticks is))
