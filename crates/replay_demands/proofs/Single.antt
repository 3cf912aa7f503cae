-- A log whose record 1 is not accepted settings has no turn, or one. Assumes nothing.
use mathlib.Core.Path.{◌≡◌, refl, sym, ap, ◌∙◌}
use mathlib.Core.Logic.{◌⊎◌, inl, inr, by_cases}
use mathlib.Core.Bool.{true}
use mathlib.Core.List.{List, [], ◌∷◌}
use Prim.Native.Nat.{ℕ, ◌≤◌}
use lib.ListN.{length}
use native.Mathlib.Decide.{ℕ_discrete}
use native.Mathlib.Omega.{arith}
use Rattle.rules.specs.Branch.{if_eq, eq_no, eq_both}
use Rattle.window.specs.declared.Settings.{Settings}
use Rattle.context.specs.Context.{Context}
use Rattle.context.specs.Start.{on_set_up}
use Rattle.log_records.specs.Parse.{parse_at}
use Rattle.log_records.specs.Logs.{Reading, read_from}
use Rattle.log_records.specs.Statements.{Run, ended, refused, onward}
use Rattle.log_records.specs.declared.record.Record.{Record}
use Rattle.log_records.specs.declared.parse.Parsed.TheVariants.{Whole}
use Rattle.log_records.proofs.Logs.{read_on_lem}
use Rattle.log_records.proofs.Runs.{every_log}
use Rattle.replay.specs.Answers.{malformed, shown_first, on_first}
use Rattle.replay.specs.Places.{logged, Turning, place_after, stops, turned, turn_of}
use Rattle.replay.specs.Records.{event_of}
use Rattle.replay.specs.declared.Place.{Place}
use Rattle.replay.specs.declared.Shown.TheVariants.{Nothing}
use Rattle.replay.specs.declared.records.Event.{Event as Logged}
use Rattle.replay.specs.declared.records.Event.TheVariants as event
use Rattle.replay_demands.specs.Histories.{start, turns, Opened}
use Rattle.replay_demands.specs.Recorded.{Unopened}
use Rattle.replay_demands.proofs.Replays.{end_turns, one_turn, stopped_turns, refused_turn, twelve_turns, first_turn}

-- one turn, which is refused and at which replay stops
abbrev Refused : List ℕ → Context → Type 0
Refused log lent = (t : Turning) × (turns log lent ≡ t ∷ []) × (t.number ≡ 0 → ⊥) × (t.place.stopped ≡ true)

no_bytes : (log : List ℕ) → length log ≤ 0 → log ≡ []
no_bytes [] h = refl
no_bytes (b ∷ log) h = absurd (let wrong : ⊥ = omega arith in wrong)

twelve_refused : (log : List ℕ) (lent : Context) (next : ℕ) → turn_of (logged log) start lent ≡ turned start next (malformed lent)
    → Refused log lent
unfolding place_after if_eq
twelve_refused log lent next e = (turned start next (malformed lent), twelve_turns log start next lent e, (λ z. omega arith), refl)

-- refused settings stop a replay whatever their number
stopped_first : (next number : ℕ) → (number ≡ 0 → ⊥) → (place_after start next number (shown_first number)).stopped ≡ true
unfolding place_after shown_first
stopped_first next number n =
    eq_both (λ (p : Place). p.stopped ≡ true) number 12 _ _ (λ _. refl) (λ _. ap stops (sym (eq_no number 0 Nothing _ _ n refl)))

module _ (log : List ℕ) (lent : Context) (next : ℕ) (r : Record) (reads : parse_at log 0 ≡ Whole r next)
    (none : (s : Settings) (behind : List Record) → Opened log lent s behind → ⊥) where
  by_first : (e : Logged) → event_of r ≡ e → Refused log lent
  unfolding on_first
  by_first (event.NewData time k bytes) is = twelve_refused log lent next (first_turn log next lent r _ reads is)
  by_first (event.Send time k a) is = twelve_refused log lent next (first_turn log next lent r _ reads is)
  by_first (event.Ack time k a) is = twelve_refused log lent next (first_turn log next lent r _ reads is)
  by_first (event.Nack time k a) is = twelve_refused log lent next (first_turn log next lent r _ reads is)
  by_first (event.Loss time k a) is = twelve_refused log lent next (first_turn log next lent r _ reads is)
  by_first (event.Path time k) is = twelve_refused log lent next (first_turn log next lent r _ reads is)
  by_first (event.SetUp s) is =
      let set = on_set_up s lent.flows lent.slots lent.times in
      let t : Turning = turned start next (on_first (event.SetUp s) lent) in
      by_cases (ℕ_discrete set.number 0)
      (λ z.
      let behind = (read_from log next).records in
      absurd (none s behind (record {
        first = r;
        reads = ap (λ (R : Reading). R.records) (read_on_lem log 0 (Whole r next) reads);
        settings = is;
        accepted = z;
      })))
      (λ z.
      let halts : t.place.stopped ≡ true = stopped_first next set.number z in (
        t,
        one_turn log 0 0 lent t (first_turn log next lent r _ reads is) refl
            ∙ ap (λ (ts : List Turning). t ∷ ts) (stopped_turns log t.place t.after halts),
        z,
        halts,
      ))

pub unopened : Unopened
unopened log lent none = by 0 refl (every_log log 0)
  where
    by : (at : ℕ) → at ≡ 0 → Run log at → ((log ≡ []) × (turns log lent ≡ [])) ⊎ Refused log lent
    by at z (ended past e) = inl (no_bytes log (omega arith), end_turns log 0 0 lent (rw z at e))
    by at z (refused i n) = inr (twelve_refused log lent 0 (refused_turn log 0 0 lent (rw z at n)))
    by at z (onward {next = next} {r = r} e a b on) = inr (by_first log lent next r (rw z at e) none (event_of r) refl)
