-- A log's replay is a history: each turn behind record 1 answers what the context answers to its record's event, and leaves what
-- the event leaves. By induction over the records that the log is read as.
-- Assumes nothing.
use mathlib.Core.Path.{◌≡◌, refl, sym, ap, ◌∙◌}
use mathlib.Core.Bool.{Bool, true, false, not, ◌&&◌, false≢true}
use mathlib.Core.List.{List, [], ◌∷◌, ◌++◌, map}
use mathlib.Core.Option.{Option, none, some}
use Prim.Native.Nat.{ℕ, ◌+◌}
use lib.Dec.{eqb}
use native.Mathlib.Omega.{arith}
use Rattle.rules.specs.Branch.{if_so, if_eq, so_yes, eq_no, eq_both}
use Rattle.rules.specs.Test.{both}
use Rattle.rules.specs.Rows.{Row}
use Rattle.window.specs.declared.Sampling.{Sampling}
use Rattle.window.specs.declared.Settings.{Settings}
use Rattle.context.specs.Context.{Context, Answered}
use Rattle.context.specs.Start.{on_set_up}
use Rattle.sender.specs.Statements.{First}
use Rattle.log_records.specs.Parse.{parse_at, parsed_number}
use Rattle.log_records.specs.Logs.{Reading, read_from, records_of, stop_of}
use Rattle.log_records.specs.Statements.{Run, ended, refused, onward}
use Rattle.log_records.specs.declared.record.Record.{Record}
use Rattle.log_records.specs.declared.parse.Parsed.{Parsed}
use Rattle.log_records.specs.declared.parse.Parsed.TheVariants.{Whole, End, Cut, Malformed}
use Rattle.log_records.proofs.Logs.{read_on_lem, read_end, read_twelve}
use Rattle.log_records.proofs.Runs.{every_log}
use Rattle.replay.specs.Answers.{malformed, shown_says, shown_path, shown_first, on_first, on_later, on_event}
use Rattle.replay.specs.Places.{logged, found_in, found_from, Turning, over, stops, place_after, turned, on_found, turn_of, turns_of}
use Rattle.replay.specs.Records.{event_of}
use Rattle.replay.specs.declared.Place.{Place}
use Rattle.replay.specs.declared.Shown.{Shown}
use Rattle.replay.specs.declared.Shown.TheVariants.{State, Path}
use Rattle.replay.specs.declared.records.Event.{Event as Logged}
use Rattle.replay.specs.declared.records.Event.TheVariants as event
use Rattle.replay.specs.declared.turns.Found.TheVariants as found
use Rattle.replay.proofs.Progress.{turns_none, turns_more}
use Rattle.demands.specs.Events.{Event, new_data, send, ack, nack, loss, path}
use Rattle.context_demands.specs.Events.{Flowed, rows_at, rows_of, answer, run}
use Rattle.context_demands.proofs.Theorems.{number_exact}
use Rattle.replay_demands.specs.Histories.{start, of, with_event, with_stop, events_of, stops_with, answer_of, answers, stop}
use Rattle.replay_demands.specs.Recorded.{Replayed}

-- ---- no event is answered 12, at which a replay stops

other : List Row → Bool
other [] = true
other (x ∷ xs) = not (eqb x.number 12) && other xs

not_here : (before : List Row) (here : Row) (after : List Row) → here.number ≡ 12 → other (before ++ (here ∷ after)) ≡ true → ⊥
unfolding other
not_here [] here after is e = let z : false ≡ true = rw is at e in false≢true z
not_here (x ∷ before) here after is e = not_here before here after is
    (both (not (eqb x.number 12)) (other (before ++ (here ∷ after))) e).1

rows_other : (k : ℕ) (e : Event) (w : Context) → other (rows_at k e w) ≡ true
unfolding other
rows_other k (new_data time bytes) w = refl
rows_other k (send time a) w = by a.resend refl
  where
    by : (again : Bool) → a.resend ≡ again → other (rows_at k (send time a) w) ≡ true
    by true q = rw q
    by false q = rw q
rows_other k (ack time a) w = refl
rows_other k (nack time a) w = refl
rows_other k (loss time a) w = refl
rows_other k (path time) w = refl

never_twelve : (e : Flowed) (w : Context) → (answer e w).number ≡ 12 → ⊥
never_twelve e w is =
    let F : First 12 (rows_of e w) = (number_exact e w).refused 12 (λ z. omega arith) is in
    not_here F.before F.here F.after F.number_is (rw F.order at (rows_other e.flow e.event w))

-- ---- one turn

-- a record behind record 1 as an event: its answer is the event's, and replay goes on
record Goes (e : Logged) (d : Flowed) (w : Context) : Type 0 where
  number : (on_later e w).number ≡ (answer d w).number
  after : (on_later e w).after ≡ (answer d w).after
  on : stops (on_later e w).shown ≡ false

says_on : (x : Option Sampling) → stops (shown_says x) ≡ false
unfolding shown_says
says_on none = refl
says_on (some sampling) = refl

path_on : (number ev : ℕ) → stops (shown_path number ev) ≡ false
unfolding shown_path
path_on number ev = eq_both (λ (x : Shown). stops x ≡ false) number 0 (Path ev) State (λ _. refl) (λ _. refl)

-- where a replay stands
abbrev pub place : ℕ → ℕ → Place
place at done = record { at = at; done = done; stopped = false }

module _ (log : List ℕ) (at done : ℕ) (w : Context) where
  turn_at : (x : Parsed) → parse_at log at ≡ x → turn_of (logged log) (place at done) w ≡ on_found (place at done) w (found_in x)
  unfolding turn_of found_from if_so
  turn_at x e = ap (λ (y : Parsed). on_found (place at done) w (found_in y)) e

  -- none at the end
  pub end_turns : parse_at log at ≡ End → turns_of (logged log) (place at done) w ≡ []
  unfolding on_found found_in
  end_turns e = turns_none (logged log) (place at done) w (ap (λ (t : Turning). t.ended) (turn_at End e))

  -- one, and those behind it
  pub one_turn : (t : Turning) → turn_of (logged log) (place at done) w ≡ t → t.ended ≡ false
      → turns_of (logged log) (place at done) w ≡ t ∷ turns_of (logged log) t.place t.after
  one_turn t e go = rw e at (turns_more (logged log) (place at done) w (ap (λ (x : Turning). x.ended) e ∙ go))

pub stopped_turns : (log : List ℕ) (p : Place) (w : Context) → p.stopped ≡ true → turns_of (logged log) p w ≡ []
unfolding turn_of
stopped_turns log p w s = turns_none (logged log) p w (ap (λ (t : Turning). t.ended) (sym (so_yes p.stopped (over p w) _ _ s refl)))

-- a refusal 12 stops a replay: one turn, which changes nothing
found_twelve : (x : Parsed) → parsed_number x ≡ 12 → found_in x ≡ found.Malformed
unfolding found_in
found_twelve (Whole r next) n = absurd (let no_record : ⊥ = omega (arith, n) in no_record)
found_twelve End n = absurd (let no_record : ⊥ = omega (arith, n) in no_record)
found_twelve Cut n = refl
found_twelve Malformed n = refl

pub refused_turn : (log : List ℕ) (at done : ℕ) (w : Context) → parsed_number (parse_at log at) ≡ 12
    → turn_of (logged log) (place at done) w ≡ turned (place at done) at (malformed w)
unfolding on_found
refused_turn log at done w n = turn_at log at done w (parse_at log at) refl
    ∙ ap (on_found (place at done) w) (found_twelve (parse_at log at) n)

pub twelve_turns : (log : List ℕ) (p : Place) (next : ℕ) (w : Context) → turn_of (logged log) p w ≡ turned p next (malformed w)
    → turns_of (logged log) p w ≡ turned p next (malformed w) ∷ []
unfolding place_after if_eq
twelve_turns log p next w e =
    let t : Turning = turned p next (malformed w) in
    rw e at (turns_more (logged log) p w (ap (λ (x : Turning). x.ended) e))
    ∙ ap (λ (ts : List Turning). t ∷ ts) (stopped_turns log t.place w refl)

-- a record behind record 1
module _ (log : List ℕ) (at next done : ℕ) (w : Context) (r : Record) (past : done ≡ 0 → ⊥) (reads : parse_at log at ≡ Whole r next) where
  later_turn : (e : Logged) → event_of r ≡ e → turn_of (logged log) (place at done) w ≡ turned (place at done) next (on_later e w)
  unfolding on_found found_in on_event
  later_turn e is =
      turn_at log at done w (Whole r next) reads
      ∙ ap (turned (place at done) next) (sym (eq_no done 0 _ _ _ past refl) ∙ ap (λ (x : Logged). on_later x w) is)

  -- one that is an event
  event_turns : (e : Logged) (d : Flowed) → event_of r ≡ e → Goes e d w
      → map answer_of (turns_of (logged log) (place at done) w) ≡ answer d w
      ∷ map answer_of (turns_of (logged log) (place next (done + 1)) (answer d w).after)
  unfolding place_after
  event_turns e d is G =
      let t : Turning = turned (place at done) next (on_later e w) in
      let there : t.place ≡ place next (done + 1)
      = sym (eq_no t.number 12 (place next (done + 1)) _ _ (λ twelve. never_twelve d w (sym G.number ∙ twelve)) (rw G.on)) in
      ap (map answer_of) (one_turn log at done w t (later_turn e is) refl)
      ∙ rw (there, G.number, G.after)

  -- a second settings record
  settings_turns : (s : Settings) → event_of r ≡ event.SetUp s → turns_of (logged log) (place at done) w
      ≡ turned (place at done) next (malformed w) ∷ []
  unfolding on_later
  settings_turns s is = twelve_turns log (place at done) next w (later_turn (event.SetUp s) is)

  -- either, and what comes behind it
  by_event : (es : List Flowed) (n : ℕ)
      → ((v : Context) → map answer_of (turns_of (logged log) (place next (done + 1)) v) ≡ answers v es ++ stop n (run v es))
      → (e : Logged) → event_of r ≡ e
      → map answer_of (turns_of (logged log) (place at done) w) ≡ answers w (with_event e es) ++ stop (with_stop e n) (run w (with_event e es))
  unfolding answers on_later if_eq
  by_event es n more (event.NewData time k bytes) is =
      event_turns _ (of k (new_data time bytes)) is (record { number = refl; after = refl; on = refl })
      ∙ rw (more (answer (of k (new_data time bytes)) w).after)
  by_event es n more (event.Send time k a) is =
      event_turns _ (of k (send time a)) is (record { number = refl; after = refl; on = refl }) ∙ rw (more (answer (of k (send time a)) w).after)
  by_event es n more (event.Ack time k a) is =
      event_turns _ (of k (ack time a)) is (record { number = refl; after = refl; on = says_on _ }) ∙ rw (more (answer (of k (ack time a)) w).after)
  by_event es n more (event.Nack time k a) is =
      event_turns _ (of k (nack time a)) is (record { number = refl; after = refl; on = says_on _ }) ∙ rw (more (answer (of k (nack time a)) w).after)
  by_event es n more (event.Loss time k a) is =
      event_turns _ (of k (loss time a)) is (record { number = refl; after = refl; on = refl }) ∙ rw (more (answer (of k (loss time a)) w).after)
  by_event es n more (event.Path time k) is =
      event_turns _ (of k (path time)) is (record { number = refl; after = refl; on = path_on _ _ }) ∙ rw (more (answer (of k (path time)) w).after)
  by_event es n more (event.SetUp s) is = ap (map answer_of) (settings_turns s is)

-- ---- the turns behind record 1

-- what they answer from a position on, of which the records rs are read, and n is the refusal at which reading stops
abbrev behind_of : Context → List Record → ℕ → List Answered
behind_of w rs n = answers w (events_of rs) ++ stop (stops_with rs n) (run w (events_of rs))

later : {log : List ℕ} {at : ℕ} → Run log at → (done : ℕ) → (done ≡ 0 → ⊥) → (w : Context)
    → let R = read_from log at in map answer_of (turns_of (logged log) (place at done) w)
    ≡ behind_of w R.records (parsed_number (parse_at log R.stop))
unfolding answers events_of stops_with if_eq
later {log} {at} (ended past e) done behind w = rw (read_end log at e, end_turns log at done w e, e)
later {log} {at} (refused i n) done behind w =
    rw (read_twelve log at n, n) (ap (map answer_of) (twelve_turns log (place at done) at w (refused_turn log at done w n)))
later {log} {at} (onward {next = next} {r = r} e a b on) done behind w =
    rw (read_on_lem log at (Whole r next) e)
    (by_event log at next done w r behind e (events_of (read_from log next).records) _ (later on (done + 1) (λ z. omega arith))
    (event_of r) refl)

-- ---- record 1

-- where it stands, and what is read behind it
record Front (log : List ℕ) (first : Record) (behind : List Record) : Type 0 where
  next : ℕ
  reads : parse_at log 0 ≡ Whole first next
  rest : (read_from log next).records ≡ behind
  stop_is : (read_from log next).stop ≡ stop_of log
  on : Run log next

nothing_read : (first : Record) (behind : List Record) → ◌≡◌ {A = List Record} [] (first ∷ behind) → ⊥
nothing_read first behind e = let z : ◌≡◌ {A = ℕ} 0 1 = cc in omega arith

front_of : (log : List ℕ) (at : ℕ) → at ≡ 0 → Run log at → (first : Record) (behind : List Record) → records_of log ≡ first ∷ behind
    → Front log first behind
front_of log at z (ended past e) first behind is = absurd (nothing_read first behind
    (ap (λ (R : Reading). R.records) (sym (read_end log 0 (rw z at e))) ∙ is))
front_of log at z (refused i n) first behind is = absurd (nothing_read first behind
    (ap (λ (R : Reading). R.records) (sym (read_twelve log 0 (rw z at n))) ∙ is))
front_of log at z (onward {next = next} {r = r} e a b on) first behind is =
    let reads : parse_at log 0 ≡ Whole r next = rw z at e in
    let both : r ∷ (read_from log next).records ≡ first ∷ behind =
    ap (λ (R : Reading). R.records) (sym (read_on_lem log 0 (Whole r next) reads)) ∙ is in
    let same : r ≡ first = cc in
    record {
      next = next;
      reads = reads ∙ ap (λ (x : Record). Whole x next) same;
      rest = cc;
      stop_is = ap (λ (R : Reading). R.stop) (sym (read_on_lem log 0 (Whole r next) reads));
      on = on;
    }

-- what it is answered
pub first_turn : (log : List ℕ) (next : ℕ) (lent : Context) (r : Record) (e : Logged) → parse_at log 0 ≡ Whole r next → event_of r ≡ e
    → turn_of (logged log) start lent ≡ turned start next (on_first e lent)
unfolding on_found found_in on_event if_eq
first_turn log next lent r e reads is =
    turn_at log 0 0 lent (Whole r next) reads ∙ ap (λ (x : Logged). turned start next (on_first x lent)) is

accepted_place : (number next : ℕ) → number ≡ 0 → place_after start next number (shown_first number) ≡ place next 1
unfolding place_after shown_first if_eq
accepted_place number next e = rw e

-- A LOG'S REPLAY IS A HISTORY
pub replayed : Replayed
unfolding on_first
replayed log lent s behind O =
    let F = front_of log 0 refl (every_log log 0) O.first behind O.reads in
    let set = on_set_up s lent.flows lent.slots lent.times in
    let t : Turning = turned start F.next (on_first (event.SetUp s) lent) in
    ap (map answer_of) (one_turn log 0 0 lent t (first_turn log F.next lent O.first (event.SetUp s) F.reads O.settings) refl)
    ∙ rw (
      accepted_place set.number F.next O.accepted,
      later F.on 1 (λ z. omega arith) set.after,
      F.rest,
      F.stop_is,
      O.accepted,
    )
