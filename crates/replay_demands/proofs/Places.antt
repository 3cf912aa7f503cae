-- The turn with k turns before it: its record's number, the context that it leaves, the number that it answers. Assumes nothing.
use mathlib.Core.Path.{◌≡◌, refl, sym, ap, ◌∙◌}
use mathlib.Core.Logic.{◌⊎◌, inl, inr, ⊎_elim}
use mathlib.Core.Bool.{Bool, true, false, false≢true}
use mathlib.Core.List.{List, [], ◌∷◌, ◌++◌, map}
use mathlib.Core.Option.{none, some}
use Prim.Native.Nat.{ℕ, zero, suc, ◌+◌}
use lib.ListN.{take, get_elem?}
use native.Mathlib.Omega.{arith}
use Rattle.rules.specs.Branch.{eq_both}
use Rattle.window.specs.declared.Settings.{Settings}
use Rattle.context.specs.Context.{Context, Answered}
use Rattle.log_records.specs.Logs.{stop_of}
use Rattle.log_records.specs.Parse.{parse_at, parsed_number}
use Rattle.log_records.specs.declared.parse.Parsed.{Parsed}
use Rattle.log_records.specs.declared.parse.Parsed.TheVariants.{Whole, End, Cut, Malformed}
use Rattle.log_records.specs.declared.record.Record.{Record}
use Rattle.replay.specs.Places.{Feed, logged, Turning, place_after, turn_of, turns_of}
use Rattle.replay.specs.Records.{event_of}
use Rattle.replay.specs.declared.Place.{Place}
use Rattle.replay.specs.declared.records.Event.{Event as Logged}
use Rattle.replay.specs.declared.records.Event.TheVariants as event
use Rattle.replay.specs.declared.Shown.{Shown}
use Rattle.replay.proofs.Progress.{turn_cases, turns_none, turns_more}
use Rattle.context_demands.specs.Events.{Flowed, answer, run}
use Rattle.replay_demands.specs.Histories.{start, turns, events_of, with_stop, stops_with, Opened, opened, last_of, answer_of, told}
use Rattle.replay_demands.specs.Histories.{answers, stop}
use Rattle.replay_demands.specs.Recorded.{RecordCounted, ContextAfter, NumberOf, NoEvent}
use Rattle.replay_demands.proofs.Replays.{stopped_turns, replayed}

-- ---- lists

module _ {A : Type 0} where
  no_element : (k : ℕ) (x : A) → get_elem? [] k ≡ some x → ⊥
  no_element k x e = let z : ◌≡◌ {A = ℕ} 0 1 = cc in omega arith

  same_element : (x y : A) → some x ≡ some y → y ≡ x
  same_element x y e = cc

map_element : {A B : Type 0} (f : A → B) (xs : List A) (k : ℕ) (x : A) → get_elem? xs k ≡ some x → get_elem? (map f xs) k ≡ some (f x)
map_element f [] k x e = absurd (no_element k x e)
map_element f (y ∷ xs) zero x e = rw (same_element y x e)
map_element f (y ∷ xs) (suc k) x e = map_element f xs k x e

-- ---- the record's number

-- a turn has the number of the record that comes next, and behind it one more record is done, or replay has stopped
abbrev Counts : Place → Turning → Type 0
Counts p t = t.ended ≡ false → (t.rec ≡ p.done + 1) × ((t.place.done ≡ p.done + 1) ⊎ (t.place.stopped ≡ true))

place_counts : (p : Place) (next number : ℕ) (shown : Shown)
    → let q = place_after p next number shown in (q.done ≡ p.done + 1) ⊎ (q.stopped ≡ true)
unfolding place_after
place_counts p next number shown =
    eq_both (λ (q : Place). (q.done ≡ p.done + 1) ⊎ (q.stopped ≡ true)) number 12 _ _ (λ _. inr refl) (λ _. inl refl)

turn_counts : (f : Feed) (p : Place) (w : Context) → Counts p (turn_of f p w)
turn_counts f p w =
    turn_cases f p w (Counts p) (λ go. absurd (false≢true (sym go)))
    (λ e next s q _. (refl, place_counts p next _ _))
    (λ s i _. (refl, place_counts p p.at _ _))

module _ (log : List ℕ) (p : Place) (w : Context) (t : Turning) where
  -- no turn, or one and those behind it
  by_turn : (k : ℕ) (P : Type 0) → ((turn_of (logged log) p w).ended ≡ false
      → get_elem? (turn_of (logged log) p w ∷ turns_of (logged log) (turn_of (logged log) p w).place (turn_of (logged log) p w).after) k
      ≡ some t → P)
      → get_elem? (turns_of (logged log) p w) k ≡ some t → P
  by_turn k P some_turn = by (turn_of (logged log) p w).ended refl
    where
      by : (b : Bool) → (turn_of (logged log) p w).ended ≡ b → get_elem? (turns_of (logged log) p w) k ≡ some t → P
      by true e there = absurd (no_element k t (rw (turns_none (logged log) p w e) at there))
      by false e there = some_turn e (rw (turns_more (logged log) p w e) at there)

  first_counted : get_elem? (turns_of (logged log) p w) 0 ≡ some t → t.rec ≡ p.done + 1
  first_counted =
      by_turn 0 (t.rec ≡ p.done + 1)
      (λ go is. ap (λ (x : Turning). x.rec) (same_element _ t is) ∙ (turn_counts (logged log) p w go).0)

  later_counted : (k : ℕ) → ((q : Place) (v : Context) → get_elem? (turns_of (logged log) q v) k ≡ some t → t.rec ≡ q.done + 1 + k)
      → get_elem? (turns_of (logged log) p w) (suc k) ≡ some t → t.rec ≡ p.done + 1 + suc k
  later_counted k more =
      let u = turn_of (logged log) p w in
      by_turn (suc k) (t.rec ≡ p.done + 1 + suc k)
      (λ go is.
      ⊎_elim (λ next. omega (arith, more u.place u.after is, next))
      (λ halted. absurd (no_element k t (rw (stopped_turns log u.place u.after halted) at is)))
      (turn_counts (logged log) p w go).1)

counted : (log : List ℕ) (k : ℕ) (p : Place) (w : Context) (t : Turning) → get_elem? (turns_of (logged log) p w) k ≡ some t
    → t.rec ≡ p.done + 1 + k
counted log zero p w t there = omega (arith, first_counted log p w t there)
counted log (suc k) p w t there = later_counted log p w t k (λ q v. counted log k q v t) there

pub record_counted : RecordCounted
record_counted log lent k t there = omega (arith, counted log k start lent t there)

-- ---- the context and the number

at_answer : (es : List Flowed) (w : Context) (n k : ℕ) (a : Answered) → get_elem? (answers w es ++ stop n (run w es)) k ≡ some a
    → a.after ≡ run w (take (suc k) es)
unfolding answers
at_answer [] w n k a is =
    eq_both (λ (l : List Answered). get_elem? l k ≡ some a → a.after ≡ w) n 0 [] (told n w ∷ []) (λ _ e. absurd (no_element k a e))
    (λ _. one k) is
  where
    one : (k : ℕ) → get_elem? (told n w ∷ []) k ≡ some a → a.after ≡ w
    one zero e = ap (λ (x : Answered). x.after) (same_element (told n w) a e)
    one (suc k) e = absurd (no_element k a e)
at_answer (e ∷ es) w n zero a is = ap (λ (x : Answered). x.after) (same_element (answer e w) a is)
at_answer (e ∷ es) w n (suc k) a is = at_answer es (answer e w).after n k a is

number_at : (es : List Flowed) (w : Context) (rest : List Answered) (k : ℕ) (e : Flowed) (a : Answered) → get_elem? es k ≡ some e
    → get_elem? (answers w es ++ rest) k ≡ some a → a.number ≡ (answer e (run w (take k es))).number
unfolding answers
number_at [] w rest k e a there is = absurd (no_element k e there)
number_at (d ∷ es) w rest zero e a there is = rw (same_element d e there)
    (ap (λ (x : Answered). x.number) (same_element (answer d w) a is))
number_at (d ∷ es) w rest (suc k) e a there is = number_at es (answer d w).after rest k e a there is

-- a replay stops with 12 or at the log's end
stops_so : (rs : List Record) (n : ℕ) → (n ≡ 0) ⊎ (n ≡ 12) → (stops_with rs n ≡ 0) ⊎ (stops_with rs n ≡ 12)
unfolding stops_with
stops_so [] n so = so
stops_so (r ∷ rs) n so = by (event_of r) (stops_so rs n so)
  where
    by : (e : Logged) → (stops_with rs n ≡ 0) ⊎ (stops_with rs n ≡ 12)
        → (with_stop e (stops_with rs n) ≡ 0) ⊎ (with_stop e (stops_with rs n) ≡ 12)
    by (event.NewData time k bytes) more = more
    by (event.Send time k a) more = more
    by (event.Ack time k a) more = more
    by (event.Nack time k a) more = more
    by (event.Loss time k a) more = more
    by (event.Path time k) more = more
    by (event.SetUp s) more = inr refl

read_so : (x : Parsed) → (parsed_number x ≡ 0) ⊎ (parsed_number x ≡ 12)
read_so (Whole r next) = inl refl
read_so End = inl refl
read_so Cut = inr refl
read_so Malformed = inr refl

-- behind the events there is a refusal or nothing
no_event_at : (es : List Flowed) (w : Context) (n k : ℕ) (a : Answered) → (n ≡ 0) ⊎ (n ≡ 12) → get_elem? es k ≡ none
    → get_elem? (answers w es ++ stop n (run w es)) k ≡ some a → a.number ≡ 12
unfolding answers
no_event_at [] w n k a so past is =
    eq_both (λ (l : List Answered). get_elem? l k ≡ some a → a.number ≡ 12) n 0 [] (told n w ∷ []) (λ _ e. absurd (no_element k a e))
    (λ not. one not k) is
  where
    one : (n ≡ 0 → ⊥) → (k : ℕ) → get_elem? (told n w ∷ []) k ≡ some a → a.number ≡ 12
    one not zero e = ap (λ (x : Answered). x.number) (same_element (told n w) a e) ∙ ⊎_elim (λ z. absurd (not z)) (λ t. t) so
    one not (suc k) e = absurd (no_element k a e)
no_event_at (e ∷ es) w n zero a so past is = absurd (no_element zero e (sym past))
no_event_at (e ∷ es) w n (suc k) a so past is = no_event_at es (answer e w).after n k a so past is

-- a turn's answer stands at its place among the answers
answer_at : (log : List ℕ) (lent : Context) (s : Settings) (behind : List Record) → Opened log lent s behind
    → (k : ℕ) (t : Turning) → get_elem? (turns log lent) k ≡ some t
    → let w = opened s lent in let es = events_of behind in
    get_elem? (told 0 w ∷ (answers w es ++ stop (stops_with behind (last_of log)) (run w es))) k ≡ some (answer_of t)
answer_at log lent s behind O k t there =
    ap (λ (l : List Answered). get_elem? l k) (sym (replayed log lent s behind O)) ∙ map_element answer_of (turns log lent) k t there

pub context_after : ContextAfter
context_after log lent s behind O k t there = by k (answer_at log lent s behind O k t there)
  where
    w : Context
    w = opened s lent

    es : List Flowed
    es = events_of behind

    by : (k : ℕ) → get_elem? (told 0 w ∷ (answers w es ++ stop (stops_with behind (last_of log)) (run w es))) k ≡ some (answer_of t)
        → t.after ≡ run w (take k es)
    by zero is = ap (λ (x : Answered). x.after) (same_element (told 0 w) (answer_of t) is)
    by (suc k) is = at_answer es w _ k (answer_of t) is

pub number_of : NumberOf
number_of log lent s behind O k t e there is = number_at (events_of behind) (opened s lent) _ k e (answer_of t) is
    (answer_at log lent s behind O (suc k) t there)

pub no_event : NoEvent
no_event log lent s behind O k t there past =
    no_event_at (events_of behind) (opened s lent) _ k (answer_of t) (stops_so behind (last_of log) (read_so (parse_at log (stop_of log)))) past
    (answer_at log lent s behind O (suc k) t there)
