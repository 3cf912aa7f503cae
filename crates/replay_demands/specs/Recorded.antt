-- The demands over a replayed log, sentence by sentence: whoever reads a line of a replay knows that they hold of the state that the line
-- shows. Each statement is a type; the theorem of the same name, in small letters, in proofs/Theorems has that type. The turns are those of
-- `replay::replay`, and of what is printed and reported of them, in batches of any size and in chunks cut anywhere: `turns_split` (replay),
-- `log_joined` (chunks) and `log_text_joined` (lines) say that these have the same turns.
-- Assumes nothing.
use Rattle.std.specs.Prelude.{◌≡◌, ◌⊎◌, true, List, [], ◌∷◌, ◌++◌, map, ℕ, suc, ◌+◌, ◌≤◌, pos, ◌-ℤ◌, length, take}
use Rattle.std.proofs.Math.Option.{none, some}
use Rattle.std.proofs.Math.ListN.{get_elem?}
use Rattle.window.specs.Limits.{max_wnd_of}
use Rattle.window.specs.declared.Settings.{Settings}
use Rattle.context.specs.Context.{Context}
use Rattle.context.specs.Sound.{sound_context}
use Rattle.context.specs.Events.{on_ack}
use Rattle.sender.specs.declared.Ack.{Ack}
use Rattle.log_records.specs.declared.record.Record.{Record}
use Rattle.replay.specs.Places.{Turning}
use Rattle.demands.specs.Sums.{sent_by, reported_by, lost_by}
use Rattle.demands.specs.Burst.{Arrival, Timely, Of, Arrives}
use Rattle.context_demands.specs.Events.{Flowed, answer, run}
use Rattle.context_demands.specs.Sums.{no_pasts, sum}
use Rattle.context_demands.specs.Burst.{ledgers_of, Newest}
use Rattle.replay_demands.specs.Histories.{turns, events_of, stops_with, Opened, opened, last_of, answer_of, told, answers, stop, acks}

-- ---- a log's replay is a history

-- The turns of a log whose record 1 is accepted settings: what they give; then the events of the records behind it, one after another, as
-- the context answers them; then, where replay stops before the log's end, a 12 that changes nothing. There is no other turn.
abbrev pub Replayed : Type 0
Replayed = (log : List ℕ) (lent : Context) (s : Settings) (behind : List Record) → Opened log lent s behind
    → let x = opened s lent in let es = events_of behind in
    map answer_of (turns log lent) ≡ told 0 x ∷ (answers x es ++ stop (stops_with behind (last_of log)) (run x es))

-- Of any other log there is no turn, where it is empty, or one, which is refused and at which replay stops.
abbrev pub Unopened : Type 0
Unopened = (log : List ℕ) (lent : Context) → ((s : Settings) (behind : List Record) → Opened log lent s behind → ⊥)
    → ((log ≡ []) × (turns log lent ≡ [])) ⊎ ((t : Turning) × (turns log lent ≡ t ∷ []) × (t.number ≡ 0 → ⊥) × (t.place.stopped ≡ true))

-- The turn with k turns before it is that of record k + 1, by which its line begins.
abbrev pub RecordCounted : Type 0
RecordCounted = (log : List ℕ) (lent : Context) (k : ℕ) (t : Turning) → get_elem? (turns log lent) k ≡ some t → t.rec ≡ k + 1

-- So it leaves the context that the first k events behind record 1 leave, a stop among the turns or not ..
abbrev pub ContextAfter : Type 0
ContextAfter = (log : List ℕ) (lent : Context) (s : Settings) (behind : List Record) → Opened log lent s behind
    → (k : ℕ) (t : Turning) → get_elem? (turns log lent) k ≡ some t → t.after ≡ run (opened s lent) (take k (events_of behind))

-- .. its number is the one that the context answers to its event ..
abbrev pub NumberOf : Type 0
NumberOf = (log : List ℕ) (lent : Context) (s : Settings) (behind : List Record) → Opened log lent s behind
    → (k : ℕ) (t : Turning) (e : Flowed) → get_elem? (turns log lent) (suc k) ≡ some t → get_elem? (events_of behind) k ≡ some e
    → t.number ≡ (answer e (run (opened s lent) (take k (events_of behind)))).number

-- .. and 12 where it has none.
abbrev pub NoEvent : Type 0
NoEvent = (log : List ℕ) (lent : Context) (s : Settings) (behind : List Record) → Opened log lent s behind
    → (k : ℕ) (t : Turning) → get_elem? (turns log lent) (suc k) ≡ some t → get_elem? (events_of behind) k ≡ none → t.number ≡ 12

-- ---- the demands, of the state that a line shows

-- DEMAND 2. After every turn state and buffers pass the full test of number 2.
abbrev pub TurnSound : Type 0
TurnSound = (log : List ℕ) (lent : Context) (s : Settings) (behind : List Record) → Opened log lent s behind
    → (k : ℕ) (t : Turning) → get_elem? (turns log lent) k ≡ some t → sound_context t.after ≡ true

-- Request M-101. "cwnd always lies between MTU and max_wnd": after every turn
abbrev pub TurnBetween : Type 0
TurnBetween = (log : List ℕ) (lent : Context) (s : Settings) (behind : List Record) → Opened log lent s behind
    → (k : ℕ) (t : Turning) → get_elem? (turns log lent) k ≡ some t
    → let c = t.after.state in (c.settings.mtu ≤ c.window.cwnd) × (c.window.cwnd ≤ max_wnd_of c.settings c.window.base)

-- DEMAND 2. "In-flight bytes equal sent less reported less taken out as lost, summed from set-up on": over the events of all flows in
-- the turns so far
abbrev pub TurnHistory : Type 0
TurnHistory = (log : List ℕ) (lent : Context) (s : Settings) (behind : List Record) → Opened log lent s behind
    → (k : ℕ) (t : Turning) → get_elem? (turns log lent) k ≡ some t
    → let x = opened s lent in let es = take k (events_of behind) in
    t.after.state.totals.in_flight ≡ pos (sum sent_by x no_pasts es) -ℤ pos (sum reported_by x no_pasts es)
    -ℤ pos (sum lost_by x no_pasts es)

-- DEMAND 3. "Take a burst of acknowledgements with no other event between .. The ledger then equals the one that the newest alone leaves":
-- neighbouring ACK records ds of flow k in the log, of the old kind or with a flow, behind the records of the turns up to t; u is the
-- turn of the last of them. Request M-107: "with the whole table as the ledger"
abbrev pub TurnBurst : Type 0
TurnBurst = (log : List ℕ) (lent : Context) (s : Settings) (behind : List Record) → Opened log lent s behind
    → (k : ℕ) (before more : List Flowed) (ds : List Arrival) → events_of behind ≡ before ++ (acks k ds ++ more)
    → (t u : Turning) → get_elem? (turns log lent) (length before) ≡ some t → get_elem? (turns log lent) (length before + length ds) ≡ some u
    → (at : ℕ) (newest : Ack) (others : List Ack) → Newest k t.after at newest others → Of newest others ds → Arrives newest ds
    → Timely t.after.state.clock ds → ledgers_of u.after ≡ ledgers_of (on_ack at k newest t.after).after
