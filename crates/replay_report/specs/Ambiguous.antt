-- REQUEST M-106, "Ambiguous packets must not matter", as a statement that can be read alone. The theorem
-- `ambiguous_does_not_matter` stands in proofs/Ambiguous.
-- Assumes nothing.
use Rattle.std.specs.Prelude.{◌≡◌, Bool, false, ◌&&◌, ◌||◌, List, [], ◌∷◌, ℕ, ◌+◌, length, get_or}
use Rattle.rules.specs.Test.{inside}
use Rattle.window.specs.declared.Sampling.TheVariants.{Ambiguous}
use Rattle.context.specs.Context.{Context}
use Rattle.log_records.specs.Parse.{parse_at}
use Rattle.log_records.specs.Write.{flow_bytes}
use Rattle.log_records.specs.declared.record.Whose.{Whose}
use Rattle.log_records.specs.declared.record.Record.{Record}
use Rattle.log_records.specs.declared.record.Record.TheVariants.{NewData, Send, Ack, Nack, Loss, Path, SetUp, SetUpEvs}
use Rattle.log_records.specs.declared.parse.Parsed.{Parsed}
use Rattle.log_records.specs.declared.parse.Parsed.TheVariants.{Whole, End, Cut, Malformed}
use Rattle.replay.specs.Batches.{kind_of, batch_of}
use Rattle.replay.specs.Places.{logged, Turning, turns_of, last_place, last_context}
use Rattle.replay.specs.declared.Place.{Place}
use Rattle.replay_report.specs.Statements.{of_kind, report_from}
use Rattle.replay_report.specs.Tallies.{tally_of}

-- ---- which bytes may differ

-- "the service times" of ACK records: the length 2, the kind 2, the time 8, the flow number 1 in a record that has one (M-107), cum 4,
-- map 8, trigger 4 and count 4 stand before it, and it has 4 bytes
abbrev pub service_first : Whose → ℕ
service_first whose = 2 + 2 + 8 + flow_bytes whose + 4 + 8 + 4 + 4

abbrev pub service_last : Whose → ℕ
service_last whose = service_first whose + 3

-- whether byte i of a log is one of the service time of a record that stands at an offset: "ACK records" have one, of either kind
unfoldable pub served_by : Record → ℕ → ℕ → Bool
served_by (NewData time whose bytes) at i = false
served_by (Send time whose size psn resend) at i = false
served_by (Ack time whose cum trigger count service ev flags map) at i = inside (at + service_first whose) i (at + service_last whose)
served_by (Nack time whose psn ev reason flags) at i = false
served_by (Loss time whose psn ev) at i = false
served_by (Path time whose) at i = false
served_by (SetUp s) at i = false
served_by (SetUpEvs s evs) at i = false

unfoldable pub served_in : Parsed → ℕ → ℕ → Bool
served_in (Whole r next) at i = served_by r at i
served_in End at i = false
served_in Cut at i = false
served_in Malformed at i = false

-- "whose outcome under M-103 in the first log is ambiguous": the turn at a place, which is of the record that stands there
abbrev pub is_ambiguous : Turning → Bool
is_ambiguous t = of_kind (kind_of Ambiguous) t

abbrev pub ambiguous_byte : List ℕ → Place → Turning → ℕ → Bool
ambiguous_byte log p t i = is_ambiguous t && served_in (parse_at log p.at) p.at i

-- whether byte i of the first log is one of those, over turns: each turn's record stands where the turn before it ended
unfoldable pub may_differ : List ℕ → Place → List Turning → ℕ → Bool
may_differ log p [] i = false
may_differ log p (t ∷ ts) i = ambiguous_byte log p t i || may_differ log t.place ts i

-- "two logs of equal length that differ only in the service times of ACK records whose outcome under M-103 in the first log is ambiguous",
-- in a replay from its start or from another place on: every other byte is the same, the arrival times with them
pub record DifferOnly (log other : List ℕ) (p : Place) (w : Context) : Type 0 where
  pub long : length log ≡ length other
  pub only : (i : ℕ) → may_differ log p (turns_of (logged log) p w) i ≡ false → get_or log i 0 ≡ get_or other i 0

-- ---- what is equal

-- "Every answer, the final state, the lent ring and EV times, and the report of M-105 are equal." So are the flows' records (M-107).
pub record AllEqual (log other : List ℕ) (p : Place) (w : Context) : Type 0 where
  -- every record's number, its answer with what its line shows, and the place and the context after it
  pub turns : turns_of (logged log) p w ≡ turns_of (logged other) p w
  pub place : last_place p (turns_of (logged log) p w) ≡ last_place p (turns_of (logged other) p w)
  pub state : (last_context w (turns_of (logged log) p w)).state ≡ (last_context w (turns_of (logged other) p w)).state
  pub flows : (last_context w (turns_of (logged log) p w)).flows ≡ (last_context w (turns_of (logged other) p w)).flows
  pub slots : (last_context w (turns_of (logged log) p w)).slots ≡ (last_context w (turns_of (logged other) p w)).slots
  pub times : (last_context w (turns_of (logged log) p w)).times ≡ (last_context w (turns_of (logged other) p w)).times
  pub report : report_from log p w ≡ report_from other p w
  -- so a call of `replay`, in whatever room, and a call of `tally`, on whatever figures, answer and leave the same
  pub replayed : (room : List ℕ) → batch_of (logged log) p w room ≡ batch_of (logged other) p w room
  pub tallied : (figures : List ℕ) → tally_of (logged log) p w figures ≡ tally_of (logged other) p w figures
