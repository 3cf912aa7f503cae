-- The demands of one flow among others (request M-107), for events past number 2: state and buffers hold together among the others `o`,
-- whatever these add to the shared totals, and no event tests it again. Each statement is a type; the theorem of the same name, in small
-- letters, in proofs/ has that type. Those of specs/Demands, of a flow by itself, follow from these.
-- Assumes nothing.
use Rattle.std.specs.Prelude.{◌≡◌, Bool, true, false, ◌&&◌, ◌||◌, ℕ, ◌+◌, ◌<◌, eqb, ℤ, pos, ◌+ℤ◌, ◌-ℤ◌, get_or}
use mathlib.Core.List.{List, [], ◌∷◌, Memᴰ}
use Rattle.rules.specs.Branch.{if_eq}
use Rattle.rules.specs.Rows.{Row}
use Rattle.serial.specs.Wrap.{minus}
use Rattle.serial.specs.Psn.{plus}
use Rattle.serial.specs.Count.{counts, half}
use Rattle.ledger.specs.Packets.{no_packet}
use Rattle.ledger.specs.Ring.{Ledger, long_of, packets}
use Rattle.ledger.specs.Sound.{Others}
use Rattle.sender.specs.World.{World, Answered, ring_of, view_of, ledger_of}
use Rattle.sender.specs.Sound.{sound_among}
use Rattle.sender.specs.Rows.{new_data_rows, send_all_rows, ack_all_rows, nack_all_rows, loss_all_rows, path_rows}
use Rattle.sender.specs.Events.{past_new_data, past_send, past_ack, past_nack, past_loss, past_path}
use Rattle.sender.specs.declared.Ack.{Ack}
use Rattle.demands.specs.Events.{Event, new_data, send, ack, nack, loss, path}
use Rattle.demands.specs.Sums.{Past, remember, sent_by, reported_by, lost_by}
use Rattle.demands.specs.Burst.{Arrival, Timely, Outstanding, psn_of, covers_psn, Of, Arrives, is_delivered}

-- ---- events past number 2

-- an event's rows behind number 2, in document 01's order
abbrev pub past_rows : Event → World → List Row
past_rows (new_data time bytes) w = new_data_rows time bytes w.state
past_rows (send time a) w = send_all_rows time a w.state (ring_of w)
past_rows (ack time a) w = ack_all_rows time a w.state
past_rows (nack time a) w = nack_all_rows time a w.state (ring_of w)
past_rows (loss time a) w = loss_all_rows time a w.state (ring_of w)
past_rows (path time) w = path_rows time w.state

-- what the sender answers
abbrev pub past_answer : Event → World → Answered
past_answer (new_data time bytes) w = past_new_data time bytes w
past_answer (send time a) w = past_send time a w
past_answer (ack time a) w = past_ack time a w
past_answer (nack time a) w = past_nack time a w
past_answer (loss time a) w = past_loss time a w
past_answer (path time) w = record { number = (past_path time w).number; after = (past_path time w).after }

-- the world after a list of events, and after a list of arrivals
abbrev pub past_run : World → List Event → World
past_run w [] = w
past_run w (e ∷ es) = past_run (past_answer e w).after es

abbrev pub past_deliver : World → List Arrival → World
past_deliver w [] = w
past_deliver w (d ∷ ds) = past_deliver (past_ack d.time d.ack w).after ds

-- "an accepted acknowledgement covered it"
abbrev pub past_covered : World → List Arrival → ℕ → Bool
past_covered w [] psn = false
past_covered w (d ∷ ds) psn =
    (eqb (past_ack d.time d.ack w).number 0 && covers_psn d.ack psn) || past_covered (past_ack d.time d.ack w).after ds psn

-- "call one newest: accepted on its own at the start, its count not behind the count then held, every other count less than 2^23 units
-- behind it and none ahead, and each outstanding packet that another covers covered by it too"
pub record NewestPast (w : World) (at : ℕ) (newest : Ack) (others : List Ack) : Type 0 where
  pub accepted : (past_ack at newest w).number ≡ 0
  pub not_behind : minus counts newest.count w.state.flow.held < half
  pub others_behind : (a : Ack) → Memᴰ a others → minus counts newest.count a.count < half
  pub covers_too : (a : Ack) → Memᴰ a others → (k : ℕ) → Outstanding w k
      → covers_psn a (psn_of w k) ≡ true → covers_psn newest (psn_of w k) ≡ true

-- summed over the accepted events of a history
unfoldable pub past_sum : (Event → Past → ℕ) → World → Past → List Event → ℕ
past_sum by w p [] = 0
past_sum by w p (e ∷ es) =
    if_eq (past_answer e w).number 0 (by e p + past_sum by (past_answer e w).after (remember e p) es)
    (past_sum by (past_answer e w).after p es)

-- what is remembered of a flow's events agrees with its ledger: the newest count is the held one, and every packet of the queue has the
-- size of the last new packet of its PSN
pub record Agrees (p : Past) (l : Ledger) : Type 0 where
  pub count_is : p.count ≡ l.flow.held
  pub sizes : (k : ℕ) → k < long_of l.flow → (get_or (packets l.flow l.slots) k no_packet).size ≡ p.bytes (plus l.flow.low k)

-- in-flight with bytes sent, reported and lost
abbrev pub moved : ℤ → ℕ → ℕ → ℕ → ℤ
moved z sent reported lost = z +ℤ pos sent -ℤ pos reported -ℤ pos lost

-- ---- the demands

-- DEMAND 2. After any list of its events, refused ones among them, the flow still holds together among the same others.
abbrev pub SoundAmong : Type 0
SoundAmong = (o : Others) (w : World) (es : List Event) → sound_among o (view_of w) ≡ true → sound_among o (view_of (past_run w es)) ≡ true

-- DEMAND 2. "In-flight bytes equal sent less reported less taken out as lost", step by step, for flows that take turns: an accepted event
-- moves the shared in-flight by its own three numbers, which what is remembered of its flow gives, and is remembered itself ..
abbrev pub HistoryAmong : Type 0
HistoryAmong = (o : Others) (e : Event) (w : World) (p : Past) → sound_among o (view_of w) ≡ true → Agrees p (ledger_of w)
    → (past_answer e w).number ≡ 0
    → ((past_answer e w).after.state.totals.in_flight
    ≡ moved w.state.totals.in_flight (sent_by e p) (reported_by e p) (lost_by e p))
    × Agrees (remember e p) (ledger_of (past_answer e w).after)

-- .. and summed over a list of one flow's events
abbrev pub SumsAmong : Type 0
SumsAmong = (o : Others) (w : World) (p : Past) (es : List Event) → sound_among o (view_of w) ≡ true → Agrees p (ledger_of w)
    → (past_run w es).state.totals.in_flight
    ≡ moved w.state.totals.in_flight (past_sum sent_by w p es) (past_sum reported_by w p es) (past_sum lost_by w p es)

-- DEMAND 3. "Take a burst of acknowledgements with no other event between .. The ledger then equals the one that the newest alone leaves."
-- Request M-107: it "holds for a burst of one flow with no event of another between".
abbrev pub BurstAmong : Type 0
BurstAmong = (o : Others) (w : World) (at : ℕ) (newest : Ack) (others : List Ack) (ds : List Arrival) → sound_among o (view_of w) ≡ true
    → NewestPast w at newest others → Of newest others ds → Arrives newest ds → Timely w.state.clock ds
    → ledger_of (past_deliver w ds) ≡ ledger_of (past_ack at newest w).after

-- DEMAND 3. "Before it arrives, a packet outstanding at the start counts as delivered exactly if an accepted acknowledgement covered it."
abbrev pub DeliversAmong : Type 0
DeliversAmong = (o : Others) (w : World) (ds : List Arrival) (k : ℕ) → sound_among o (view_of w) ≡ true → Outstanding w k
    → is_delivered (ledger_of (past_deliver w ds)) (psn_of w k) ≡ past_covered w ds (psn_of w k)
