-- The demands, sentence by sentence. Each statement is a type; the theorem of the same name, in small letters, in proofs/ has that type.
-- The definitions are those that the sender's contracts cite: what is proved here holds of the code. Numbers are unbounded here, the code's
-- are machine words: nothing is asked of an event's numbers, and number 2 bounds what is held.
-- Assumes nothing.
use Rattle.std.specs.Prelude.{◌≡◌, ◌↔◌, ◌⊎◌, true, List, ℕ, ◌≤◌, min, pos, ◌-ℤ◌, Some, None}
use Rattle.window.specs.Limits.{max_wnd_of}
use Rattle.window.specs.declared.Settings.{Settings}
use Rattle.ledger.specs.Memory.{Memory}
use Rattle.sender.specs.World.{World, world, view_of, world_of, ledger_of}
use Rattle.sender.specs.Sound.{sound}
use Rattle.sender.specs.Statements.{Exact, PermittedNew, PermittedResend}
use Rattle.sender.specs.Rows.{set_up_rows}
use Rattle.sender.specs.Start.{no_settings, fresh_state, zeros, clear_memory, on_set_up}
use Rattle.sender.specs.Steps.{ack_sample, nack_sample, send_step, route_of}
use Rattle.sender.specs.Events.{on_send, on_ack, on_nack, on_path}
use Rattle.sender.specs.declared.Send.{Send}
use Rattle.sender.specs.declared.Ack.{Ack}
use Rattle.sender.specs.declared.Nack.{Nack}
use Rattle.demands.specs.Events.{Event, ack, nack, rows_of, answer, step_of, run, SetUp}
use Rattle.demands.specs.Sums.{no_past, sent_by, reported_by, lost_by, sum}
use Rattle.demands.specs.Burst.{Arrival, deliver, Timely, Outstanding, psn_of, Newest, Of, Arrives, is_delivered, was_covered}
use Rattle.demands.specs.Samples.{SampleIs, AverageIs}

-- DEMAND 1. "A refusal carries the number that document 01 gives, is given exactly when 01 says so": the number is n exactly where a row of
-- that number applies and none before it does, of the event's rows in 01's order ..
abbrev pub NumberExact : Type 0
NumberExact = (e : Event) (w : World) → Exact (rows_of e w) (answer e w).number

-- .. and of setting up's
abbrev pub SetUpExact : Type 0
SetUpExact = (s : Settings) (m : Memory) (times : List ℕ) → Exact (set_up_rows s m times) (on_set_up s m times).number

-- DEMAND 1. A refusal "changes neither state nor buffer" ..
abbrev pub RefusedSame : Type 0
RefusedSame = (e : Event) (w : World) → ((answer e w).number ≡ 0 → ⊥) → (answer e w).after ≡ w

-- .. and a refused setting up answers a state of zeros, and leaves the buffers
abbrev pub SetUpRefused : Type 0
SetUpRefused = (s : Settings) (m : Memory) (times : List ℕ) → ((on_set_up s m times).number ≡ 0 → ⊥)
    → (on_set_up s m times).after ≡ world (fresh_state no_settings) m times

-- DEMAND 2. "After every accepted event, the window, delay average, base round trip, totals, state and next path are those of the NSCC
-- rules as 01 fixes them": the whole world, state and lent buffers, is what the rules make of it ..
abbrev pub RulesHold : Type 0
RulesHold = (e : Event) (w : World) → (answer e w).number ≡ 0 → (answer e w).after ≡ step_of e w

-- .. the EV of a path choice is the rule's too ..
abbrev pub PathTaken : Type 0
PathTaken = (time : ℕ) (w : World) → (on_path time w).number ≡ 0 → (on_path time w).ev ≡ (route_of time (view_of w)).ev

-- .. and an accepted setting up gives the fresh state, "an empty ring of zeros" and EV times of zeros
abbrev pub SetUpFresh : Type 0
SetUpFresh = (s : Settings) (m : Memory) (times : List ℕ) → (on_set_up s m times).number ≡ 0
    → (on_set_up s m times).after ≡ world (fresh_state s) (clear_memory m) (zeros times)

-- DEMAND 2. "a send that 01 permits is accepted", and does what 01 says
abbrev pub PermittedSend : Type 0
PermittedSend = (time : ℕ) (a : Send) (w : World) → PermittedNew time a w ⊎ PermittedResend time a w
    → on_send time a w ≡ record { number = 0; after = world_of (send_step time a (view_of w)) }

-- DEMAND 2. After any list of events from an accepted set-up, refused ones among them, state and buffers pass the full test of number 2.
abbrev pub AlwaysSound : Type 0
AlwaysSound = (s : Settings) (m : Memory) (times : List ℕ) (w : World) (es : List Event) → SetUp s m times w → sound (run w es) ≡ true

-- Request M-101. "cwnd always lies between MTU and max_wnd": after any such list
abbrev pub CwndBetween : Type 0
CwndBetween = (s : Settings) (m : Memory) (times : List ℕ) (w : World) (es : List Event) → SetUp s m times w
    → let c = (run w es).state in (c.settings.mtu ≤ c.window.cwnd) × (c.window.cwnd ≤ max_wnd_of c.settings c.window.base)

-- DEMAND 2. "In-flight bytes equal sent less reported less taken out as lost, summed from set-up on"
abbrev pub History : Type 0
History = (s : Settings) (m : Memory) (times : List ℕ) (w : World) (es : List Event) → SetUp s m times w
    → (run w es).state.totals.in_flight ≡ pos (sum sent_by w no_past es) -ℤ pos (sum reported_by w no_past es)
    -ℤ pos (sum lost_by w no_past es)

-- DEMAND 2. "A round-trip sample is taken exactly when 01 says one exists": on an ACK, of its trigger packet ..
abbrev pub AckSampled : Type 0
AckSampled = (time ticks : ℕ) (a : Ack) (w : World) → (ack_sample time a (view_of w) ≡ Some ticks)
    ↔ SampleIs w a.trigger a.retx time a.service ticks

-- .. on a NACK, of its own packet, with service 0 ..
abbrev pub NackSampled : Type 0
NackSampled = (time ticks : ℕ) (a : Nack) (w : World) → (nack_sample time a (view_of w) ≡ Some ticks)
    ↔ SampleIs w a.psn a.retx time 0 ticks

-- .. an accepted ACK with a sample takes it: "base = min(base, sample)" ..
abbrev pub AckTakes : Type 0
AckTakes = (time ticks : ℕ) (a : Ack) (w : World) → SampleIs w a.trigger a.retx time a.service ticks → (on_ack time a w).number ≡ 0
    → (on_ack time a w).after.state.window.base ≡ min w.state.window.base ticks

-- .. an accepted NACK of any reason too ..
abbrev pub NackTakes : Type 0
NackTakes = (time ticks : ℕ) (a : Nack) (w : World) → SampleIs w a.psn a.retx time 0 ticks → (on_nack time a w).number ≡ 0
    → (on_nack time a w).after.state.window.base ≡ min w.state.window.base ticks

-- .. and no event changes the base round trip without one
abbrev pub BaseStays : Type 0
BaseStays = (e : Event) (w : World) → ((time : ℕ) (a : Ack) → e ≡ ack time a → ack_sample time a (view_of w) ≡ None)
    → ((time : ℕ) (a : Nack) → e ≡ nack time a → nack_sample time a (view_of w) ≡ None)
    → (answer e w).after.state.window.base ≡ w.state.window.base

-- DEMAND 2. ".. delay average .. are those of the NSCC rules as 01 fixes them": after an accepted event the average is the one held before,
-- fed exactly by what 01 says, or not at all. (A refused one changes nothing: `RefusedSame`.)
abbrev pub AverageFed : Type 0
AverageFed = (e : Event) (w : World) → (answer e w).number ≡ 0 → AverageIs e w (answer e w).after.state.window.avg

-- DEMAND 3. "Take a burst of acknowledgements with no other event between .. The ledger then equals the one that the newest alone leaves."
abbrev pub Burst : Type 0
Burst = (w : World) (at : ℕ) (newest : Ack) (others : List Ack) (ds : List Arrival)
    → Newest w at newest others → Of newest others ds → Arrives newest ds → Timely w.state.clock ds
    → ledger_of (deliver w ds) ≡ ledger_of (on_ack at newest w).after

-- DEMAND 3. "Before it arrives, a packet outstanding at the start counts as delivered exactly if an accepted acknowledgement covered it."
-- (From any start, of any list of ACKs whatever, so of those of a burst before the newest arrives.)
abbrev pub Delivers : Type 0
Delivers = (w : World) (ds : List Arrival) (k : ℕ) → Outstanding w k
    → is_delivered (ledger_of (deliver w ds)) (psn_of w k) ≡ was_covered w ds (psn_of w k)
