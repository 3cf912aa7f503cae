-- The demands over a table of flows, sentence by sentence. Each statement is a type; the theorem of the same name, in small letters, in
-- proofs/ has that type. The definitions are those that the context's contracts cite: what is proved here holds of the code. That an event
-- of one flow changes nothing of another's is in `context` (`flow_apart` and its like).
-- Assumes nothing.
use Rattle.std.specs.Prelude.{◌≡◌, ◌↔◌, ◌⊎◌, true, List, ℕ, ◌≤◌, min, pos, ◌-ℤ◌, Some}
use Rattle.window.specs.Limits.{max_wnd_of}
use Rattle.window.specs.declared.Settings.{Settings}
use Rattle.ledger.specs.Memory.{Memory}
use Rattle.sender.specs.World.{view_of, world_of, ledger_of}
use Rattle.sender.specs.Statements.{Exact}
use Rattle.sender.specs.Start.{no_settings, zeros, clear_memory}
use Rattle.sender.specs.Steps.{ack_sample, nack_sample, send_step, route_of}
use Rattle.sender.specs.declared.Send.{Send}
use Rattle.sender.specs.declared.Ack.{Ack}
use Rattle.sender.specs.declared.Nack.{Nack}
use Rattle.context.specs.Context.{Context, context, world_at, put_world}
use Rattle.context.specs.Sound.{sound_context}
use Rattle.context.specs.Start.{set_up_rows, fresh_state, fresh_table, on_set_up}
use Rattle.context.specs.Events.{on_send, on_ack, on_nack, on_path}
use Rattle.demands.specs.Sums.{sent_by, reported_by, lost_by}
use Rattle.demands.specs.Samples.{SampleIs, NoSample, AverageIs}
use Rattle.demands.specs.Burst.{Arrival, Timely, Outstanding, psn_of, Of, Arrives, is_delivered}
use Rattle.context_demands.specs.Events.{Flowed, rows_of, answer, step_of, run, SetUp}
use Rattle.context_demands.specs.Sums.{no_pasts, sum}
use Rattle.context_demands.specs.Burst.{ledgers_of, deliver, Newest, was_covered}
use Rattle.context_demands.specs.Permitted.{PermittedNew, PermittedResend}

-- DEMAND 1. "A refusal carries the number that document 01 gives, is given exactly when 01 says so". Request M-107: "A flow out of range is
-- refusal 25, tested after 3." The number is n exactly where a row of that number applies and none before it does ..
abbrev pub NumberExact : Type 0
NumberExact = (e : Flowed) (x : Context) → Exact (rows_of e x) (answer e x).number

-- .. and of setting up's
abbrev pub SetUpExact : Type 0
SetUpExact = (s : Settings) (flows : List ℕ) (m : Memory) (times : List ℕ)
    → Exact (set_up_rows s flows m times) (on_set_up s flows m times).number

-- DEMAND 1. A refusal "changes neither state nor buffer" ..
abbrev pub RefusedSame : Type 0
RefusedSame = (e : Flowed) (x : Context) → ((answer e x).number ≡ 0 → ⊥) → (answer e x).after ≡ x

-- .. and a refused setting up answers a state of zeros, and leaves the buffers
abbrev pub SetUpRefused : Type 0
SetUpRefused = (s : Settings) (flows : List ℕ) (m : Memory) (times : List ℕ) → ((on_set_up s flows m times).number ≡ 0 → ⊥)
    → (on_set_up s flows m times).after ≡ context (fresh_state no_settings) flows m times

-- DEMAND 2. "After every accepted event, the window, delay average, base round trip, totals, state and next path are those of the NSCC
-- rules as 01 fixes them": the whole context is the one with the rules' step made on what the event's flow sees of it ..
abbrev pub RulesHold : Type 0
RulesHold = (e : Flowed) (x : Context) → (answer e x).number ≡ 0 → (answer e x).after ≡ step_of e x

-- .. the EV of a path choice is the rule's too ..
abbrev pub PathTaken : Type 0
PathTaken = (time k : ℕ) (x : Context) → (on_path time k x).number ≡ 0 → (on_path time k x).ev ≡ (route_of time (view_of (world_at k x))).ev

-- .. and an accepted setting up gives the fresh state, "every flow starts at the settings' first PSN", "an empty ring of zeros" and EV
-- times of zeros
abbrev pub SetUpFresh : Type 0
SetUpFresh = (s : Settings) (flows : List ℕ) (m : Memory) (times : List ℕ) → (on_set_up s flows m times).number ≡ 0
    → (on_set_up s flows m times).after ≡ context (fresh_state s) (fresh_table s.first_psn flows) (clear_memory m) (zeros times)

-- DEMAND 2. "a send that 01 permits is accepted", and does what 01 says
abbrev pub PermittedSend : Type 0
PermittedSend = (time k : ℕ) (a : Send) (x : Context) → PermittedNew time k a x ⊎ PermittedResend time k a x
    → on_send time k a x ≡ record { number = 0; after = put_world k x (world_of (send_step time a (view_of (world_at k x)))) }

-- DEMAND 2. After any list of events of any flows from an accepted set-up, refused ones among them, state and buffers pass the full test of
-- number 2. Request M-107: "Refusal 2 tests every flow and the number of flows".
abbrev pub AlwaysSound : Type 0
AlwaysSound = (s : Settings) (flows : List ℕ) (m : Memory) (times : List ℕ) (x : Context) (es : List Flowed) → SetUp s flows m times x
    → sound_context (run x es) ≡ true

-- Request M-101. "cwnd always lies between MTU and max_wnd": after any such list
abbrev pub CwndBetween : Type 0
CwndBetween = (s : Settings) (flows : List ℕ) (m : Memory) (times : List ℕ) (x : Context) (es : List Flowed) → SetUp s flows m times x
    → let c = (run x es).state in (c.settings.mtu ≤ c.window.cwnd) × (c.window.cwnd ≤ max_wnd_of c.settings c.window.base)

-- DEMAND 2. "In-flight bytes equal sent less reported less taken out as lost, summed from set-up on". Request M-107: "Demand 2's in-flight
-- is the sum over all flows."
abbrev pub History : Type 0
History = (s : Settings) (flows : List ℕ) (m : Memory) (times : List ℕ) (x : Context) (es : List Flowed) → SetUp s flows m times x
    → (run x es).state.totals.in_flight ≡ pos (sum sent_by x no_pasts es) -ℤ pos (sum reported_by x no_pasts es)
    -ℤ pos (sum lost_by x no_pasts es)

-- DEMAND 2. "A round-trip sample is taken exactly when 01 says one exists", over the ring of the event's flow: on an ACK, of its trigger
-- packet ..
abbrev pub AckSampled : Type 0
AckSampled = (time k ticks : ℕ) (a : Ack) (x : Context) → (ack_sample time a (view_of (world_at k x)) ≡ Some ticks)
    ↔ SampleIs (world_at k x) a.trigger a.retx time a.service ticks

-- .. on a NACK, of its own packet, with service 0 ..
abbrev pub NackSampled : Type 0
NackSampled = (time k ticks : ℕ) (a : Nack) (x : Context) → (nack_sample time a (view_of (world_at k x)) ≡ Some ticks)
    ↔ SampleIs (world_at k x) a.psn a.retx time 0 ticks

-- .. an accepted ACK with a sample takes it: "base = min(base, sample)" ..
abbrev pub AckTakes : Type 0
AckTakes = (time k ticks : ℕ) (a : Ack) (x : Context) → SampleIs (world_at k x) a.trigger a.retx time a.service ticks
    → (on_ack time k a x).number ≡ 0 → (on_ack time k a x).after.state.window.base ≡ min x.state.window.base ticks

-- .. an accepted NACK of any reason too ..
abbrev pub NackTakes : Type 0
NackTakes = (time k ticks : ℕ) (a : Nack) (x : Context) → SampleIs (world_at k x) a.psn a.retx time 0 ticks
    → (on_nack time k a x).number ≡ 0 → (on_nack time k a x).after.state.window.base ≡ min x.state.window.base ticks

-- .. and no event changes the base round trip without one
abbrev pub BaseStays : Type 0
BaseStays = (e : Flowed) (x : Context) → NoSample e.event (world_at e.flow x)
    → (answer e x).after.state.window.base ≡ x.state.window.base

-- DEMAND 2. ".. delay average .. are those of the NSCC rules as 01 fixes them": after an accepted event the average is the one held before,
-- fed exactly by what 01 says, or not at all
abbrev pub AverageFed : Type 0
AverageFed = (e : Flowed) (x : Context) → (answer e x).number ≡ 0
    → AverageIs e.event (world_at e.flow x) (answer e x).after.state.window.avg

-- DEMAND 3. "Take a burst of acknowledgements with no other event between .. The ledger then equals the one that the newest alone leaves."
-- Request M-107: "Demand 3 holds for a burst of one flow with no event of another between, with the whole table as the ledger".
abbrev pub Burst : Type 0
Burst = (k : ℕ) (x : Context) (at : ℕ) (newest : Ack) (others : List Ack) (ds : List Arrival)
    → Newest k x at newest others → Of newest others ds → Arrives newest ds → Timely x.state.clock ds
    → ledgers_of (deliver k x ds) ≡ ledgers_of (on_ack at k newest x).after

-- DEMAND 3. "Before it arrives, a packet outstanding at the start counts as delivered exactly if an accepted acknowledgement covered it."
-- (Of any flow of any context and of any list of its ACKs, so of those of a burst before the newest arrives.)
abbrev pub Delivers : Type 0
Delivers = (k : ℕ) (x : Context) (ds : List Arrival) (j : ℕ) → Outstanding (world_at k x) j
    → is_delivered (ledger_of (world_at k (deliver k x ds))) (psn_of (world_at k x) j) ≡ was_covered k x ds (psn_of (world_at k x) j)
