-- What each accepted event does: "Accepted is 0; the clock becomes the event's time." The ledger's step, then the window rules, then the
-- EV's time with the base held before the event, then the state's name.
-- Assumes nothing.
use Rattle.std.specs.Prelude.{Bool, true, ◌||◌, List, ℕ, ◌+◌, eqb}
use Rattle.rules.specs.Branch.{if_so}
use Rattle.window.specs.Delays.{sample_of, sampling_of}
use Rattle.window.specs.Events.{ack_of, nack_of, loss_of}
use Rattle.window.specs.declared.Settings.{Settings}
use Rattle.window.specs.declared.Window.{Window}
use Rattle.window.specs.Sample.{Sample}
use Rattle.window.specs.declared.Sampling.{Sampling}
use Rattle.paths.specs.Path.{with_time, choice}
use Rattle.paths.specs.declared.Choice.{Choice}
use Rattle.ledger.specs.Packets.{is_out}
use Rattle.ledger.specs.Ring.{Ledger, packet_of}
use Rattle.ledger.specs.Steps.{supplied, supplied_totals, push_of, resend_of, mark_of, acknowledge_of, newly_of}
use Rattle.ledger.specs.declared.Flow.{Flow}
use Rattle.ledger.specs.declared.Totals.{Totals}
use Rattle.sender.specs.World.{View, view, ledger_in}
use Rattle.sender.specs.Named.{phase_of}
use Rattle.sender.specs.declared.Controller.{Controller}
use Rattle.sender.specs.declared.Send.{Send}
use Rattle.sender.specs.declared.Ack.{Ack}
use Rattle.sender.specs.declared.Nack.{Nack}
use Rattle.sender.specs.declared.Loss.{Loss}

-- the state at a time, with the name that the rule gives it
unfoldable pub state_of : Settings → Flow → Totals → Window → ℕ → ℕ → Controller
state_of s f t v time cursor =
    record {
      settings = s;
      flow = f;
      totals = t;
      window = v;
      clock = time;
      cursor = cursor;
      phase = phase_of s.mtu v.cwnd t;
    }

-- the view once a ledger, a window and EV times came out
unfoldable pub settled : ℕ → Controller → Ledger → Window → List ℕ → View
settled time c l u times = view (state_of c.settings l.flow l.totals u time c.cursor) l.slots times

-- "that EV's time becomes now + the base held before the event", where feedback says so
unfoldable pub avoided_in : Bool → ℕ → ℕ → ℕ → List ℕ → List ℕ
avoided_in on ev time base times = if_so on (with_time times ev (time + base)) times

unfoldable pub new_data_state : ℕ → ℕ → Controller → Controller
new_data_state time bytes c =
    state_of c.settings (supplied bytes c.flow) (supplied_totals bytes c.totals) c.window time c.cursor

unfoldable pub new_data_step : ℕ → ℕ → View → View
new_data_step time bytes v = view (new_data_state time bytes v.state) v.slots v.times

unfoldable pub send_step : ℕ → Send → View → View
send_step time a v =
    settled time v.state
    (if_so a.resend (resend_of time a.psn (ledger_in v)) (push_of time a.size (ledger_in v)))
    v.state.window v.times

-- the sample of an ACK: the trigger packet as it stood before
unfoldable pub ack_sample : ℕ → Ack → View → Sample
ack_sample time a v =
    let x = packet_of v.state.flow v.slots a.trigger in
    sample_of (is_out x) x.resent a.retx time x.sent a.service

-- request M-103: what it says of that sample
unfoldable pub ack_sampling : ℕ → Ack → View → Sampling
ack_sampling time a v =
    let x = packet_of v.state.flow v.slots a.trigger in
    sampling_of (is_out x) x.resent a.retx time x.sent a.service

-- "Marked ACK": that EV is avoided
unfoldable pub ack_step : ℕ → Ack → View → View
ack_step time a v =
    let c = v.state in
    let l = acknowledge_of a.cum a.map a.count (ledger_in v) in
    settled time c l
    (ack_of c.settings time (newly_of a.count c.flow.held) a.marked (ack_sample time a v) l.totals.in_flight c.window)
    (avoided_in a.marked a.ev time c.window.base v.times)

-- "NACKs use their own PSN and service 0."
unfoldable pub nack_sample : ℕ → Nack → View → Sample
nack_sample time a v =
    let x = packet_of v.state.flow v.slots a.psn in
    sample_of (is_out x) x.resent a.retx time x.sent 0

unfoldable pub nack_sampling : ℕ → Nack → View → Sampling
nack_sampling time a v =
    let x = packet_of v.state.flow v.slots a.psn in
    sampling_of (is_out x) x.resent a.retx time x.sent 0

-- "marked NACK, NACK reason 0": that EV is avoided
unfoldable pub nack_step : ℕ → Nack → View → View
nack_step time a v =
    let c = v.state in
    let x = packet_of c.flow v.slots a.psn in
    let l = mark_of a.psn (ledger_in v) in
    settled time c l
    (nack_of c.settings time x.size a.reason (nack_sample time a v) l.totals.in_flight c.window)
    (avoided_in (a.marked || eqb a.reason 0) a.ev time c.window.base v.times)

-- "and loss": that EV is avoided
unfoldable pub loss_step : ℕ → Loss → View → View
loss_step time a v =
    let c = v.state in
    let x = packet_of c.flow v.slots a.psn in
    let l = mark_of a.psn (ledger_in v) in
    settled time c l (loss_of c.settings time x.size l.totals.in_flight c.window)
    (avoided_in true a.ev time c.window.base v.times)

-- the next path
unfoldable pub path_state : ℕ → ℕ → Controller → Controller
path_state time cursor c = state_of c.settings c.flow c.totals c.window time cursor

abbrev pub route_of : ℕ → View → Choice
route_of time v = choice time v.state.cursor v.times

unfoldable pub path_step : ℕ → View → View
path_step time v = view (path_state time (route_of time v).cursor v.state) v.slots v.times
