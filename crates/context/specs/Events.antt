-- Each event of flow k: the number of the first row that applies and the context as it was, or 0 and the context with document 01's step
-- made on flow k's ledger, every other flow as it was. "past" is the event past number 2, for a caller who knows that it does not apply.
-- Assumes nothing.
use Rattle.std.proofs.Math.Option.{Option}
use Rattle.std.specs.Prelude.{List, ℕ}
use Rattle.rules.specs.Branch.{if_eq}
use Rattle.rules.specs.Rows.{Row, first_of}
use Rattle.window.specs.declared.Sampling.{Sampling}
use Rattle.sender.specs.World.{ring_of, view_of, world_of}
use Rattle.sender.specs.Rows.{new_data_rows, send_all_rows, ack_all_rows, nack_all_rows, loss_all_rows, path_rows}
use Rattle.sender.specs.Steps.{new_data_step, send_step, ack_sampling, ack_step, nack_sampling, nack_step, loss_step, path_step, route_of}
use Rattle.sender.specs.Events.{says}
use Rattle.sender.specs.declared.Send.{Send}
use Rattle.sender.specs.declared.Ack.{Ack}
use Rattle.sender.specs.declared.Nack.{Nack}
use Rattle.sender.specs.declared.Loss.{Loss}
use Rattle.context.specs.Context.{Context, Answered, Routing, world_at, put_world}
use Rattle.context.specs.Rows.{with_flow_row, with_sound}

-- "Each returns its number, the state as given, and lent memory untouched. Accepted is 0"
unfoldable pub decided : ℕ → Context → Context → Answered
decided n x after = if_eq n 0 (record { number = 0; after = after }) (record { number = n; after = x })

-- the rows of each event of flow k, past number 2
abbrev pub new_data_of : ℕ → ℕ → ℕ → Context → List Row
new_data_of time k bytes x = with_flow_row k x (new_data_rows time bytes (world_at k x).state)

abbrev pub send_of : ℕ → ℕ → Send → Context → List Row
send_of time k a x = with_flow_row k x (send_all_rows time a (world_at k x).state (ring_of (world_at k x)))

abbrev pub ack_of : ℕ → ℕ → Ack → Context → List Row
ack_of time k a x = with_flow_row k x (ack_all_rows time a (world_at k x).state)

abbrev pub nack_of : ℕ → ℕ → Nack → Context → List Row
nack_of time k a x = with_flow_row k x (nack_all_rows time a (world_at k x).state (ring_of (world_at k x)))

abbrev pub loss_of : ℕ → ℕ → Loss → Context → List Row
loss_of time k a x = with_flow_row k x (loss_all_rows time a (world_at k x).state (ring_of (world_at k x)))

abbrev pub path_of : ℕ → ℕ → Context → List Row
path_of time k x = with_flow_row k x (path_rows time (world_at k x).state)

-- what each leaves where no row refuses it
abbrev pub new_data_left : ℕ → ℕ → ℕ → Context → Context
new_data_left time k bytes x = put_world k x (world_of (new_data_step time bytes (view_of (world_at k x))))

abbrev pub send_left : ℕ → ℕ → Send → Context → Context
send_left time k a x = put_world k x (world_of (send_step time a (view_of (world_at k x))))

abbrev pub ack_left : ℕ → ℕ → Ack → Context → Context
ack_left time k a x = put_world k x (world_of (ack_step time a (view_of (world_at k x))))

abbrev pub nack_left : ℕ → ℕ → Nack → Context → Context
nack_left time k a x = put_world k x (world_of (nack_step time a (view_of (world_at k x))))

abbrev pub loss_left : ℕ → ℕ → Loss → Context → Context
loss_left time k a x = put_world k x (world_of (loss_step time a (view_of (world_at k x))))

abbrev pub path_left : ℕ → ℕ → Context → Context
path_left time k x = put_world k x (world_of (path_step time (view_of (world_at k x))))

-- a path choice answers the EV too, 0 where it is refused
unfoldable pub chosen : ℕ → ℕ → Context → Context → Routing
chosen n ev x after = if_eq n 0 (record { number = 0; ev = ev; after = after }) (record { number = n; ev = 0; after = x })

-- ---- past number 2

unfoldable pub past_new_data : ℕ → ℕ → ℕ → Context → Answered
past_new_data time k bytes x = decided (first_of (new_data_of time k bytes x)) x (new_data_left time k bytes x)

unfoldable pub past_send : ℕ → ℕ → Send → Context → Answered
past_send time k a x = decided (first_of (send_of time k a x)) x (send_left time k a x)

unfoldable pub past_ack : ℕ → ℕ → Ack → Context → Answered
past_ack time k a x = decided (first_of (ack_of time k a x)) x (ack_left time k a x)

-- request M-103: what it says of the sample
abbrev pub past_ack_says : ℕ → ℕ → Ack → Context → Option Sampling
past_ack_says time k a x = says (past_ack time k a x).number (ack_sampling time a (view_of (world_at k x)))

unfoldable pub past_nack : ℕ → ℕ → Nack → Context → Answered
past_nack time k a x = decided (first_of (nack_of time k a x)) x (nack_left time k a x)

abbrev pub past_nack_says : ℕ → ℕ → Nack → Context → Option Sampling
past_nack_says time k a x = says (past_nack time k a x).number (nack_sampling time a (view_of (world_at k x)))

unfoldable pub past_loss : ℕ → ℕ → Loss → Context → Answered
past_loss time k a x = decided (first_of (loss_of time k a x)) x (loss_left time k a x)

unfoldable pub past_path : ℕ → ℕ → Context → Routing
past_path time k x = chosen (first_of (path_of time k x)) (route_of time (view_of (world_at k x))).ev x (path_left time k x)

-- ---- with the test of number 2

unfoldable pub on_new_data : ℕ → ℕ → ℕ → Context → Answered
on_new_data time k bytes x = decided (first_of (with_sound x (new_data_of time k bytes x))) x (new_data_left time k bytes x)

unfoldable pub on_send : ℕ → ℕ → Send → Context → Answered
on_send time k a x = decided (first_of (with_sound x (send_of time k a x))) x (send_left time k a x)

unfoldable pub on_ack : ℕ → ℕ → Ack → Context → Answered
on_ack time k a x = decided (first_of (with_sound x (ack_of time k a x))) x (ack_left time k a x)

abbrev pub ack_says : ℕ → ℕ → Ack → Context → Option Sampling
ack_says time k a x = says (on_ack time k a x).number (ack_sampling time a (view_of (world_at k x)))

unfoldable pub on_nack : ℕ → ℕ → Nack → Context → Answered
on_nack time k a x = decided (first_of (with_sound x (nack_of time k a x))) x (nack_left time k a x)

abbrev pub nack_says : ℕ → ℕ → Nack → Context → Option Sampling
nack_says time k a x = says (on_nack time k a x).number (nack_sampling time a (view_of (world_at k x)))

unfoldable pub on_loss : ℕ → ℕ → Loss → Context → Answered
on_loss time k a x = decided (first_of (with_sound x (loss_of time k a x))) x (loss_left time k a x)

unfoldable pub on_path : ℕ → ℕ → Context → Routing
on_path time k x = chosen (first_of (with_sound x (path_of time k x))) (route_of time (view_of (world_at k x))).ev x (path_left time k x)
