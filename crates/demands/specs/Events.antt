-- Events as they come, and what a run of them leaves: the sender's own definitions, one event after another, accepted and refused alike.
-- Assumes nothing.
use Rattle.std.specs.Prelude.{◌≡◌, List, [], ◌∷◌, ℕ}
use Rattle.window.specs.declared.Settings.{Settings}
use Rattle.ledger.specs.Memory.{Memory}
use Rattle.sender.specs.World.{World, View, ring_of, view_of, world_of, Answered}
use Rattle.rules.specs.Rows.{Row}
use Rattle.sender.specs.Rows.{with_sound, new_data_rows, send_all_rows, ack_all_rows, nack_all_rows, loss_all_rows, path_rows}
use Rattle.sender.specs.Steps.{new_data_step, send_step, ack_step, nack_step, loss_step, path_step}
use Rattle.sender.specs.Start.{on_set_up}
use Rattle.sender.specs.Events.{on_new_data, on_send, on_ack, on_nack, on_loss, on_path}
use Rattle.sender.specs.declared.Send.{Send}
use Rattle.sender.specs.declared.Ack.{Ack}
use Rattle.sender.specs.declared.Nack.{Nack}
use Rattle.sender.specs.declared.Loss.{Loss}

-- an event with its arrival time
pub data Event : Type 0 where
  new_data : ℕ → ℕ → Event
  send : ℕ → Send → Event
  ack : ℕ → Ack → Event
  nack : ℕ → Nack → Event
  loss : ℕ → Loss → Event
  path : ℕ → Event

-- the rows that it is tested by, in document 01's order
abbrev pub rows_of : Event → World → List Row
rows_of (new_data time bytes) w = with_sound w (new_data_rows time bytes w.state)
rows_of (send time a) w = with_sound w (send_all_rows time a w.state (ring_of w))
rows_of (ack time a) w = with_sound w (ack_all_rows time a w.state)
rows_of (nack time a) w = with_sound w (nack_all_rows time a w.state (ring_of w))
rows_of (loss time a) w = with_sound w (loss_all_rows time a w.state (ring_of w))
rows_of (path time) w = with_sound w (path_rows time w.state)

-- what the sender answers
abbrev pub answer : Event → World → Answered
answer (new_data time bytes) w = on_new_data time bytes w
answer (send time a) w = on_send time a w
answer (ack time a) w = on_ack time a w
answer (nack time a) w = on_nack time a w
answer (loss time a) w = on_loss time a w
answer (path time) w = record { number = (on_path time w).number; after = (on_path time w).after }

-- the view that document 01's rules make of one by an event that no row refuses: the ledger, then the window in its order,
-- the EV times, the state's name
abbrev pub view_step : Event → View → View
view_step (new_data time bytes) v = new_data_step time bytes v
view_step (send time a) v = send_step time a v
view_step (ack time a) v = ack_step time a v
view_step (nack time a) v = nack_step time a v
view_step (loss time a) v = loss_step time a v
view_step (path time) v = path_step time v

-- the world that keeps it
abbrev pub step_of : Event → World → World
step_of e w = world_of (view_step e (view_of w))

-- the world after a list of events
abbrev pub run : World → List Event → World
run w [] = w
run w (e ∷ es) = run (answer e w).after es

-- a world that an accepted setting up gives
pub record SetUp (s : Settings) (m : Memory) (times : List ℕ) (w : World) : Type 0 where
  pub accepted : (on_set_up s m times).number ≡ 0
  pub gives : w ≡ (on_set_up s m times).after
