-- Events of flows as they come, and what a run of them leaves: the context's own definitions, one event after another, accepted and
-- refused alike.
-- Assumes nothing.
use Rattle.std.specs.Prelude.{◌≡◌, List, [], ◌∷◌, ℕ}
use Rattle.rules.specs.Rows.{Row}
use Rattle.window.specs.declared.Settings.{Settings}
use Rattle.ledger.specs.Memory.{Memory}
use Rattle.context.specs.Context.{Context, Answered, world_at, put_world}
use Rattle.context.specs.Rows.{with_flow_row, with_sound}
use Rattle.context.specs.Events.{on_new_data, on_send, on_ack, on_nack, on_loss, on_path}
use Rattle.context.specs.Start.{on_set_up}
use Rattle.demands.specs.Events.{Event, new_data, send, ack, nack, loss, path}
use Rattle.demands.specs.Events.{step_of as oneStep}
use Rattle.demands.specs.Past.{past_rows}

-- an event with its flow's number
pub record Flowed : Type 0 where
  pub flow : ℕ
  pub event : Event

-- the rows that it is tested by, in their order: 2, 3, 25, then the others of its flow ("tested after 3")
abbrev pub rows_at : ℕ → Event → Context → List Row
rows_at k e x = with_sound x (with_flow_row k x (past_rows e (world_at k x)))

abbrev pub rows_of : Flowed → Context → List Row
rows_of e x = rows_at e.flow e.event x

-- what the context answers to an event of flow k
abbrev pub answer_at : ℕ → Event → Context → Answered
answer_at k (new_data time bytes) x = on_new_data time k bytes x
answer_at k (send time a) x = on_send time k a x
answer_at k (ack time a) x = on_ack time k a x
answer_at k (nack time a) x = on_nack time k a x
answer_at k (loss time a) x = on_loss time k a x
answer_at k (path time) x = record { number = (on_path time k x).number; after = (on_path time k x).after }

abbrev pub answer : Flowed → Context → Answered
answer e x = answer_at e.flow e.event x

-- the context with document 01's step made on what flow k sees of it
abbrev pub step_at : ℕ → Event → Context → Context
step_at k e x = put_world k x (oneStep e (world_at k x))

abbrev pub step_of : Flowed → Context → Context
step_of e x = step_at e.flow e.event x

-- the context after a list of events of any flows
abbrev pub run : Context → List Flowed → Context
run x [] = x
run x (e ∷ es) = run (answer e x).after es

-- a context that an accepted setting up gives
pub record SetUp (s : Settings) (flows : List ℕ) (m : Memory) (times : List ℕ) (x : Context) : Type 0 where
  pub accepted : (on_set_up s flows m times).number ≡ 0
  pub gives : x ≡ (on_set_up s flows m times).after
