-- Each event: the number of the first row that applies and the world as it was, or 0 and the world after the step.
-- Assumes nothing.
use Rattle.std.proofs.Math.Option.{Option, none, some}
use Rattle.std.specs.Prelude.{ℕ, Result, Ok, Err}
use Rattle.rules.specs.Branch.{if_eq}
use Rattle.rules.specs.Rows.{first_of}
use Rattle.rules.specs.declared.verdict.Refusal.{Refusal}
use Rattle.window.specs.declared.Sampling.{Sampling}
use Rattle.sender.specs.World.{World, Answered, Routing, ring_of, view_of, world_of}
use Rattle.sender.specs.Rows.{with_sound, new_data_rows, send_all_rows, ack_all_rows, nack_all_rows, loss_all_rows, path_rows}
use Rattle.sender.specs.Steps.{new_data_step, send_step, ack_sampling, ack_step, nack_sampling, nack_step, loss_step, path_step, route_of}
use Rattle.sender.specs.declared.Send.{Send}
use Rattle.sender.specs.declared.Ack.{Ack}
use Rattle.sender.specs.declared.Nack.{Nack}
use Rattle.sender.specs.declared.Loss.{Loss}

-- "Each returns its number, the state as given, and lent memory untouched. Accepted is 0"
unfoldable pub decided : ℕ → World → World → Answered
decided n w after = if_eq n 0 (record { number = 0; after = after }) (record { number = n; after = w })

unfoldable pub on_new_data : ℕ → ℕ → World → Answered
on_new_data time bytes w = decided (first_of (with_sound w (new_data_rows time bytes w.state))) w (world_of (new_data_step time bytes (view_of w)))

unfoldable pub on_send : ℕ → Send → World → Answered
on_send time a w = decided (first_of (with_sound w (send_all_rows time a w.state (ring_of w)))) w (world_of (send_step time a (view_of w)))

unfoldable pub on_ack : ℕ → Ack → World → Answered
on_ack time a w = decided (first_of (with_sound w (ack_all_rows time a w.state))) w (world_of (ack_step time a (view_of w)))

-- request M-103: what an answer of this number says of the sample. "Refused records .. get no letter."
unfoldable pub says : ℕ → Sampling → Option Sampling
says number sampling = if_eq number 0 (some sampling) none

-- an ACK's or a NACK's outcome as that
unfoldable pub says_of : Result Sampling Refusal → Option Sampling
says_of (Ok s) = some s
says_of (Err r) = none

abbrev pub ack_says : ℕ → Ack → World → Option Sampling
ack_says time a w = says (on_ack time a w).number (ack_sampling time a (view_of w))

unfoldable pub on_nack : ℕ → Nack → World → Answered
on_nack time a w = decided (first_of (with_sound w (nack_all_rows time a w.state (ring_of w)))) w (world_of (nack_step time a (view_of w)))

abbrev pub nack_says : ℕ → Nack → World → Option Sampling
nack_says time a w = says (on_nack time a w).number (nack_sampling time a (view_of w))

unfoldable pub on_loss : ℕ → Loss → World → Answered
on_loss time a w = decided (first_of (with_sound w (loss_all_rows time a w.state (ring_of w)))) w (world_of (loss_step time a (view_of w)))

-- a path choice answers the EV too, 0 where it is refused
unfoldable pub on_path : ℕ → World → Routing
on_path time w =
    let n = first_of (with_sound w (path_rows time w.state)) in
    if_eq n 0 (record { number = 0; ev = (route_of time (view_of w)).ev; after = world_of (path_step time (view_of w)) })
    (record { number = n; ev = 0; after = w })

-- ---- Each event past number 2, for a caller who knows that state and buffers hold together: document 01, "a replay may test it once and
-- rely on what its steps preserve".

unfoldable pub past_new_data : ℕ → ℕ → World → Answered
past_new_data time bytes w = decided (first_of (new_data_rows time bytes w.state)) w (world_of (new_data_step time bytes (view_of w)))

unfoldable pub past_send : ℕ → Send → World → Answered
past_send time a w = decided (first_of (send_all_rows time a w.state (ring_of w))) w (world_of (send_step time a (view_of w)))

unfoldable pub past_ack : ℕ → Ack → World → Answered
past_ack time a w = decided (first_of (ack_all_rows time a w.state)) w (world_of (ack_step time a (view_of w)))

abbrev pub past_ack_says : ℕ → Ack → World → Option Sampling
past_ack_says time a w = says (past_ack time a w).number (ack_sampling time a (view_of w))

unfoldable pub past_nack : ℕ → Nack → World → Answered
past_nack time a w = decided (first_of (nack_all_rows time a w.state (ring_of w))) w (world_of (nack_step time a (view_of w)))

abbrev pub past_nack_says : ℕ → Nack → World → Option Sampling
past_nack_says time a w = says (past_nack time a w).number (nack_sampling time a (view_of w))

unfoldable pub past_loss : ℕ → Loss → World → Answered
past_loss time a w = decided (first_of (loss_all_rows time a w.state (ring_of w))) w (world_of (loss_step time a (view_of w)))

unfoldable pub past_path : ℕ → World → Routing
past_path time w =
    let n = first_of (path_rows time w.state) in
    if_eq n 0 (record { number = 0; ev = (route_of time (view_of w)).ev; after = world_of (path_step time (view_of w)) })
    (record { number = n; ev = 0; after = w })
