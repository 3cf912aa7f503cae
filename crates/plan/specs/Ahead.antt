-- What the judge keeps of a plan's first sends in place of the ring: the flows' records and in-flight as these sends leave them. Which
-- packets they have sent again the plan itself tells. A send is judged by these, by the context as it was handed in, and by the plan.
-- Assumes nothing.
use Rattle.std.specs.Prelude.{Bool, false, not, ◌&&◌, ◌||◌, List, ℕ, zero, suc, ◌-◌, eqb, get_or, ℤ, pos, ◌+ℤ◌}
use Rattle.rules.specs.Branch.{if_so, if_eq, if_lt}
use Rattle.rules.specs.Rows.{first_of}
use Rattle.rules.specs.Test.{inside}
use Rattle.serial.specs.Psn.{plus}
use Rattle.ledger.specs.Bounds.{size_least}
use Rattle.ledger.specs.Packets.{is_marked}
use Rattle.ledger.specs.Rows.{new_rows}
use Rattle.ledger.specs.declared.Flow.{Flow}
use Rattle.ledger.specs.declared.Packet.{Packet}
use Rattle.flow_table.specs.Words.{no_flow}
use Rattle.flow_table.specs.Lent.{value_from, with_record}
use Rattle.flow_table.specs.declared.lent.Flows.{Flows}
use Rattle.sender.specs.Named.{has_room}
use Rattle.sender.specs.declared.Send.{Send}
use Rattle.context.specs.Context.{Context, flow_count, cap_in}
use Rattle.context.specs.Look.{packet_in}
use Rattle.context.specs.declared.Controller.{Controller}
use Rattle.plan.specs.Plan.{planned_at}
use Rattle.plan.specs.declared.Planned.{Planned}
use Rattle.plan.specs.declared.ahead.Ahead.{Ahead}

-- a flow's record by value
abbrev pub flow_by : Ahead → ℕ → Flow
flow_by s k = get_or s.flows.at k no_flow

-- before the first send
unfoldable pub ahead_of : Context → Ahead
ahead_of x = record { flows = value_from (flow_count x) x.flows; in_flight = x.state.totals.in_flight }

-- a flow's record once it sent a new packet of so many bytes
unfoldable pub pushed : ℕ → Flow → Flow
pushed size f = record { low = f.low; next = plus f.next 1; held = f.held; backlog = f.backlog - size }

unfoldable pub flows_after : Flows → Planned → Flows
flows_after fs p =
    if_so p.send.resend fs (with_record fs p.flow (pushed p.send.size (get_or fs.at p.flow no_flow)))

-- after a send that is accepted
unfoldable pub ahead_after : Ahead → Planned → Ahead
ahead_after s p = record { flows = flows_after s.flows p; in_flight = s.in_flight +ℤ pos p.send.size }

-- a send again of this packet
unfoldable pub is_again : Planned → ℕ → ℕ → Bool
is_again p k psn = p.send.resend && eqb p.flow k && eqb p.send.psn psn

-- one of a plan's first n sends is
unfoldable pub again_to : List ℕ → ℕ → ℕ → ℕ → Bool
again_to ws zero k psn = false
again_to ws (suc n) k psn = again_to ws n k psn || is_again (planned_at ws n) k psn

-- a packet that waits to be sent again, of this size
unfoldable pub waits_as : ℕ → Packet → Bool
waits_as size x = is_marked x && eqb size x.size

-- "a resend's PSN is not marked, or its size differs from the record" (8): as it was handed in, or once the plan has sent it again
unfoldable pub again_number : Context → List ℕ → ℕ → ℕ → Send → ℕ
again_number x ws i k a = if_so (waits_as a.size (packet_in k a.psn x) && not (again_to ws i k a.psn)) 0 8

-- a number that is given already, or 6 where there is no room
unfoldable pub room_then : Controller → ℤ → ℕ → ℕ
room_then c z n = if_eq n 0 (if_so (has_room c.settings.mtu c.window.cwnd z) 0 6) n

-- the number of a plan's send i: 25, 4, 8, 5, 7, 6
unfoldable pub ahead_number : Context → List ℕ → ℕ → Ahead → Planned → ℕ
ahead_number x ws i s p =
    let a = p.send in
    if_lt p.flow (flow_count x)
    (if_so (inside size_least a.size x.state.settings.mtu)
    (room_then x.state s.in_flight
    (if_so a.resend (again_number x ws i p.flow a) (first_of (new_rows (flow_by s p.flow) (cap_in x) a.psn a.size))))
    4)
    25
