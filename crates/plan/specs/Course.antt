-- What the planner keeps beside what the judge keeps: of each flow its record as it was handed in, with low at the first packet that the
-- plan has not sent again yet, and the turn. A choice and its send are told by these.
-- Assumes nothing.
use Rattle.std.specs.Prelude.{Bool, true, false, not, ◌&&◌, ℕ, zero, suc, ◌+◌, ◌-◌, ◌%◌, ltb, eqb, get_or, Option, Some, None}
use Rattle.rules.specs.Branch.{if_so, if_eq, if_lt}
use Rattle.serial.specs.Psn.{plus}
use Rattle.ledger.specs.Ring.{long_of}
use Rattle.ledger.specs.declared.Flow.{Flow}
use Rattle.flow_table.specs.Words.{no_flow}
use Rattle.flow_table.specs.Lent.{no_flows, with_record}
use Rattle.flow_table.specs.declared.lent.Flows.{Flows}
use Rattle.sender.specs.Named.{has_room}
use Rattle.context.specs.Context.{Context, flow_count, flow_in}
use Rattle.context.specs.Look.{packet_in, marked_from}
use Rattle.context.specs.declared.Controller.{Controller}
use Rattle.plan.specs.Ahead.{flow_by, ahead_of, ahead_after}
use Rattle.plan.specs.declared.Planned.{Planned}
use Rattle.plan.specs.declared.course.Course.{Course}

-- flow k's record, with low at its first marked packet from a PSN on; at next where there is none
unfoldable pub waiting_from : ℕ → ℕ → Context → Flow
waiting_from k psn x =
    let f = flow_in x k in
    record { low = marked_from k psn x; next = f.next; held = f.held; backlog = f.backlog }

-- those of the first n flows, from low on
unfoldable pub waits_to : Context → ℕ → Flows
waits_to x zero = no_flows (flow_count x)
waits_to x (suc n) = with_record (waits_to x n) n (waiting_from n (flow_in x n).low x)

-- before the first send
unfoldable pub course_of : Context → Course
course_of x = record { ahead = ahead_of x; waits = waits_to x (flow_count x); turn = x.state.turn }

abbrev pub wait_by : Course → ℕ → Flow
wait_by s k = get_or s.waits.at k no_flow

-- ---- a choice

-- flow k is ready: a packet waits to be sent again, or else there is backlog, and a slot for a new packet
unfoldable pub ready_by : ℕ → Course → ℕ → Bool
ready_by cap s k =
    let f = flow_by s.ahead k in
    if_eq (wait_by s k).low (wait_by s k).next (ltb 0 f.backlog && not (eqb (long_of f) cap)) true

-- the first of n flows from k on that is; k + n where none is
unfoldable pub first_from : (ℕ → Bool) → ℕ → ℕ → ℕ
first_from ready k zero = k
first_from ready k (suc n) = if_so (ready k) k (first_from ready (suc k) n)

-- flow k, if it is one of the first n: where nobody is ready, k is none
abbrev pub flow_below : ℕ → ℕ → Option ℕ
flow_below n k = if_lt k n (Some k) None

-- who is named of n flows, n where nobody is: the flows from the turn on, then those before it
unfoldable pub named_by : Controller → ℕ → ℕ → Course → ℕ
named_by c cap n s =
    let a = first_from (ready_by cap s) s.turn (n - s.turn) in
    let b = first_from (ready_by cap s) 0 s.turn in
    if_so (has_room c.settings.mtu c.window.cwnd s.ahead.in_flight) (if_lt a n a (if_lt b s.turn b n)) n

-- ---- its send

unfoldable pub send_by : Context → Course → ℕ → ℕ → Planned
send_by x s size k =
    let psn = (wait_by s k).low in
    if_eq psn (wait_by s k).next
    (record { flow = k; send = record { psn = (flow_by s.ahead k).next; size = size; resend = false } })
    (record { flow = k; send = record { psn = psn; size = (packet_in k psn x).size; resend = true } })

-- after it: where it was sent again, the flow's next packet that waits stands behind it
unfoldable pub waits_after : Context → Flows → Planned → Flows
waits_after x fs p = if_so p.send.resend (with_record fs p.flow (waiting_from p.flow (plus p.send.psn 1) x)) fs

unfoldable pub course_after : Context → Course → Planned → Course
course_after x s p =
    record {
      ahead = ahead_after s.ahead p;
      waits = waits_after x s.waits p;
      turn = (p.flow + 1) % flow_count x;
    }
