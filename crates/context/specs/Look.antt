-- What firmware asks of flow k's ring, which it need not read itself (request M-109): 2 where state and buffers do not hold together, 25
-- where the flow is out of range, and else the answer.
-- Assumes nothing.
use Rattle.std.specs.Prelude.{ℕ}
use Rattle.rules.specs.Branch.{if_so, if_lt}
use Rattle.ledger.specs.Ring.{packet_of}
use Rattle.ledger.specs.Seek.{next_marked_of}
use Rattle.ledger.specs.declared.Packet.{Packet}
use Rattle.sender.specs.Look.{Looked, looked}
use Rattle.context.specs.Context.{Context, flow_count, flow_in, ring_in}
use Rattle.context.specs.Sound.{sound_context}

unfoldable pub look_for : ℕ → ℕ → Context → Looked
look_for k found x = if_so (sound_context x) (if_lt k (flow_count x) (looked 0 found) (looked 25 0)) (looked 2 0)

-- the packet of a PSN of flow k
abbrev pub packet_in : ℕ → ℕ → Context → Packet
packet_in k psn x = packet_of (flow_in x k) (ring_in x k) psn

-- the status of a PSN
unfoldable pub on_status : ℕ → ℕ → Context → Looked
on_status k psn x = look_for k (packet_in k psn x).status x

-- flow k's first marked PSN from psn on
unfoldable pub marked_from : ℕ → ℕ → Context → ℕ
marked_from k psn x = next_marked_of (flow_in x k) (ring_in x k) psn

unfoldable pub on_next_marked : ℕ → ℕ → Context → Looked
on_next_marked k psn x = look_for k (marked_from k psn x) x
