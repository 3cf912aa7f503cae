-- The state's name. Document 01, "The ledger": "No backlog and nothing marked: IDLE if nothing flies, else PENDING. Otherwise READY if
-- in-flight + MTU is at most cwnd, else ACTIVE."
-- Assumes nothing.
use Rattle.std.specs.Prelude.{Bool, ◌&&◌, ℕ, eqb, ℤ, pos, ◌+ℤ◌}
use Rattle.std.specs.Int.Signed.{le_z}
use Rattle.rules.specs.Branch.{if_so, if_eq}
use Rattle.ledger.specs.declared.Totals.{Totals}

-- "in-flight + MTU is at most cwnd"
unfoldable pub has_room : ℕ → ℕ → ℤ → Bool
has_room mtu cwnd in_flight = le_z (in_flight +ℤ pos mtu) (pos cwnd)

-- the names as numbers
abbrev pub idle : ℕ
idle = 0

abbrev pub pending : ℕ
pending = 1

abbrev pub ready : ℕ
ready = 2

abbrev pub active : ℕ
active = 3

-- over all flows (request M-107): the totals tell
unfoldable pub phase_of : ℕ → ℕ → Totals → ℕ
phase_of mtu cwnd t =
    if_so (eqb t.backlog 0 && eqb t.marked 0)
    (if_eq t.flying 0 idle pending)
    (if_so (has_room mtu cwnd t.in_flight) ready active)
