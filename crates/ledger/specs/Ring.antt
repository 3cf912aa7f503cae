-- The ring: a queue of packets laid over slots. "PSN p lives at p mod capacity."
-- Assumes nothing.
use Rattle.std.specs.Prelude.{ℕ, zero, suc, ◌+◌, ◌-◌, ◌%◌, List, [], ◌∷◌, length, slice_index, slice_index_or, slice_set}
use Rattle.serial.specs.Wrap.{minus}
use Rattle.serial.specs.Psn.{psns, plus}
use Rattle.ledger.specs.Packets.{no_packet}
use Rattle.ledger.specs.declared.Flow.{Flow}
use Rattle.ledger.specs.declared.Totals.{Totals}
use Rattle.ledger.specs.declared.Packet.{Packet}

-- the four lent slices
pub record Ring : Type 0 where
  pub status : List ℕ
  pub size : List ℕ
  pub sent : List ℕ
  pub resent : List ℕ

abbrev pub ring : List ℕ → List ℕ → List ℕ → List ℕ → Ring
ring a b c d = record { status = a; size = b; sent = c; resent = d }

-- what slot i says, and a slot overwritten
unfoldable pub packet_at : Ring → ℕ → Packet
packet_at r i =
    record {
      status = slice_index r.status i;
      size = slice_index r.size i;
      sent = slice_index r.sent i;
      resent = slice_index r.resent i;
    }

unfoldable pub put_at : Ring → ℕ → Packet → Ring
put_at r i x =
    ring (slice_set r.status i x.status) (slice_set r.size i x.size) (slice_set r.sent i x.sent) (slice_set r.resent i x.resent)

module _ {A : Type 0} where
  -- f 0, .., f (n - 1)
  unfoldable pub tabulate : (ℕ → A) → ℕ → List A
  tabulate f zero = []
  tabulate f (suc n) = f 0 ∷ tabulate (λ k. f (suc k)) n

-- the slot of the packet k after low
unfoldable pub place_of : ℕ → ℕ → ℕ → ℕ
place_of cap low k = plus low k % cap

-- the packet that slot i holds comes this many after low
unfoldable pub age_of : ℕ → ℕ → ℕ → ℕ
age_of cap low i = (i + (cap - low % cap)) % cap

-- one of the four slices, with a queue laid over it from low on, and 0 elsewhere
unfoldable pub lay : (Packet → ℕ) → ℕ → ℕ → List Packet → List ℕ
lay field cap low xs = tabulate (λ i. field (slice_index_or xs (age_of cap low i) no_packet)) cap

-- the ring that holds a queue from low on, and is empty elsewhere
unfoldable pub laid : ℕ → ℕ → List Packet → Ring
laid cap low xs =
    ring (lay (λ x. x.status) cap low xs) (lay (λ x. x.size) cap low xs) (lay (λ x. x.sent) cap low xs) (lay (λ x. x.resent) cap low xs)

-- and back: the n packets from low on, oldest first
unfoldable pub queue_of : Ring → ℕ → ℕ → List Packet
queue_of r low n = tabulate (λ k. packet_at r (place_of (length r.status) low k)) n

-- "The ledger is the ring, low, next, flying packets, marked packets and bytes, backlog, in-flight and the held count."
pub record Ledger : Type 0 where
  pub flow : Flow
  pub totals : Totals
  pub slots : Ring

abbrev pub ledger : Flow → Totals → Ring → Ledger
ledger f t r = record { flow = f; totals = t; slots = r }

abbrev pub cap_of : Ring → ℕ
cap_of r = length r.status

-- next - low
unfoldable pub long_of : Flow → ℕ
long_of f = minus psns f.next f.low

-- the packets low..next-1, oldest first
unfoldable pub packets : Flow → Ring → List Packet
packets f r = queue_of r f.low (long_of f)

-- which of them a PSN is
unfoldable pub offset_of : Flow → ℕ → ℕ
offset_of f psn = minus psns psn f.low

-- the packet of a PSN; none outside low..next-1
unfoldable pub packet_of : Flow → Ring → ℕ → Packet
packet_of f r psn = slice_index_or (packets f r) (offset_of f psn) no_packet
