-- What the parts of an ACK's ledger step ask of the lent slices, and what they leave.
-- Assumes nothing.
use Rattle.std.specs.Prelude.{◌≡◌, ℕ, ◌+◌, ◌-◌, ◌*◌, ◌<◌, ◌≤◌, Bool, true, false, ◌&&◌, ◌⊎◌, List, length, drop, slice_index}
use Rattle.rules.specs.Branch.{if_so}
use Rattle.bits.specs.Bits.{word_bits, bit, bit_at, count_in, sum_to}
use Rattle.serial.specs.Wrap.{minus}
use Rattle.serial.specs.Psn.{psns, reach, plus, covered}
use Rattle.ledger.specs.Packets.{no_packet, flying_one, marked_one, marked_size, sum_of, cover_all, covered_sum, done_run}
use Rattle.ledger.specs.Ring.{Ring, Ledger, cap_of, packet_at, place_of, laid, queue_of, long_of, packets}
use Rattle.ledger.specs.Memory.{Memory, size_in, shown, Words}
use Rattle.ledger.specs.Sound.{Lengths}
use Rattle.ledger.specs.declared.Flow.{Flow}
use Rattle.ledger.specs.declared.Totals.{Totals}

-- ---- one word

-- the sizes of a word's slots at whose bits a test holds, added up
unfoldable pub sizes_of : (ℕ → Bool) → List ℕ → ℕ → ℕ
sizes_of f sizes q = sum_to (λ j. if_so (f j) (size_in (slice_index sizes (q * word_bits + j))) 0) word_bits

-- the marked bytes that a mask covers of a word
unfoldable pub bytes_in : ℕ → ℕ → List ℕ → ℕ → ℕ
bytes_in mark mask sizes q = sizes_of (λ j. bit mark j && bit mask j) sizes q

-- the totals once the packets that a mask covers have left: `out` and `mark` are their word's bits
unfoldable pub lessened : ℕ → ℕ → ℕ → List ℕ → ℕ → Totals → Totals
lessened out mark mask sizes q t =
    record {
      flying = t.flying - (count_in out mask - count_in mark mask);
      marked = t.marked - count_in mark mask;
      marked_bytes = t.marked_bytes - bytes_in mark mask sizes q;
      backlog = t.backlog;
      in_flight = t.in_flight;
    }

-- they are among those that the totals count
pub record Counted (out mark mask : ℕ) (sizes : List ℕ) (q : ℕ) (t : Totals) : Type 0 where
  pub waiting : count_in mark mask ≤ count_in out mask
  pub flying : count_in out mask ≤ t.flying + count_in mark mask
  pub marked : count_in mark mask ≤ t.marked
  pub bytes : bytes_in mark mask sizes q ≤ t.marked_bytes

-- ---- the memory

abbrev pub slots : Memory → ℕ
slots m = length m.outstanding * word_bits

-- even lengths and words of 64 bits; the packets low..next-1 have a slot each, those marked are outstanding, and the other slots are empty
pub record Standing (m : Memory) (f : Flow) : Type 0 where
  pub lengths : Lengths m
  pub words : Words m
  pub fits : long_of f ≤ slots m
  pub marks : (k : ℕ) → k < long_of f → bit_at m.marked (place_of (slots m) f.low k) ≡ true
      → bit_at m.outstanding (place_of (slots m) f.low k) ≡ true
  pub empty : (k : ℕ) → long_of f ≤ k → k < slots m → packet_at (shown f.low f.next m) (place_of (slots m) f.low k) ≡ no_packet

-- what the covering relies on: the ACK covers none of the packets from `far` on nor of the 64 PSNs behind next, the packets looked at don't
-- come into cum's reach from behind, and the packets are among those that the totals count
pub record Reached (m : Memory) (f : Flow) (t : Totals) (far cum map : ℕ) : Type 0 where
  pub within : far ≤ long_of f
  pub beyond : (j : ℕ) → far ≤ j → j < long_of f + word_bits → covered cum map (plus f.low j) ≡ false
  pub near : (k : ℕ) → k < far → (minus psns cum (plus f.low k) ≤ reach) ⊎ (reach + word_bits ≤ minus psns cum (plus f.low k))
  pub flying : sum_of flying_one (packets f (shown f.low f.next m)) ≤ t.flying
  pub marked : sum_of marked_one (packets f (shown f.low f.next m)) ≤ t.marked
  pub bytes : sum_of marked_size (packets f (shown f.low f.next m)) ≤ t.marked_bytes

-- the covered packets are done and have left the totals
pub record Covered (l : Ledger) (cum map : ℕ) (t : Totals) (r : Ring) : Type 0 where
  pub ring_is : r ≡ laid (cap_of l.slots) l.flow.low (cover_all (covered cum map) l.flow.low (packets l.flow l.slots))
  pub flying : t.flying ≡ l.totals.flying - covered_sum flying_one (covered cum map) l.flow.low (packets l.flow l.slots)
  pub marked : t.marked ≡ l.totals.marked - covered_sum marked_one (covered cum map) l.flow.low (packets l.flow l.slots)
  pub bytes : t.marked_bytes ≡ l.totals.marked_bytes - covered_sum marked_size (covered cum map) l.flow.low
      (packets l.flow l.slots)
  pub backlog : t.backlog ≡ l.totals.backlog
  pub in_flight : t.in_flight ≡ l.totals.in_flight

-- the first `gone` packets, all done, have left, and the next is not done
pub record Retired (r : Ring) (low n gone : ℕ) (after : Ring) : Type 0 where
  pub run : gone ≡ done_run (queue_of r low n)
  pub ring_is : after ≡ laid (cap_of r) (plus low gone) (drop gone (queue_of r low n))
