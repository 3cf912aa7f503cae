-- The ledger's part of refusal 2: "Number 2 is: bad lengths; .. numbers outside the bounds here; .. next - low (modulo 2^32) over
-- capacity; a slot in low..next-1 that isn't flying, marked or done, or has size outside 41..MTU, send time past the clock or
-- resend count over 2; another slot not all zero; low done while low and next differ; totals of flying packets, marked packets or
-- marked bytes that differ from the ring's".
-- Assumes nothing.
use Rattle.std.specs.Prelude.{◌≡◌, ℕ, zero, suc, ◌+◌, ◌*◌, ◌^◌, ◌<◌, ◌≤◌, Bool, true, not, ◌&&◌, ◌||◌, List, length, ◌==◌, nat_le, nat_lt}
use Rattle.rules.specs.Branch.{if_lt}
use Rattle.rules.specs.Test.{inside}
use Rattle.bits.specs.Bits.{word_bits, bit_at}
use Rattle.serial.specs.Psn.{psns}
use Rattle.serial.specs.Count.{counts}
use Rattle.ledger.specs.Packets.{flying_status, done_status, is_done, flying_one, marked_one, marked_size, sum_of}
use Rattle.ledger.specs.Bounds.{size_least, resent_most, backlog_most, in_bounds, Flown}
use Rattle.ledger.specs.Ring.{Ring, Ledger, cap_of, packet_at, place_of, long_of, packets}
use Rattle.ledger.specs.Memory.{Memory, slots_of, in_window}
use Rattle.ledger.specs.declared.Flow.{Flow}
use Rattle.ledger.specs.declared.Totals.{Totals}
use Rattle.ledger.specs.declared.Packet.{Packet}

-- a test that holds at each of 0 .. n - 1
unfoldable pub all_to : (ℕ → Bool) → ℕ → Bool
all_to f zero = true
all_to f (suc n) = all_to f n && f n

-- "capacity a power of two, 64..4,096"
unfoldable pub is_capacity : ℕ → Bool
is_capacity n = n == 64 || n == 128 || n == 256 || n == 512 || n == 1024 || n == 2048 || n == 4096

-- four slices of one length, a capacity
unfoldable pub is_ring : Ring → Bool
is_ring r =
    is_capacity (cap_of r)
    && length r.size == cap_of r
    && length r.sent == cap_of r
    && length r.resent == cap_of r

-- the same of the memory: as many slots of each kind as there are bits
unfoldable pub is_even : Memory → Bool
is_even m = is_capacity (slots_of m) && length m.sizes == slots_of m && length m.sent == slots_of m

-- the bits, in the words of number 2 over the memory: "a marked bit without an outstanding one, or a bit outside low..next-1" is none
unfoldable pub bits_at : ℕ → ℕ → Memory → ℕ → Bool
bits_at low next m i =
    not (bit_at m.marked i && not (bit_at m.outstanding i))
    && (in_window (slots_of m) low next i || not (bit_at m.outstanding i || bit_at m.marked i))

unfoldable pub bits_ok : ℕ → ℕ → Memory → Bool
bits_ok low next m = all_to (bits_at low next m) (slots_of m)

-- a slot in low..next-1
unfoldable pub is_live : ℕ → ℕ → Packet → Bool
is_live mtu clock x =
    inside flying_status x.status done_status
    && inside size_least x.size mtu
    && nat_le x.sent clock
    && nat_le x.resent resent_most

-- another slot
unfoldable pub is_zero : Packet → Bool
is_zero x = x.status == 0 && x.size == 0 && x.sent == 0 && x.resent == 0

-- the slot k after low, of which the first n are low..next-1
unfoldable pub slot_ok : ℕ → ℕ → Ring → ℕ → ℕ → ℕ → Bool
slot_ok mtu clock r low n k =
    let x = packet_at r (place_of (cap_of r) low k) in
    if_lt k n (is_live mtu clock x) (is_zero x)

-- low is not done while low and next differ
unfoldable pub head_ok : Ring → ℕ → ℕ → Bool
head_ok r low n = n == 0 || not (is_done (packet_at r (place_of (cap_of r) low 0)))

-- a flow and its ring: lengths, the window of PSNs, every slot, the first one; and "numbers outside the bounds here": low and next, "PSN:
-- 32 bits"; the held count, "24 bits"; "Backlog at most 2^40"
unfoldable pub stands : ℕ → ℕ → Flow → Ring → Bool
stands mtu clock f r =
    is_ring r
    && nat_le (long_of f) (cap_of r)
    && all_to (slot_ok mtu clock r f.low (long_of f)) (cap_of r)
    && head_ok r f.low (long_of f)
    && nat_lt f.low psns
    && nat_lt f.next psns
    && nat_lt f.held counts
    && nat_le f.backlog backlog_most

-- request M-107: what the other flows of the context add to the totals, which are held once over all flows
pub record Others : Type 0 where
  pub flying : ℕ
  pub marked : ℕ
  pub bytes : ℕ
  pub backlog : ℕ

-- a flow by itself
abbrev pub alone : Others
alone = record { flying = 0; marked = 0; bytes = 0; backlog = 0 }

-- the totals are those of the packets and of the backlog, with what the other flows add, and in-flight is in its bounds
unfoldable pub tallies : ℕ → Others → Totals → Flow → List Packet → Bool
tallies maxwnd o t f xs =
    (t.flying == o.flying + sum_of flying_one xs)
    && t.marked == o.marked + sum_of marked_one xs
    && t.marked_bytes == o.bytes + sum_of marked_size xs
    && t.backlog == o.backlog + f.backlog
    && in_bounds maxwnd t.in_flight

-- the ledger of a flow among others holds together
unfoldable pub sound_ledger : ℕ → ℕ → ℕ → Others → Ledger → Bool
sound_ledger mtu maxwnd clock o l =
    stands mtu clock l.flow l.slots && tallies maxwnd o l.totals l.flow (packets l.flow l.slots)

-- the others are few enough for their sums to fit: seven flows of 4,096 packets
pub record Few (o : Others) : Type 0 where
  pub flying : o.flying < 2 ^ 30
  pub marked : o.marked < 2 ^ 30
  pub bytes : o.bytes < 2 ^ 60
  pub backlog : o.backlog < 2 ^ 60

-- four slices of one length, which is not 0 and at most 4,096
pub record Even (r : Ring) : Type 0 where
  pub some : 0 < cap_of r
  pub few : cap_of r ≤ 4096
  pub size : length r.size ≡ cap_of r
  pub sent : length r.sent ≡ cap_of r
  pub resent : length r.resent ≡ cap_of r

-- a memory of even lengths, as facts
pub record Lengths (m : Memory) : Type 0 where
  pub cap : is_capacity (length m.outstanding * word_bits) ≡ true
  pub marked : length m.marked ≡ length m.outstanding
  pub sizes : length m.sizes ≡ length m.outstanding * word_bits
  pub sent : length m.sent ≡ length m.outstanding * word_bits

-- What a step relies on, for some settings and clock: the flow and its ring hold together, the totals are at least those of its packets and
-- leave room, and in-flight is in its bounds. (At least and not equal: the totals may be over other packets too.)
pub record SoundLedger (l : Ledger) : Type 0 where
  pub mtu : ℕ
  pub maxwnd : ℕ
  pub clock : ℕ
  pub mtu_high : mtu ≤ 2 ^ 14
  pub maxwnd_high : maxwnd ≤ 2 ^ 26
  pub stands_so : stands mtu clock l.flow l.slots ≡ true
  pub flying_least : sum_of flying_one (packets l.flow l.slots) ≤ l.totals.flying
  pub flying_most : l.totals.flying < 2 ^ 31
  pub marked_least : sum_of marked_one (packets l.flow l.slots) ≤ l.totals.marked
  pub marked_most : l.totals.marked < 2 ^ 31
  pub bytes_least : sum_of marked_size (packets l.flow l.slots) ≤ l.totals.marked_bytes
  pub bytes_most : l.totals.marked_bytes < 2 ^ 62
  pub backlog_least : l.flow.backlog ≤ l.totals.backlog
  pub backlog_most_lem : l.totals.backlog < 2 ^ 62
  pub flown : Flown maxwnd l.totals.in_flight
