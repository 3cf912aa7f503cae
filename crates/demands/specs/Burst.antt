-- What demand 3 speaks of: a burst of ACKs, the newest among them, the order in which they arrive.
-- Assumes nothing.
use Rattle.std.specs.Prelude.{◌≡◌, ◌⊎◌, Bool, true, false, ◌&&◌, ◌||◌, ℕ, ◌≤◌, ◌<◌, eqb, get_or}
use mathlib.Core.List.{List, [], ◌∷◌, Memᴰ}
use Rattle.rules.specs.Branch.{if_lt}
use Rattle.serial.specs.Wrap.{minus}
use Rattle.serial.specs.Psn.{plus, covered}
use Rattle.serial.specs.Count.{counts, half}
use Rattle.ledger.specs.Packets.{no_packet, is_out, is_done}
use Rattle.ledger.specs.Ring.{Ledger, long_of, packets, packet_of, offset_of}
use Rattle.window.specs.Limits.{time_end}
use Rattle.sender.specs.World.{World, ring_of}
use Rattle.sender.specs.Events.{on_ack}
use Rattle.sender.specs.declared.Ack.{Ack}

-- an ACK as it arrives
pub record Arrival : Type 0 where
  pub time : ℕ
  pub ack : Ack

-- the world after a list of arrivals, with no other event between
abbrev pub deliver : World → List Arrival → World
deliver w [] = w
deliver w (d ∷ ds) = deliver (on_ack d.time d.ack w).after ds

-- "times never before the held clock nor going back, all below 2^48"
abbrev pub Timely : ℕ → List Arrival → Type 0
Timely clock [] = Unit {0}
Timely clock (d ∷ ds) = (clock ≤ d.time) × (d.time < time_end) × Timely d.time ds

-- the packet k after low is outstanding
pub record Outstanding (w : World) (k : ℕ) : Type 0 where
  pub within : k < long_of w.state.flow
  pub out : is_out (get_or (packets w.state.flow (ring_of w)) k no_packet) ≡ true

-- its PSN
abbrev pub psn_of : World → ℕ → ℕ
psn_of w k = plus w.state.flow.low k

abbrev pub covers_psn : Ack → ℕ → Bool
covers_psn a psn = covered a.cum a.map psn

-- "call one newest: accepted on its own at the start, its count not behind the count then held, every other count less than 2^23 units
-- behind it and none ahead, and each outstanding packet that another covers covered by it too"
pub record Newest (w : World) (at : ℕ) (newest : Ack) (others : List Ack) : Type 0 where
  pub accepted : (on_ack at newest w).number ≡ 0
  pub not_behind : minus counts newest.count w.state.flow.held < half
  pub others_behind : (a : Ack) → Memᴰ a others → minus counts newest.count a.count < half
  pub covers_too : (a : Ack) → Memᴰ a others → (k : ℕ) → Outstanding w k
      → covers_psn a (psn_of w k) ≡ true → covers_psn newest (psn_of w k) ≡ true

-- "in any order, with any of the others lost or doubled": every arrival is the newest or one of the others ..
abbrev pub Of : Ack → List Ack → List Arrival → Type 0
Of newest others ds = (d : Arrival) → Memᴰ d ds → (d.ack ≡ newest) ⊎ Memᴰ d.ack others

-- .. "the newest at least once"
abbrev pub Arrives : Ack → List Arrival → Type 0
Arrives newest ds = (d : Arrival) × (Memᴰ d ds) × (d.ack ≡ newest)

-- a PSN "counts as delivered": it lies outside low..next-1, or its packet is done
unfoldable pub is_delivered : Ledger → ℕ → Bool
is_delivered l psn = if_lt (offset_of l.flow psn) (long_of l.flow) (is_done (packet_of l.flow l.slots psn)) true

-- "an accepted acknowledgement covered it"
abbrev pub was_covered : World → List Arrival → ℕ → Bool
was_covered w [] psn = false
was_covered w (d ∷ ds) psn =
    (eqb (on_ack d.time d.ack w).number 0 && covers_psn d.ack psn) || was_covered (on_ack d.time d.ack w).after ds psn
