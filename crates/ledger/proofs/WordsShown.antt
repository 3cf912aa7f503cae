-- What the slots of a memory that stands show, by the two bits of each: in the order of the packets, and behind them.
-- Assumes nothing.
use Rattle.std.proofs.Common.{◌≡◌, ℕ, ◌+◌, ◌<◌, ◌≤◌, Bool, true, false, not, ◌&&◌, List, length, get_or, refl, ap, ◌∙◌, arith, le-ltb, lt-ltb}
use mathlib.Core.Bool.{false≢true}
use Rattle.rules.specs.Branch.{if_so, if_eq}
use Rattle.bits.specs.Bits.{bit_at, one}
use Rattle.serial.specs.Wrap.{minus}
use Rattle.serial.specs.Psn.{psns}
use Rattle.ledger.specs.Packets.{done_status, no_packet, is_flying, is_marked, is_out, flying_one, marked_one, marked_size, cover_one}
use Rattle.ledger.specs.Ring.{cap_of, age_of, place_of, packet_at, long_of, packets}
use Rattle.ledger.specs.Memory.{Memory, memory, slots_of, size_in, resent_in, in_window, status_of, status_at, shown, Words}
use Rattle.ledger.specs.Sound.{Lengths}
use Rattle.ledger.specs.Delivery.{slots, Standing}
use Rattle.ledger.specs.declared.Flow.{Flow}
use Rattle.ledger.specs.declared.Packet.{Packet}
use Rattle.ledger.proofs.Geometry.{Cap, cap_facts, place_lt, age_place, queue_at}
use Rattle.ledger.proofs.Shows.{slots_even, shown_cap, shown_at, status_is}

-- what slot i shows, by its bits
abbrev pub slot_shown : Memory → ℕ → Bool → Bool → Bool → Packet
slot_shown m i live out mark =
    record {
      status = status_of live out mark;
      size = size_in (get_or m.sizes i 0);
      sent = get_or m.sent i 0;
      resent = resent_in (get_or m.sizes i 0);
    }

module _ (low next : ℕ) {m : Memory} (L : Lengths m) where
  pub even_cap : cap_of (shown low next m) ≡ slots m
  even_cap = shown_cap low next m ∙ slots_even m L

  module _ (W : Words m) where
    pub slot_shows : (i : ℕ) → i < slots m
        → packet_at (shown low next m) i
        ≡ slot_shown m i (in_window (slots m) low next i) (bit_at m.outstanding i) (bit_at m.marked i)
    slot_shows i h =
        let e = slots_even m L in
        let l : i < slots_of m = omega (arith, e) in
        let status : status_at low next m i ≡ status_of (in_window (slots m) low next i) (bit_at m.outstanding i) (bit_at m.marked i) =
        status_is low next m i L W l
        ∙ ap (λ (n : ℕ). status_of (in_window n low next i) (bit_at m.outstanding i) (bit_at m.marked i)) e in
        shown_at low next m i l ∙ rw status

-- other sizes and send times of the same lengths
module _ {a b c d e g : List ℕ} where
  pub lengths_kept : Lengths (memory a b c d) → length e ≡ length c → length g ≡ length d → Lengths (memory a b e g)
  lengths_kept L h k = record { cap = L.cap; marked = L.marked; sizes = h ∙ L.sizes; sent = k ∙ L.sent }

  pub words_kept : Words (memory a b c d) → Words (memory a b e g)
  words_kept W = record { outstanding = W.outstanding; marked = W.marked }

-- ---- the packet k after low

pub in_window_lem : (cap low next i : ℕ) → age_of cap low i < minus psns next low → in_window cap low next i ≡ true
unfolding in_window
in_window_lem cap low next i h = lt-ltb (age_of cap low i) (minus psns next low) h

pub out_window : (cap low next i : ℕ) → minus psns next low ≤ age_of cap low i → in_window cap low next i ≡ false
unfolding in_window
out_window cap low next i h = le-ltb (age_of cap low i) (minus psns next low) h

-- the packet k of a flow whose packets have a slot each, in a memory of even lengths and words of 64 bits
module _ {m : Memory} (f : Flow) (L : Lengths m) (k : ℕ) (h : k < long_of f) where
  abbrev place : ℕ
  place = place_of (slots m) f.low k

  pub live_bits : Words m → long_of f ≤ slots m
      → packet_at (shown f.low f.next m) place ≡ slot_shown m place true (bit_at m.outstanding place) (bit_at m.marked place)
  unfolding long_of
  live_bits W fits =
      let C = cap_facts (slots m) L.cap in
      let e : age_of (slots m) f.low place ≡ k = age_place (slots m) C f.low k (omega arith) in
      slot_shows f.low f.next L W place (place_lt (slots m) C f.low k)
      ∙ ap (λ (b : Bool). slot_shown m place b (bit_at m.outstanding place) (bit_at m.marked place))
      (in_window_lem (slots m) f.low f.next place (omega arith))

  -- it is the packet of the queue
  pub live_packet : get_or (packets f (shown f.low f.next m)) k no_packet ≡ packet_at (shown f.low f.next m) place
  unfolding packets
  live_packet =
      queue_at (shown f.low f.next m) f.low (long_of f) k h
      ∙ ap (λ (c : ℕ). packet_at (shown f.low f.next m) (place_of c f.low k)) (even_cap f.low f.next L)

module _ {m : Memory} {f : Flow} (S : Standing m f) where
  pub caps : Cap (slots m)
  caps = cap_facts (slots m) S.lengths.cap

  -- a packet's slot
  abbrev pub slot_of : ℕ → ℕ
  slot_of k = place_of (slots m) f.low k

  pub slot_lt : (k : ℕ) → slot_of k < slots m
  slot_lt k = place_lt (slots m) caps f.low k

  pub age_of_lem : (k : ℕ) → k < slots m → age_of (slots m) f.low (slot_of k) ≡ k
  age_of_lem k h = age_place (slots m) caps f.low k h

  pub live_shows : (k : ℕ) → k < long_of f
      → packet_at (shown f.low f.next m) (slot_of k)
      ≡ slot_shown m (slot_of k) true (bit_at m.outstanding (slot_of k)) (bit_at m.marked (slot_of k))
  live_shows k h = live_bits f S.lengths k h S.words S.fits

  pub packet_at_lem : (k : ℕ) → k < long_of f → get_or (packets f (shown f.low f.next m)) k no_packet
      ≡ packet_at (shown f.low f.next m) (slot_of k)
  packet_at_lem k h = live_packet f S.lengths k h

-- ---- one slot's bits, where a marked packet is outstanding

module _ (m : Memory) (i : ℕ) where
  pub out_adds : (out mark hit : Bool) → (mark ≡ true → out ≡ true)
      → one (out && hit) ≡ if_so hit (flying_one (slot_shown m i true out mark)) 0 + if_so hit (marked_one (slot_shown m i true out mark)) 0
  unfolding one if_so if_eq flying_one marked_one status_of
  out_adds true true true h = refl
  out_adds true false true h = refl
  out_adds false true true h = absurd (false≢true (h refl))
  out_adds false false true h = refl
  out_adds true mark false h = refl
  out_adds false mark false h = refl

  pub mark_adds : (out mark hit : Bool) → (mark ≡ true → out ≡ true)
      → one (mark && hit) ≡ if_so hit (marked_one (slot_shown m i true out mark)) 0
  unfolding one if_so if_eq marked_one status_of
  mark_adds true true true h = refl
  mark_adds true false true h = refl
  mark_adds false true true h = absurd (false≢true (h refl))
  mark_adds false false true h = refl
  mark_adds out true false h = refl
  mark_adds out false false h = refl

  pub bytes_add : (out mark hit : Bool) → (mark ≡ true → out ≡ true)
      → if_so (mark && hit) (size_in (get_or m.sizes i 0)) 0 ≡ if_so hit (marked_size (slot_shown m i true out mark)) 0
  unfolding one if_so if_eq marked_size status_of
  bytes_add true true true h = refl
  bytes_add true false true h = refl
  bytes_add false true true h = absurd (false≢true (h refl))
  bytes_add false false true h = refl
  bytes_add out true false h = refl
  bytes_add out false false h = refl

  -- "Covered flying or marked packets become done": neither bit is left
  pub cover_shows : (out mark hit : Bool) → (mark ≡ true → out ≡ true)
      → slot_shown m i true (out && not hit) (mark && not hit) ≡ cover_one hit (slot_shown m i true out mark)
  unfolding if_so cover_one is_out is_flying is_marked status_of
  cover_shows true true true h = refl
  cover_shows true false true h = refl
  cover_shows false true true h = absurd (false≢true (h refl))
  cover_shows false false true h = refl
  cover_shows true true false h = refl
  cover_shows true false false h = refl
  cover_shows false true false h = refl
  cover_shows false false false h = refl

-- a status of number 2's three has no mark without an outstanding bit
pub mark_out : (out mark : Bool) → status_of true out mark ≤ done_status → mark ≡ true → out ≡ true
unfolding status_of if_so
mark_out true mark h e = refl
mark_out false true h e = absurd (omega arith)
mark_out false false h e = e
