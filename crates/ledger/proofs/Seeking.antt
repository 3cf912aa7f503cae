-- The first marked packet, by the marked bits.
-- Assumes nothing.
use Rattle.std.proofs.Common.{◌≡◌, ℕ, suc, ◌+◌, ◌-◌, ◌*◌, ◌<◌, ◌≤◌, Bool, true, false, eqb, List, [], ◌∷◌, length, get_or, drop, sym, refl, ap, ◌∙◌, arith, length-drop, get_or-drop}
use Rattle.rules.specs.Branch.{if_so, lt_yes, lt_no}
use Rattle.bits.specs.Bits.{word_bits, bit_at, lowest}
use Rattle.bits.proofs.Words.{lowest_same}
use Rattle.serial.specs.Psn.{psns, plus}
use Rattle.serial.proofs.Cover.{plus_minus}
use Rattle.ledger.specs.Packets.{marked_status, done_status, no_packet, is_marked}
use Rattle.ledger.specs.Ring.{place_of, long_of, offset_of, packets, packet_at}
use Rattle.ledger.specs.Memory.{Memory, slots_of, in_window, status_of, shown, ledger_shown}
use Rattle.ledger.specs.Seek.{unmarked_run, next_marked_of}
use Rattle.ledger.specs.Sound.{SoundLedger}
use Rattle.ledger.specs.declared.Flow.{Flow}
use Rattle.ledger.specs.declared.Totals.{Totals}
use Rattle.ledger.specs.declared.Packet.{Packet}
use Rattle.ledger.proofs.Geometry.{cap_facts, place_lt, place_plus, queue_at}
use Rattle.ledger.proofs.Facts.{sound_ledger_facts, packets_long}
use Rattle.ledger.proofs.Shows.{slots_even, shown_cap, shown_at, status_is}
use Rattle.ledger.proofs.Keeping.{sound_lengths, sound_words}

unmarked_lowest : (xs : List Packet) → unmarked_run xs ≡ lowest (λ k. is_marked (get_or xs k no_packet)) (length xs)
unfolding unmarked_run lowest
unmarked_lowest [] = refl
unmarked_lowest (x ∷ xs) = ap (λ (n : ℕ). if_so (is_marked x) 0 (suc n)) (unmarked_lowest xs)

-- a status that a slot may have is marked exactly if its marked bit is set
marked_tells : (live out mark : Bool) → status_of live out mark ≤ done_status → eqb (status_of live out mark) marked_status ≡ mark
unfolding status_of if_so
marked_tells live true true h = refl
marked_tells live true false h = refl
marked_tells live false true h = absurd (omega arith)
marked_tells true false false h = refl
marked_tells false false false h = refl

module _ (f : Flow) (t : Totals) (m : Memory) (c : SoundLedger (ledger_shown f t m)) where
  pub packets_fit : long_of f ≤ length m.marked * word_bits
  packets_fit =
      let L = sound_lengths f t m c in
      omega (arith, (sound_ledger_facts c).fits, shown_cap f.low f.next m, slots_even m L, L.marked)

  -- the packet k after low
  marked_bit : (k : ℕ) → k < long_of f
      → is_marked (get_or (packets f (shown f.low f.next m)) k no_packet) ≡ bit_at m.marked (place_of (slots_of m) f.low k)
  unfolding is_marked packets
  marked_bit k h =
      let L = sound_lengths f t m c in
      let W = sound_words f t m c in
      let r = shown f.low f.next m in
      let F = sound_ledger_facts c in
      let e = shown_cap f.low f.next m in
      let i = place_of (slots_of m) f.low k in
      let l : i < slots_of m = place_lt (slots_of m) (cap_facts (slots_of m) (rw (sym e) F.cap)) f.low k in
      let x : (get_or (packets f r) k no_packet).status ≡ status_of (in_window (slots_of m) f.low f.next i) (bit_at m.outstanding i)
      (bit_at m.marked i) =
      ap (λ (y : Packet). y.status) (queue_at r f.low (long_of f) k h ∙ ap (λ (n : ℕ). packet_at r (place_of n f.low k)) e
      ∙ shown_at f.low f.next m i l)
      ∙ status_is f.low f.next m i L W l in
      ap (λ (s : ℕ). eqb s marked_status) x
      ∙ marked_tells _ (bit_at m.outstanding i) (bit_at m.marked i) (rw (sym x) (F.live k h).status_most)

  module _ (psn : ℕ) (fits : psn < psns) where
    -- the k-th slot from the PSN's on
    slot_on : (cap k : ℕ) → place_of cap f.low (offset_of f psn + k) ≡ place_of cap psn k
    unfolding offset_of
    slot_on cap k =
        sym (place_plus cap f.low (offset_of f psn) k) ∙ ap (λ (p : ℕ). place_of cap p k) (plus_minus f.low psn fits)

    pub next_there : offset_of f psn < long_of f → (run r : ℕ)
        → run ≡ lowest (λ k. bit_at m.marked (place_of (length m.marked * word_bits) psn k)) (long_of f - offset_of f psn)
        → r ≡ plus psn run → r ≡ next_marked_of f (shown f.low f.next m) psn
    unfolding next_marked_of
    next_there h run r e g =
        let L = sound_lengths f t m c in
        let o = offset_of f psn in
        let xs = packets f (shown f.low f.next m) in
        let n : length (drop o xs) ≡ long_of f - o = length-drop o xs ∙ ap (λ (k : ℕ). k - o) (packets_long f _) in
        let cap : slots_of m ≡ length m.marked * word_bits = slots_even m L ∙ ap (λ (k : ℕ). k * word_bits) (sym L.marked) in
        lt_yes o (long_of f) r _ _ h
        (g
        ∙ ap (plus psn)
        (e
        ∙ lowest_same _ (λ k. is_marked (get_or (drop o xs) k no_packet)) (long_of f - o)
        (λ k l.
        sym (ap is_marked (get_or-drop o xs k no_packet) ∙ marked_bit (o + k) (omega arith)
        ∙ ap (bit_at m.marked) (ap (λ (x : ℕ). place_of x f.low (o + k)) cap ∙ slot_on (length m.marked * word_bits) k)))
        ∙ ap (lowest (λ k. is_marked (get_or (drop o xs) k no_packet))) (sym n)
        ∙ sym (unmarked_lowest (drop o xs))))

    pub next_none : long_of f ≤ offset_of f psn → f.next ≡ next_marked_of f (shown f.low f.next m) psn
    unfolding next_marked_of
    next_none h = lt_no (offset_of f psn) (long_of f) f.next _ _ h refl
