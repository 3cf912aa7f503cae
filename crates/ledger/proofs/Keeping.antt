-- What is kept after a new packet, a resend and a mark: the memory that shows the definition's ring.
-- Assumes nothing.
use Rattle.std.proofs.Common.{◌≡◌, ℕ, ◌+◌, ◌-◌, ◌%◌, ◌<◌, min, Bool, true, false, List, length, get_or, set, ℤ, pos, ◌+ℤ◌, ◌-ℤ◌, sym, refl, ap, ◌∙◌, mod-lt, arith, le-ltb, lt-ltb}
use mathlib.Core.Logic.{by_cases}
use native.Mathlib.Decide.{dec_lt}
use Rattle.rules.specs.Branch.{if_so}
use Rattle.bits.specs.Bits.{put_bit}
use Rattle.serial.specs.Wrap.{minus}
use Rattle.serial.specs.Psn.{psns, plus}
use Rattle.ledger.specs.Bounds.{resent_most}
use Rattle.ledger.specs.Packets.{flying_status, is_flying, is_marked}
use Rattle.ledger.specs.Ring.{cap_of, place_of, age_of, long_of, offset_of, packet_at, packet_of}
use Rattle.ledger.specs.Memory.{
  Memory,
  memory,
  size_end,
  packed,
  size_in,
  resent_in,
  slots_of,
  in_window,
  status_of,
  status_at,
  shown,
  ledger_shown,
  kept,
  kept_of,
  Words,
}
use Rattle.ledger.specs.Sound.{is_capacity, Lengths, SoundLedger}
use Rattle.ledger.specs.Steps.{push_of, resend_of, mark_of}
use Rattle.ledger.specs.declared.Flow.{Flow}
use Rattle.ledger.specs.declared.Totals.{Totals}
use Rattle.ledger.specs.declared.Packet.{Packet}
use Rattle.ledger.proofs.Geometry.{Cap, cap_facts, place_psn, place_age, age_place, packet_here}
use Rattle.ledger.proofs.Facts.{sound_ledger_facts, packet_live, packet_some}
use Rattle.ledger.proofs.Shows.{
  slots_even,
  shown_cap,
  shown_at,
  status_is,
  stands_lengths,
  stands_words,
  packed_in,
  kept_is,
}
use Rattle.ledger.proofs.Puts.{in_window_lem, shown_put, flies_there, marked_there}
use Rattle.ledger.proofs.Sends.{long_more, push_is, resend_is, flies}
use Rattle.ledger.proofs.Marks.{mark_is}

-- a slot that shows a flying packet is outstanding
flying_out : (live out mark : Bool) → status_of live out mark ≡ flying_status → out ≡ true
unfolding status_of if_so
flying_out live true mark e = refl
flying_out live false true e = absurd (omega arith)
flying_out true false false e = absurd (omega arith)
flying_out false false false e = absurd (omega arith)

module _ (f : Flow) (t : Totals) (m : Memory) (c : SoundLedger (ledger_shown f t m)) where
  pub sound_lengths : Lengths m
  sound_lengths = stands_lengths c.mtu c.clock f m c.stands_so

  pub sound_words : Words m
  sound_words = stands_words c.mtu c.clock f m c.stands_so

  -- the code's count of slots
  pub times_cap : is_capacity (length m.sent) ≡ true
  times_cap = rw sound_lengths.sent sound_lengths.cap

  slots_long : slots_of m ≡ length m.sent
  slots_long = slots_even m sound_lengths ∙ sym sound_lengths.sent

  slots_cap : is_capacity (slots_of m) ≡ true
  slots_cap = rw slots_long times_cap

  C : Cap (slots_of m)
  C = cap_facts (slots_of m) slots_cap

  -- a PSN's slot
  module _ (psn i : ℕ) (ei : i ≡ psn % length m.sent) where
    pub slot_in : i < slots_of m
    slot_in = rw (ei, slots_long) (mod-lt psn (omega (arith, (cap_facts (length m.sent) times_cap).least)))

    slot_is : i ≡ psn % slots_of m
    slot_is = ei ∙ ap (λ (n : ℕ). psn % n) (sym slots_long)

    slot_ring : i ≡ psn % cap_of (shown f.low f.next m)
    slot_ring = slot_is ∙ ap (λ (n : ℕ). psn % n) (sym (shown_cap f.low f.next m))

  -- ---- a new packet

  module _ (room : long_of f < slots_of m) (i : ℕ) (ei : i ≡ f.next % length m.sent) where
    low_next : f.next < psns
    low_next = (sound_ledger_facts c).next_psn

    place_is : place_of (slots_of m) f.low (long_of f) ≡ i
    unfolding long_of
    place_is = place_psn (slots_of m) f.low f.next low_next ∙ sym (slot_is f.next i ei)

    age_is : age_of (slots_of m) f.low i ≡ long_of f
    age_is = ap (age_of (slots_of m) f.low) (sym place_is) ∙ age_place (slots_of m) C f.low (long_of f) room

    one_more : minus psns (plus f.next 1) f.low ≡ long_of f + 1
    unfolding long_of
    one_more = long_more f.low f.next (omega (arith, C.most, room))

    now_live : in_window (slots_of m) f.low (plus f.next 1) i ≡ true
    unfolding in_window
    now_live = lt-ltb (age_of (slots_of m) f.low i) (minus psns (plus f.next 1) f.low) (omega (arith, age_is, one_more))

    others : (j : ℕ) → j < slots_of m → (j ≡ i → ⊥)
        → in_window (slots_of m) f.low (plus f.next 1) j ≡ in_window (slots_of m) f.low f.next j
    unfolding in_window long_of
    others j l n =
        let a = age_of (slots_of m) f.low j in
        let apart : a ≡ long_of f → ⊥ =
        λ e. n (sym (place_age (slots_of m) C f.low j l) ∙ ap (place_of (slots_of m) f.low) e ∙ place_is) in
        let further = minus psns (plus f.next 1) f.low in
        let now = minus psns f.next f.low in
        by_cases (dec_lt a now)
        (λ h. lt-ltb a further (omega (arith, one_more)) ∙ sym (lt-ltb a now h))
        (λ h. by_cases (dec_lt now a)
        (λ k. le-ltb a further (omega (arith, one_more)) ∙ sym (le-ltb a now (omega arith)))
        (λ k. absurd (apart (omega arith))))

    pub push_kept : (time size next : ℕ) (z : ℤ) → size < size_end → next ≡ plus f.next 1 → z ≡ t.in_flight +ℤ pos size
        → (after : Memory)
        → after ≡ memory (put_bit m.outstanding i true) (put_bit m.marked i false) (set m.sizes i (packed size 0))
        (set m.sent i time)
        → kept (record { low = f.low; next = next; held = f.held; backlog = f.backlog - size })
        (record {
          flying = t.flying + 1;
          marked = t.marked;
          marked_bytes = t.marked_bytes;
          backlog = t.backlog - size;
          in_flight = z;
        }) after
        ≡ kept_of (push_of time size (ledger_shown f t m))
    push_kept time size next z small en ez after ea =
        let P = flies_there m sound_lengths sound_words i (slot_in f.next i ei) size time 0 in
        let F = sound_ledger_facts c in
        rw (ea, en)
        (kept_is _ _ _ _ P.lengths P.words
        (push_is c.mtu c.clock f (shown f.low f.next m) F (rw (shown_cap f.low f.next m) room) t time size i
        (plus f.next 1) z _ (slot_ring f.next i ei) refl ez
        (shown_put sound_lengths sound_words P (slot_in f.next i ei) f.low f.next (plus f.next 1)
        (omega arith) (omega arith) small now_live others)))

  -- ---- a packet that is there

  module _ (psn i : ℕ) (fits : psn < psns) (ei : i ≡ psn % length m.sent) (x : Packet)
      (ex : x ≡ packet_of f (shown f.low f.next m) psn) (some : 0 < x.status) where
    there : offset_of f psn < long_of f
    there = packet_some f (shown f.low f.next m) psn (rw (sym ex) some)

    live_there : in_window (slots_of m) f.low f.next i ≡ true
    live_there = ap (in_window (slots_of m) f.low f.next) (slot_is psn i ei) ∙ in_window_lem (slots_of m) slots_cap f psn fits there

    -- the slot says what the packet is
    slot_packet : x
        ≡ record {
          status = status_at f.low f.next m i;
          size = size_in (get_or m.sizes i 0);
          sent = get_or m.sent i 0;
          resent = resent_in (get_or m.sizes i 0);
        }
    slot_packet =
        ex
        ∙ packet_here f (shown f.low f.next m) psn fits there
        ∙ ap (packet_at (shown f.low f.next m)) (sym (slot_ring psn i ei))
        ∙ shown_at f.low f.next m i (slot_in psn i ei)

    small : x.size < size_end
    small =
        let live = packet_live c.mtu c.clock f (shown f.low f.next m) (sound_ledger_facts c) psn there in
        rw ex (omega (arith, live.size_most, c.mtu_high))

    -- sent again
    pub resend_kept : is_marked (packet_of f (shown f.low f.next m) psn) ≡ true → (time again : ℕ) (z : ℤ)
        → again ≡ min (x.resent + 1) resent_most → z ≡ t.in_flight +ℤ pos x.size
        → (after : Memory)
        → after ≡ memory (put_bit m.outstanding i true) (put_bit m.marked i false) (set m.sizes i (packed x.size again))
        (set m.sent i time)
        → kept f
        (record {
          flying = t.flying + 1;
          marked = t.marked - 1;
          marked_bytes = t.marked_bytes - x.size;
          backlog = t.backlog;
          in_flight = z;
        }) after
        ≡ kept_of (resend_of time psn (ledger_shown f t m))
    resend_kept marked time again z ea ez after es =
        let P = flies_there m sound_lengths sound_words i (slot_in psn i ei) x.size time again in
        rw es
        (kept_is _ _ _ _ P.lengths P.words
        (resend_is (ledger_shown f t m) c psn marked x ex fits time i again z _ (slot_ring psn i ei) ea ez
        (shown_put sound_lengths sound_words P (slot_in psn i ei) f.low f.next f.next (omega arith) (omega arith) small live_there
        (λ j l n. refl))))

    -- marked
    pub mark_kept : is_flying (packet_of f (shown f.low f.next m) psn) ≡ true → (z : ℤ) → z ≡ t.in_flight -ℤ pos x.size
        → (marks : List ℕ) → marks ≡ put_bit m.marked i true
        → kept f
        (record {
          flying = t.flying - 1;
          marked = t.marked + 1;
          marked_bytes = t.marked_bytes + x.size;
          backlog = t.backlog;
          in_flight = z;
        })
        (memory m.outstanding marks m.sizes m.sent)
        ≡ kept_of (mark_of psn (ledger_shown f t m))
    mark_kept flying z ez marks em =
        let s = slot_packet in
        let one : x.status ≡ flying_status = flies x (ap is_flying ex ∙ flying) in
        let out = flying_out _ _ _ (sym (status_is f.low f.next m i sound_lengths sound_words (slot_in psn i ei))
        ∙ sym (ap (λ (y : Packet). y.status) s) ∙ one) in
        let P = marked_there m sound_lengths sound_words i (slot_in psn i ei) x out
        (sym (ap (λ (y : Packet). packed y.size y.resent) s ∙ packed_in (get_or m.sizes i 0)))
        (sym (ap (λ (y : Packet). y.sent) s)) in
        rw em
        (kept_is _ _ _ _ P.lengths P.words
        (mark_is (ledger_shown f t m) c psn flying x ex fits i z _ (slot_ring psn i ei) ez
        (shown_put sound_lengths sound_words P (slot_in psn i ei) f.low f.next f.next (omega arith) (omega arith) small live_there
        (λ j l n. refl))))
