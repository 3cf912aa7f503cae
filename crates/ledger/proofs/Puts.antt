-- A slot overwritten: what a memory shows whose bits and numbers differ in one slot.
-- Assumes nothing.
use Rattle.std.proofs.Common.{◌≡◌, ℕ, ◌*◌, ◌%◌, ◌<◌, ◌≤◌, Bool, true, false, length, get_or, set, sym, refl, ap, ◌∙◌, ap₂, ⊎_elim, mod-lt, arith, length-set, get_or-set_other, get_or-set_same, lt-ltb}
use mathlib.Core.Logic.{by_cases}
use native.Mathlib.Decide.{dec_lt}
use Rattle.bits.specs.Bits.{word_bits, bit_at, put_bit}
use Rattle.bits.proofs.Words.{same_or_not, put_long, put_same, put_other, put_word}
use Rattle.serial.specs.Wrap.{minus}
use Rattle.serial.specs.Psn.{psns}
use Rattle.ledger.specs.Packets.{flying_status, marked_status, done_status, with_status}
use Rattle.ledger.specs.Ring.{Ring, cap_of, packet_at, put_at, place_of, age_of, long_of, offset_of, packet_of}
use Rattle.ledger.specs.Memory.{
  Memory,
  memory,
  size_end,
  packed,
  size_in,
  resent_in,
  slots_of,
  in_window,
  status_of,
  status_at,
  shown,
  is_out_status,
  is_mark_status,
  Words,
}
use Rattle.ledger.specs.Sound.{is_capacity, Lengths, Even}
use Rattle.ledger.specs.declared.Flow.{Flow}
use Rattle.ledger.specs.declared.Packet.{Packet}
use Rattle.ledger.proofs.Geometry.{cap_facts, place_psn, age_place, age_lt, packet_here}
use Rattle.ledger.proofs.Facts.{packets_same}
use Rattle.ledger.proofs.Shows.{
  slots_even,
  shown_cap,
  shown_at,
  status_is,
  shown_is,
  shown_even,
  live_back,
  size_packed,
  resent_packed,
}

-- ---- a slot read

-- the slot of a PSN of low..next-1 lies in the window, also where there are more of those than slots
pub in_window_lem : (cap : ℕ) → is_capacity cap ≡ true → (f : Flow) (psn : ℕ) → psn < psns → offset_of f psn < long_of f
    → in_window cap f.low f.next (psn % cap) ≡ true
unfolding in_window long_of offset_of
in_window_lem cap e f psn p h =
    let C = cap_facts cap e in
    let k = minus psns psn f.low in
    let at : place_of cap f.low k ≡ psn % cap = place_psn cap f.low psn p in
    lt-ltb (age_of cap f.low (psn % cap)) (minus psns f.next f.low)
    (by_cases (dec_lt k cap)
    (λ l. omega (arith, age_place cap C f.low k l, ap (age_of cap f.low) at))
    (λ n. omega (arith, age_lt cap C f.low (psn % cap))))

-- what the code reads in it
pub found : (f : Flow) (m : Memory) → Lengths m → Words m → (psn i s : ℕ) (o k : Bool) (z t r : ℕ) → psn < psns
    → offset_of f psn < long_of f → i ≡ psn % length m.sent → s ≡ status_of true o k → o ≡ bit_at m.outstanding i
    → k ≡ bit_at m.marked i → z ≡ size_in (get_or m.sizes i 0) → t ≡ get_or m.sent i 0 → r ≡ resent_in (get_or m.sizes i 0)
    → ◌≡◌ {A = Packet} (record { status = s; size = z; sent = t; resent = r }) (packet_of f (shown f.low f.next m) psn)
found f m L W psn i s o k z t r p h ei es eo ek ez et er =
    let low = f.low in
    let next = f.next in
    let n : slots_of m ≡ length m.outstanding * word_bits = slots_even m L in
    let c : cap_of (shown low next m) ≡ slots_of m = shown_cap low next m in
    let cap : is_capacity (slots_of m) ≡ true = rw n L.cap in
    let e : i ≡ psn % slots_of m = ei ∙ ap (λ (x : ℕ). psn % x) (L.sent ∙ sym n) in
    let l : i < slots_of m = rw e (mod-lt psn (omega (arith, (cap_facts (slots_of m) cap).least))) in
    packets_same {e = status_at low next m i} (es ∙ ap₂ (status_of true) eo ek ∙ sym (status_is low next m i L W l
    ∙ ap (λ (b : Bool). status_of b (bit_at m.outstanding i) (bit_at m.marked i))
    (ap (in_window (slots_of m) low next) e ∙ in_window_lem (slots_of m) cap f psn p h)))
    ez et er
    ∙ sym (shown_at low next m i l)
    ∙ sym (packet_here f (shown low next m) psn p h ∙ ap (λ (x : ℕ). packet_at (shown low next m) (psn % x)) c
    ∙ ap (packet_at (shown low next m)) (sym e))

-- ---- a slot of a ring overwritten

module _ (r : Ring) (E : Even r) (i : ℕ) (x : Packet) (h : i < cap_of r) where
  put_here : packet_at (put_at r i x) i ≡ x
  unfolding packet_at put_at
  put_here =
      packets_same (get_or-set_same r.status i x.status 0 h) (get_or-set_same r.size i x.size 0 (omega (arith, E.size)))
      (get_or-set_same r.sent i x.sent 0 (omega (arith, E.sent))) (get_or-set_same r.resent i x.resent 0 (omega
      (arith, E.resent)))

  put_there : (j : ℕ) → (j ≡ i → ⊥) → packet_at (put_at r i x) j ≡ packet_at r j
  unfolding packet_at put_at
  put_there j n =
      packets_same (get_or-set_other r.status i j x.status 0 n) (get_or-set_other r.size i j x.size 0 n)
      (get_or-set_other r.sent i j x.sent 0 n) (get_or-set_other r.resent i j x.resent 0 n)

  put_cap : cap_of (put_at r i x) ≡ cap_of r
  unfolding put_at
  put_cap = length-set r.status i x.status

  put_even : Even (put_at r i x)
  unfolding put_at
  put_even =
      let c = length-set r.status i x.status in
      record {
        some = omega (arith, E.some);
        few = omega (arith, E.few);
        size = length-set r.size i x.size ∙ E.size ∙ sym c;
        sent = length-set r.sent i x.sent ∙ E.sent ∙ sym c;
        resent = length-set r.resent i x.resent ∙ E.resent ∙ sym c;
      }

-- ---- a slot of the memory

-- slot i becomes the packet x, and no other changes
pub record Puts (m after : Memory) (i : ℕ) (x : Packet) : Type 0 where
  pub lengths : Lengths after
  pub words : Words after
  pub long : length after.outstanding ≡ length m.outstanding
  pub out_here : bit_at after.outstanding i ≡ is_out_status x.status
  pub out_there : (j : ℕ) → (j ≡ i → ⊥) → bit_at after.outstanding j ≡ bit_at m.outstanding j
  pub mark_here : bit_at after.marked i ≡ is_mark_status x.status
  pub mark_there : (j : ℕ) → (j ≡ i → ⊥) → bit_at after.marked j ≡ bit_at m.marked j
  pub size_here : get_or after.sizes i 0 ≡ packed x.size x.resent
  pub size_there : (j : ℕ) → (j ≡ i → ⊥) → get_or after.sizes j 0 ≡ get_or m.sizes j 0
  pub sent_here : get_or after.sent i 0 ≡ x.sent
  pub sent_there : (j : ℕ) → (j ≡ i → ⊥) → get_or after.sent j 0 ≡ get_or m.sent j 0

module _ {m after : Memory} {i : ℕ} {x : Packet} (L : Lengths m) (W : Words m) (P : Puts m after i x) (h : i < slots_of m)
    (low next further : ℕ) where
  same_slots : slots_of after ≡ slots_of m
  same_slots = slots_even after P.lengths ∙ ap (λ (n : ℕ). n * word_bits) P.long ∙ sym (slots_even m L)

  -- The slot lies in low .. further - 1; each other lies there exactly if it lies in low .. next - 1.
  pub shown_put : flying_status ≤ x.status → x.status ≤ done_status → x.size < size_end → in_window (slots_of m) low further i ≡ true
      → ((j : ℕ) → j < slots_of m → (j ≡ i → ⊥) → in_window (slots_of m) low further j ≡ in_window (slots_of m) low next j)
      → shown low further after ≡ put_at (shown low next m) i x
  shown_put least most small live others =
      let r = shown low next m in
      let E = shown_even low next m L in
      let c : i < cap_of r = omega (arith, shown_cap low next m) in
      shown_is low further after (put_at r i x) P.lengths (put_even r E i x c)
      (put_cap r E i x c ∙ shown_cap low next m ∙ sym same_slots)
      (λ j l.
      let k : j < slots_of m = omega (arith, same_slots) in
      shown_at low further after j l
      ∙ ⊎_elim
      (λ e.
      rw e
      (packets_same {e = x.status} {f = x.size} {g = x.sent} {h = x.resent}
      (status_is low further after i P.lengths P.words (omega (arith, same_slots))
      ∙ rw (same_slots, live, P.out_here, P.mark_here) (live_back x.status least most))
      (ap size_in P.size_here ∙ size_packed x.size x.resent small)
      P.sent_here
      (ap resent_in P.size_here ∙ resent_packed x.size x.resent small)
      ∙ sym (put_here r E i x c)))
      (λ n.
      packets_same {e = status_at low next m j} {f = size_in (get_or m.sizes j 0)} {g = get_or m.sent j 0}
      {h = resent_in (get_or m.sizes j 0)}
      (status_is low further after j P.lengths P.words l
      ∙ rw (same_slots, others j k n, P.out_there j n, P.mark_there j n) (sym (status_is low next m j L W k)))
      (ap size_in (P.size_there j n))
      (P.sent_there j n)
      (ap resent_in (P.size_there j n))
      ∙ sym (put_there r E i x c j n ∙ shown_at low next m j k))
      (same_or_not j i))

-- ---- how the code puts a slot

module _ (m : Memory) (L : Lengths m) (W : Words m) (i : ℕ) (h : i < slots_of m) where
  in_bits : i < length m.outstanding * word_bits
  in_bits = omega (arith, slots_even m L)

  in_marks : i < length m.marked * word_bits
  in_marks = rw L.marked in_bits

  -- a packet that flies
  pub flies_there : (size sent resent : ℕ)
      → Puts m (memory (put_bit m.outstanding i true) (put_bit m.marked i false) (set m.sizes i (packed size resent))
      (set m.sent i sent)) i (record { status = flying_status; size = size; sent = sent; resent = resent })
  unfolding is_out_status is_mark_status
  flies_there size sent resent =
      let o = put_long m.outstanding i true in
      let k = put_long m.marked i false in
      record {
        lengths =
            record {
              cap = rw o L.cap;
              marked = k ∙ L.marked ∙ sym o;
              sizes = length-set m.sizes i (packed size resent) ∙ L.sizes ∙ sym (ap (λ (n : ℕ). n * word_bits) o);
              sent = length-set m.sent i sent ∙ L.sent ∙ sym (ap (λ (n : ℕ). n * word_bits) o);
            };
        words =
            record {
              outstanding = λ q l. put_word m.outstanding i q true (W.outstanding q (omega arith));
              marked = λ q l. put_word m.marked i q false (W.marked q (omega arith));
            };
        long = o;
        out_here = put_same m.outstanding i true in_bits;
        out_there = λ j n. put_other m.outstanding i j true n;
        mark_here = put_same m.marked i false in_marks;
        mark_there = λ j n. put_other m.marked i j false n;
        size_here = get_or-set_same m.sizes i (packed size resent) 0 (omega (arith, L.sizes, in_bits));
        size_there = λ j n. get_or-set_other m.sizes i j (packed size resent) 0 n;
        sent_here = get_or-set_same m.sent i sent 0 (omega (arith, L.sent, in_bits));
        sent_there = λ j n. get_or-set_other m.sent i j sent 0 n;
      }

  -- a packet that flew is marked
  pub marked_there : (x : Packet) → bit_at m.outstanding i ≡ true → get_or m.sizes i 0 ≡ packed x.size x.resent
      → get_or m.sent i 0 ≡ x.sent
      → Puts m (memory m.outstanding (put_bit m.marked i true) m.sizes m.sent) i (with_status marked_status x)
  unfolding is_out_status is_mark_status
  marked_there x out size sent =
      let k = put_long m.marked i true in
      record {
        lengths = record { cap = L.cap; marked = k ∙ L.marked; sizes = L.sizes; sent = L.sent };
        words =
            record {
              outstanding = W.outstanding;
              marked = λ q l. put_word m.marked i q true (W.marked q (omega arith));
            };
        long = refl;
        out_here = out;
        out_there = λ j n. refl;
        mark_here = put_same m.marked i true in_marks;
        mark_there = λ j n. put_other m.marked i j true n;
        size_here = size;
        size_there = λ j n. refl;
        sent_here = sent;
        sent_there = λ j n. refl;
      }
