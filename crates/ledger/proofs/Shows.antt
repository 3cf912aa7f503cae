-- The ring that a memory shows, slot by slot, and the memory of a ring: each is the other's inverse where the ring holds together.
-- Assumes nothing.
use Rattle.std.proofs.Common.{◌≡◌, ℕ, zero, suc, ◌*◌, ◌/◌, ◌<◌, ◌≤◌, Bool, true, false, ◌&&◌, eqb, ◌⊎◌, List, map, length, get_or, sym, refl, ap, ◌∙◌, ap₂, inl, inr, ⊎_elim, arith, ext_get_or, le-ltb, lt-ltb, eq-eqb, eqb-true}
use mathlib.Core.Bool.{false≢true}
use mathlib.Core.Logic.{by_cases}
use native.Mathlib.Decide.{dec_lt}
use lib.ListN.{get_or-map, get_or-eq_default, length-map}
use Rattle.rules.specs.Branch.{if_so, so_yes, so_both, eq_yes, eq_no}
use Rattle.rules.specs.Test.{both, whole}
use Rattle.bits.specs.Bits.{word_bits, is_word, bit_at, words_of}
use Rattle.bits.proofs.Words.{same_or_not, words_long, words_at_lem, words_word, words_are}
use Rattle.ledger.specs.Packets.{flying_status, done_status, no_packet}
use Rattle.ledger.specs.Ring.{Ring, Ledger, tabulate, age_of, cap_of, long_of, packet_at, laid, packets}
use Rattle.ledger.specs.Memory.{
  Memory,
  memory,
  size_end,
  packed,
  size_in,
  resent_in,
  slots_of,
  in_window,
  no_status,
  status_of,
  words_at,
  status_at,
  shown,
  is_out_status,
  is_mark_status,
  stored,
  ledger_shown,
  kept,
  kept_of,
  Words,
}
use Rattle.ledger.specs.Sound.{is_capacity, is_ring, is_even, stands, Lengths, Even}
use Rattle.ledger.specs.declared.Flow.{Flow}
use Rattle.ledger.specs.declared.Totals.{Totals}
use Rattle.ledger.specs.declared.Packet.{Packet}
use Rattle.ledger.proofs.Walks.{length_tabulate, get_d_tabulate}
use Rattle.ledger.proofs.Geometry.{Cap, cap_facts, place_age, age_lt, laid_at, rings}
use Rattle.ledger.proofs.Facts.{Facts, Live, stands_facts, ring_even, packets_long, packets_same}

-- ---- lengths

pub slots_even : (m : Memory) → Lengths m → slots_of m ≡ length m.outstanding * word_bits
unfolding slots_of
slots_even m L = sym (eq_yes (length m.marked) (length m.outstanding) _ _ _ L.marked refl)

pub shown_cap : (low next : ℕ) (m : Memory) → cap_of (shown low next m) ≡ slots_of m
unfolding shown
shown_cap low next m = length_tabulate (status_at low next m) (slots_of m)

-- "bad lengths"
pub shown_ring : (low next : ℕ) (m : Memory) → is_ring (shown low next m) ≡ is_even m
unfolding is_ring is_even shown
shown_ring low next m =
    rw (length_tabulate (status_at low next m) (slots_of m), length-map m.sizes size_in, length-map m.sizes resent_in)
    (last (is_capacity (slots_of m)) (eqb (length m.sizes) (slots_of m)) (eqb (length m.sent) (slots_of m)))
  where
    last : (a b c : Bool) → (a && b && c && b) ≡ (a && b && c)
    last false b c = refl
    last true false c = refl
    last true true false = refl
    last true true true = refl

no_capacity : is_capacity 0 ≡ false
unfolding is_capacity
no_capacity = refl

as_many : (m : Memory) → length m.marked ≡ length m.outstanding → slots_of m ≡ length m.outstanding * word_bits
unfolding slots_of
as_many m s = sym (eq_yes (length m.marked) (length m.outstanding) _ _ _ s refl)

none_fit : (m : Memory) → (length m.marked ≡ length m.outstanding → ⊥) → slots_of m ≡ 0
unfolding slots_of
none_fit m n = sym (eq_no (length m.marked) (length m.outstanding) _ _ _ n refl)

pub even_lengths : (m : Memory) → is_even m ≡ true → Lengths m
unfolding is_even
even_lengths m e =
    let p = both (is_capacity (slots_of m) && eqb (length m.sizes) (slots_of m)) (eqb (length m.sent) (slots_of m)) e in
    let q = both (is_capacity (slots_of m)) (eqb (length m.sizes) (slots_of m)) p.0 in
    ⊎_elim
    (λ s.
    let c = as_many m s in
    record {
      cap = rw c at q.0;
      marked = s;
      sizes = eqb-true (length m.sizes) (slots_of m) q.1 ∙ c;
      sent = eqb-true (length m.sent) (slots_of m) p.1 ∙ c;
    })
    (λ n. absurd (false≢true (sym no_capacity ∙ ap is_capacity (sym (none_fit m n)) ∙ q.0)))
    (same_or_not (length m.marked) (length m.outstanding))

-- ---- one slot

sizes_at : (l : List ℕ) (i : ℕ) → get_or (map size_in l) i 0 ≡ size_in (get_or l i 0)
unfolding size_in
sizes_at l i = get_or-map size_in l i 0

resents_at : (l : List ℕ) (i : ℕ) → get_or (map resent_in l) i 0 ≡ resent_in (get_or l i 0)
unfolding resent_in
resents_at l i = get_or-map resent_in l i 0

pub status_at_lem : (low next : ℕ) (m : Memory) (i : ℕ) → i < slots_of m → get_or (shown low next m).status i 0 ≡ status_at low next m i
unfolding shown
status_at_lem low next m i h = get_d_tabulate (status_at low next m) 0 (slots_of m) i h

-- what slot i shows
pub shown_at : (low next : ℕ) (m : Memory) (i : ℕ) → i < slots_of m
    → packet_at (shown low next m) i
    ≡ record {
      status = status_at low next m i;
      size = size_in (get_or m.sizes i 0);
      sent = get_or m.sent i 0;
      resent = resent_in (get_or m.sizes i 0);
    }
unfolding packet_at shown
shown_at low next m i h = rw (get_d_tabulate (status_at low next m) 0 (slots_of m) i h, sizes_at m.sizes i, resents_at m.sizes i) refl

-- the word of a slot's bit
word_of : (n i : ℕ) → i < n * word_bits → i / word_bits < n
word_of n i h = omega arith

-- the status of a slot whose bits stand in words
pub status_is : (low next : ℕ) (m : Memory) (i : ℕ) → Lengths m → Words m → i < slots_of m
    → status_at low next m i ≡ status_of (in_window (slots_of m) low next i) (bit_at m.outstanding i) (bit_at m.marked i)
unfolding status_at words_at
status_is low next m i L W h =
    let l : i < length m.outstanding * word_bits = omega (arith, slots_even m L) in
    sym (so_yes _ _ _ _ (whole (W.outstanding (i / word_bits) (word_of _ i l))
    (W.marked (i / word_bits) (omega (arith, word_of _ i l, L.marked)))) refl)

-- ---- rings slot by slot

module _ (r : Ring) (i : ℕ) where
  field_status : (packet_at r i).status ≡ get_or r.status i 0
  unfolding packet_at
  field_status = refl

  field_size : (packet_at r i).size ≡ get_or r.size i 0
  unfolding packet_at
  field_size = refl

  field_sent : (packet_at r i).sent ≡ get_or r.sent i 0
  unfolding packet_at
  field_sent = refl

  field_resent : (packet_at r i).resent ≡ get_or r.resent i 0
  unfolding packet_at
  field_resent = refl

-- two rings of the same lengths that say the same of every slot are one
pub rings_same : (r s : Ring) → Even r → Even s → cap_of r ≡ cap_of s → ((i : ℕ) → i < cap_of s → packet_at r i ≡ packet_at s i) → r ≡ s
rings_same r s E F c h =
    rings (same (λ x. x.status) (λ q. q.status) field_status c c)
    (same (λ x. x.size) (λ q. q.size) field_size (E.size ∙ c) (E.size ∙ c ∙ sym F.size))
    (same (λ x. x.sent) (λ q. q.sent) field_sent (E.sent ∙ c) (E.sent ∙ c ∙ sym F.sent))
    (same (λ x. x.resent) (λ q. q.resent) field_resent (E.resent ∙ c) (E.resent ∙ c ∙ sym F.resent))
  where
    same : (field : Packet → ℕ) (slice : Ring → List ℕ) → ((q : Ring) (i : ℕ) → field (packet_at q i) ≡ get_or (slice q) i 0)
        → length (slice r) ≡ cap_of s → length (slice r) ≡ length (slice s) → slice r ≡ slice s
    same field slice at e f =
        ext_get_or 0 (slice r) (slice s) f (λ i l. sym (at r i) ∙ ap field (h i (omega arith)) ∙ at s i)

pub lengths_even : (m : Memory) → Lengths m → is_even m ≡ true
unfolding is_even
lengths_even m L =
    let c = slots_even m L in
    rw c (whole (whole L.cap (eq-eqb (length m.sizes) _ L.sizes)) (eq-eqb (length m.sent) _ L.sent))

pub shown_even : (low next : ℕ) (m : Memory) → Lengths m → Even (shown low next m)
shown_even low next m L = ring_even (shown low next m) (shown_ring low next m ∙ lengths_even m L)

-- a ring of the memory's lengths that says the same of every slot
pub shown_is : (low next : ℕ) (m : Memory) (r : Ring) → Lengths m → Even r → cap_of r ≡ slots_of m
    → ((i : ℕ) → i < slots_of m → packet_at (shown low next m) i ≡ packet_at r i) → shown low next m ≡ r
shown_is low next m r L E c h =
    rings_same (shown low next m) r (shown_even low next m L) E (shown_cap low next m ∙ sym c) (λ i l. h i (omega arith))

-- ---- the memory of a ring

-- the bits that a status has
out_shown : (live out mark : Bool) → is_out_status (status_of live out mark) ≡ out
unfolding is_out_status status_of if_so
out_shown live true true = refl
out_shown live true false = refl
out_shown live false true = refl
out_shown true false false = refl
out_shown false false false = refl

mark_shown : (live out mark : Bool) → is_mark_status (status_of live out mark) ≡ mark
unfolding is_mark_status status_of if_so
mark_shown live true true = refl
mark_shown live true false = refl
mark_shown live false true = refl
mark_shown true false false = refl
mark_shown false false false = refl

-- size and resend count of one number
pub packed_in : (w : ℕ) → packed (size_in w) (resent_in w) ≡ w
unfolding packed size_in resent_in
packed_in w = omega arith

pub size_packed : (size resent : ℕ) → size < size_end → size_in (packed size resent) ≡ size
unfolding packed size_in
size_packed size resent h = omega arith

pub resent_packed : (size resent : ℕ) → size < size_end → resent_in (packed size resent) ≡ resent
unfolding packed resent_in
resent_packed size resent h = omega arith

pub memories : {a b c d e f g h : List ℕ} → a ≡ e → b ≡ f → c ≡ g → d ≡ h → memory a b c d ≡ memory e f g h
memories i j k l = rw (i, j, k, l)

shown_sizes : (low next : ℕ) (m : Memory) → (shown low next m).size ≡ map size_in m.sizes
unfolding shown
shown_sizes low next m = refl

shown_resents : (low next : ℕ) (m : Memory) → (shown low next m).resent ≡ map resent_in m.sizes
unfolding shown
shown_resents low next m = refl

pub shown_sent : (low next : ℕ) (m : Memory) → (shown low next m).sent ≡ m.sent
unfolding shown
shown_sent low next m = refl

numbers_back : (xs : List ℕ)
    → tabulate (λ i. packed (get_or (map size_in xs) i 0) (get_or (map resent_in xs) i 0)) (length (map size_in xs)) ≡ xs
numbers_back xs =
    let f : ℕ → ℕ = λ i. packed (get_or (map size_in xs) i 0) (get_or (map resent_in xs) i 0) in
    let n : length (map size_in xs) ≡ length xs = length-map xs size_in in
    ext_get_or 0 (tabulate f (length (map size_in xs))) xs (length_tabulate f (length (map size_in xs)) ∙ n)
    (λ i l.
    get_d_tabulate f 0 (length (map size_in xs)) i (omega (arith, length_tabulate f (length (map size_in xs))))
    ∙ ap₂ packed (sizes_at xs i) (resents_at xs i)
    ∙ packed_in (get_or xs i 0))

-- the memory is told by the ring that it shows
pub stored_shown : (low next : ℕ) (m : Memory) → Lengths m → Words m → stored (shown low next m) ≡ m
unfolding stored
stored_shown low next m L W =
    let c : cap_of (shown low next m) / word_bits ≡ length m.outstanding =
    omega (arith, shown_cap low next m, slots_even m L) in
    rw (c, shown_sizes low next m, shown_resents low next m) (memories (sym outs) (sym marks) (numbers_back m.sizes)
    (shown_sent low next m))
  where
    at : (i : ℕ) → i < length m.outstanding * word_bits
        → get_or (shown low next m).status i 0
        ≡ status_of (in_window (slots_of m) low next i) (bit_at m.outstanding i) (bit_at m.marked i)
    at i l =
        let h : i < slots_of m = omega (arith, slots_even m L) in
        status_at_lem low next m i h ∙ status_is low next m i L W h

    outs : m.outstanding ≡ words_of (λ i. is_out_status (get_or (shown low next m).status i 0)) (length m.outstanding)
    outs =
        words_are m.outstanding _ W.outstanding
        (λ i l. sym (ap is_out_status (at i l)
        ∙ out_shown (in_window (slots_of m) low next i) (bit_at m.outstanding i) (bit_at m.marked i)))

    marks : m.marked ≡ words_of (λ i. is_mark_status (get_or (shown low next m).status i 0)) (length m.outstanding)
    marks =
        words_are m.marked _ W.marked
        (λ i l.
        let k : i < length m.outstanding * word_bits = rw L.marked at l in
        sym (ap is_mark_status (at i k)
        ∙ mark_shown (in_window (slots_of m) low next i) (bit_at m.outstanding i) (bit_at m.marked i)))
        ∙ ap (words_of (λ i. is_mark_status (get_or (shown low next m).status i 0))) L.marked

-- ---- a ring that holds together is the one that its memory shows

-- a status of low..next-1, or none
pub live_back : (s : ℕ) → flying_status ≤ s → s ≤ done_status → status_of true (is_out_status s) (is_mark_status s) ≡ s
unfolding status_of is_out_status is_mark_status if_so
live_back zero l h = absurd (omega arith)
live_back (suc zero) l h = refl
live_back (suc (suc zero)) l h = refl
live_back (suc (suc (suc zero))) l h = refl
live_back (suc (suc (suc (suc s)))) l h = absurd (omega arith)

none_back : status_of false (is_out_status 0) (is_mark_status 0) ≡ 0
unfolding status_of is_out_status is_mark_status if_so
none_back = refl

module _ (r : Ring) (C : Cap (cap_of r)) (E : Even r) where
  whole_words : cap_of r / word_bits * word_bits ≡ cap_of r
  whole_words = C.words

  outs_long : length (stored r).outstanding ≡ cap_of r / word_bits
  unfolding stored
  outs_long = words_long (λ i. is_out_status (get_or r.status i 0)) (cap_of r / word_bits)

  marks_long : length (stored r).marked ≡ cap_of r / word_bits
  unfolding stored
  marks_long = words_long (λ i. is_mark_status (get_or r.status i 0)) (cap_of r / word_bits)

  sizes_long : length (stored r).sizes ≡ cap_of r
  unfolding stored
  sizes_long = length_tabulate (λ i. packed (get_or r.size i 0) (get_or r.resent i 0)) (length r.size) ∙ E.size

  sent_long : length (stored r).sent ≡ cap_of r
  unfolding stored
  sent_long = E.sent

  all_slots : length (stored r).outstanding * word_bits ≡ cap_of r
  all_slots = ap (λ (n : ℕ). n * word_bits) outs_long ∙ whole_words

  pub stored_lengths : is_capacity (cap_of r) ≡ true → Lengths (stored r)
  stored_lengths e =
      record {
        cap = ap is_capacity all_slots ∙ e;
        marked = marks_long ∙ sym outs_long;
        sizes = sizes_long ∙ sym all_slots;
        sent = sent_long ∙ sym all_slots;
      }

  stored_words : Words (stored r)
  unfolding stored
  stored_words =
      record {
        outstanding = λ q h. words_word (λ i. is_out_status (get_or r.status i 0)) (cap_of r / word_bits) q
            (rw (words_long (λ i. is_out_status (get_or r.status i 0)) (cap_of r / word_bits)) at h);
        marked = λ q h. words_word (λ i. is_mark_status (get_or r.status i 0)) (cap_of r / word_bits) q
            (rw (words_long (λ i. is_mark_status (get_or r.status i 0)) (cap_of r / word_bits)) at h);
      }

  stored_out : (i : ℕ) → i < cap_of r → bit_at (stored r).outstanding i ≡ is_out_status (packet_at r i).status
  unfolding stored
  stored_out i h =
      words_at_lem (λ i. is_out_status (get_or r.status i 0)) (cap_of r / word_bits) i (omega (arith, whole_words))
      ∙ ap is_out_status (sym (field_status r i))

  stored_mark : (i : ℕ) → i < cap_of r → bit_at (stored r).marked i ≡ is_mark_status (packet_at r i).status
  unfolding stored
  stored_mark i h =
      words_at_lem (λ i. is_mark_status (get_or r.status i 0)) (cap_of r / word_bits) i (omega (arith, whole_words))
      ∙ ap is_mark_status (sym (field_status r i))

  stored_size : (i : ℕ) → i < cap_of r → get_or (stored r).sizes i 0 ≡ packed (packet_at r i).size (packet_at r i).resent
  unfolding stored
  stored_size i h =
      get_d_tabulate (λ i. packed (get_or r.size i 0) (get_or r.resent i 0)) 0 (length r.size) i (omega (arith, E.size))
      ∙ sym (ap₂ packed (field_size r i) (field_resent r i))

  stored_sent : (i : ℕ) → get_or (stored r).sent i 0 ≡ (packet_at r i).sent
  unfolding stored
  stored_sent i = sym (field_sent r i)

module _ (mtu clock : ℕ) (f : Flow) (r : Ring) (F : Facts mtu clock f r) where
  C : Cap (cap_of r)
  C = cap_facts (cap_of r) F.cap

  -- slot i, by its packet
  slot_is : (i : ℕ) → i < cap_of r → packet_at r i ≡ get_or (packets f r) (age_of (cap_of r) f.low i) no_packet
  slot_is i h =
      ap (λ (q : Ring). packet_at q i) F.laid_so
      ∙ ap (packet_at (laid (cap_of r) f.low (packets f r))) (sym (place_age (cap_of r) C f.low i h))
      ∙ laid_at (cap_of r) C f.low (packets f r) (age_of (cap_of r) f.low i) (age_lt (cap_of r) C f.low i)

  -- it is live in low..next-1, and empty elsewhere
  slot_cases : (i : ℕ) → i < cap_of r
      → ((age_of (cap_of r) f.low i < long_of f) × Live mtu clock (packet_at r i)) ⊎ ((long_of f ≤ age_of (cap_of r) f.low i)
      × (packet_at r i ≡ no_packet))
  slot_cases i h =
      by_cases (dec_lt (age_of (cap_of r) f.low i) (long_of f))
      (λ l. inl (l, rw (slot_is i h) (F.live (age_of (cap_of r) f.low i) l)))
      (λ n. inr (omega arith, slot_is i h ∙ get_or-eq_default (packets f r) no_packet (omega (arith, packets_long f r))))

  status_same : (i : ℕ) → i < cap_of r
      → status_of (in_window (cap_of r) f.low f.next i) (is_out_status (packet_at r i).status) (is_mark_status (packet_at r i).status)
      ≡ (packet_at r i).status
  unfolding in_window long_of
  status_same i h =
      ⊎_elim
      (λ p. rw (lt-ltb _ _ p.0) (live_back (packet_at r i).status p.1.status_least p.1.status_most))
      (λ p. rw (le-ltb _ _ p.0, p.1) none_back)
      (slot_cases i h)

  size_small : mtu < size_end → (i : ℕ) → i < cap_of r → (packet_at r i).size < size_end
  size_small small i h = ⊎_elim (λ p. omega (arith, p.1.size_most)) (λ p. rw p.1 (omega arith)) (slot_cases i h)

  slot_shown_lem : mtu < size_end → (i : ℕ) → i < slots_of (stored r) → packet_at (shown f.low f.next (stored r)) i ≡ packet_at r i
  slot_shown_lem small i l =
      let L = stored_lengths r C F.even F.cap in
      let s : slots_of (stored r) ≡ cap_of r = slots_even (stored r) L ∙ all_slots r C F.even in
      let h : i < cap_of r = omega arith in
      shown_at f.low f.next (stored r) i l
      ∙ packets_same (status_is f.low f.next (stored r) i L (stored_words r C F.even) l
      ∙ rw (s, stored_out r C F.even i h, stored_mark r C F.even i h) (status_same i h))
      (ap size_in (stored_size r C F.even i h) ∙ size_packed _ _ (size_small small i h))
      (stored_sent r C F.even i)
      (ap resent_in (stored_size r C F.even i h) ∙ resent_packed _ _ (size_small small i h))

pub shown_stored : (mtu clock : ℕ) (f : Flow) (r : Ring) → mtu < size_end → stands mtu clock f r ≡ true
    → shown f.low f.next (stored r) ≡ r
shown_stored mtu clock f r small e =
    let F = stands_facts mtu clock f r e in
    let c = cap_facts (cap_of r) F.cap in
    let L = stored_lengths r c F.even F.cap in
    shown_is f.low f.next (stored r) r L F.even (sym (slots_even (stored r) L ∙ all_slots r c F.even))
    (slot_shown_lem mtu clock f r F small)

-- ---- a memory that shows a ring that holds together

pub stands_even : (mtu clock : ℕ) (f : Flow) (m : Memory) → stands mtu clock f (shown f.low f.next m) ≡ true → is_even m ≡ true
unfolding stands
stands_even mtu clock f m e = sym (shown_ring f.low f.next m) ∙ first_of _ _ _ _ _ _ _ _ e
  where
    first_of : (a b c d g h i j : Bool) → (a && b && c && d && g && h && i && j) ≡ true → a ≡ true
    first_of true b c d g h i j q = refl
    first_of false b c d g h i j q = q

pub stands_lengths : (mtu clock : ℕ) (f : Flow) (m : Memory) → stands mtu clock f (shown f.low f.next m) ≡ true → Lengths m
stands_lengths mtu clock f m e = even_lengths m (stands_even mtu clock f m e)

-- the bits of a slot that shows a status stand in words
words_of_lem : (low next : ℕ) (m : Memory) (i : ℕ) → (status_at low next m i ≡ no_status → ⊥) → words_at m i ≡ true
unfolding status_at
words_of_lem low next m i n =
    so_both (λ (s : ℕ). (s ≡ no_status → ⊥) → words_at m i ≡ true) (words_at m i) _ _ (λ e h. e) (λ e h. absurd (h refl)) n

pub stands_words : (mtu clock : ℕ) (f : Flow) (m : Memory) → stands mtu clock f (shown f.low f.next m) ≡ true → Words m
unfolding words_at
stands_words mtu clock f m e =
    record {
      outstanding = λ q h. ap (λ (k : ℕ). is_word (get_or m.outstanding k 0)) (sym (slot_word q)) ∙ (both _ _ (words q h)).0;
      marked = λ q h. ap (λ (k : ℕ). is_word (get_or m.marked k 0)) (sym (slot_word q))
          ∙ (both (is_word (get_or m.outstanding (q * word_bits / word_bits) 0)) _ (words q (omega (arith, L.marked)))).1;
    }
  where
    L : Lengths m
    L = stands_lengths mtu clock f m e

    F : Facts mtu clock f (shown f.low f.next m)
    F = stands_facts mtu clock f (shown f.low f.next m) e

    slot_word : (q : ℕ) → q * word_bits / word_bits ≡ q
    slot_word q = omega arith

    no_status_lem : (x : Packet) (n k : ℕ) → ((k < n) × Live mtu clock x) ⊎ ((n ≤ k) × (x ≡ no_packet)) → x.status ≡ no_status → ⊥
    no_status_lem x n k c s =
        ⊎_elim (λ p. omega (arith, p.1.status_most)) (λ p. let z = ap (λ (y : Packet). y.status) p.1 in omega (arith, z)) c

    words : (q : ℕ) → q < length m.outstanding → words_at m (q * word_bits) ≡ true
    words q h =
        let c = shown_cap f.low f.next m ∙ slots_even m L in
        let l : q * word_bits < cap_of (shown f.low f.next m) = omega arith in
        let k : q * word_bits < slots_of m = omega (arith, slots_even m L) in
        words_of_lem f.low f.next m (q * word_bits)
        (λ s.
        no_status_lem (packet_at (shown f.low f.next m) (q * word_bits)) _ _
        (slot_cases mtu clock f (shown f.low f.next m) F (q * word_bits) l)
        (ap (λ (y : Packet). y.status) (shown_at f.low f.next m (q * word_bits) k) ∙ s))

-- ---- what is kept

pub kept_is : (f : Flow) (t : Totals) (m : Memory) (l : Ledger) → Lengths m → Words m → ledger_shown f t m ≡ l → kept f t m ≡ kept_of l
unfolding kept_of
kept_is f t m l L W e =
    ap (λ (q : Memory). kept f t q) (sym (stored_shown f.low f.next m L W))
    ∙ ap (λ (k : Ledger). kept k.flow k.totals (stored k.slots)) e
