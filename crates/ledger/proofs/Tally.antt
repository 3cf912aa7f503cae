-- Number 2's test of the memory: slot by slot it is the test of the ring of statuses that the memory shows (`all_slots`), and once it holds
-- the bits add up to the totals of the packets (`totals_are`).
-- Assumes nothing.
use Rattle.std.proofs.Common.{◌≡◌, ℕ, zero, suc, ◌+◌, ◌-◌, ◌*◌, ◌/◌, ◌%◌, ◌<◌, ◌≤◌, Bool, true, false, not, ◌&&◌, ◌||◌, eqb, ltb, leb, List, length, get_or, sym, refl, ap, ◌∙◌, zero-le, mod-lt, mod-eq_of_lt, zero-add, arith, le-ltb, lt-ltb, eq-eqb, ne_eqb, eqb-true, le-leb, leb-true}
use mathlib.Core.Bool.{and-true, false≢true}
use mathlib.Core.Logic.{by_cases}
use native.Mathlib.Nat.{mod-eq-sub-mod}
use native.Mathlib.Decide.{dec_lt}
use borrow.Author.Tests.{lt-leb, not-true, not-false}
use Rattle.rules.specs.Branch.{if_so, if_lt, if_eq}
use Rattle.rules.specs.Test.{inside, both, whole}
use Rattle.bits.specs.Bits.{bit_at, one, sum_to}
use Rattle.bits.proofs.Words.{same_truth, sum_same, sum_join, sum_none}
use Rattle.serial.specs.Psn.{psns}
use Rattle.serial.specs.Count.{counts}
use Rattle.ledger.specs.Packets.{flying_status, done_status, is_done, flying_one, marked_one, marked_size, sum_of}
use Rattle.ledger.specs.Bounds.{size_least, resent_most, backlog_most, in_bounds}
use Rattle.ledger.specs.Ring.{Ring, tabulate, cap_of, packet_at, place_of, age_of, long_of, queue_of, packets}
use Rattle.ledger.specs.Memory.{Memory, size_in, resent_in, slots_of, in_window, status_of, shown, ledger_shown, Words}
use Rattle.ledger.specs.Sound.{all_to, is_capacity, is_even, bits_at, bits_ok, is_live, is_zero, slot_ok, head_ok, stands, alone, tallies}
use Rattle.ledger.specs.Sound.{sound_ledger, Lengths}
use Rattle.ledger.specs.Stretch.{sized_in, sized_at, timed_at, clear_at, live_at, zero_at, slot_at, mark_ok, one_at, ones_of, size_at, bytes_of}
use Rattle.ledger.specs.Stretch.{all_in, tally_of, totals_ok}
use Rattle.ledger.specs.declared.Flow.{Flow}
use Rattle.ledger.specs.declared.Totals.{Totals}
use Rattle.ledger.specs.declared.Packet.{Packet}
use Rattle.ledger.specs.declared.sound.Tally.{Tally}
use Rattle.ledger.proofs.Facts.{stands_facts}
use Rattle.ledger.proofs.Walks.{all_at, all_of, all_same}
use Rattle.ledger.proofs.Geometry.{Cap, cap_facts, place_first, place_flat, place_lt, age_lt, age_place, place_age}
use Rattle.ledger.proofs.Shows.{slots_even, shown_cap, shown_at, status_is, shown_ring, even_lengths, stands_even, stands_lengths}
use Rattle.ledger.proofs.Shows.{stands_words}
use Rattle.ledger.proofs.Stretches.{three}

-- ---- lengths

module _ (m : Memory) where
  pub even_test : (is_capacity (length m.sizes) && eqb (length m.outstanding) (length m.sizes / 64)
      && eqb (length m.marked) (length m.sizes / 64) && eqb (length m.sent) (length m.sizes))
      ≡ is_even m
  unfolding is_even
  even_test =
      let cap = length m.sizes in
      let a = is_capacity cap in
      let b = eqb (length m.outstanding) (cap / 64) in
      let d = eqb (length m.marked) (cap / 64) in
      let g = eqb (length m.sent) cap in
      same_truth (((a && b) && d) && g) (is_even m)
      (λ t.
      let p = both ((a && b) && d) g t in
      let q = both (a && b) d p.0 in
      let u = both a b q.0 in
      let out = eqb-true (length m.outstanding) (cap / 64) u.1 in
      let mark = eqb-true (length m.marked) (cap / 64) q.1 in
      let times = eqb-true (length m.sent) cap p.1 in
      let words : length m.outstanding * 64 ≡ cap = omega (arith, (cap_facts cap u.0).words) in
      let L : Lengths m =
      record { cap = ap is_capacity words ∙ u.0; marked = omega arith; sizes = omega arith; sent = omega arith } in
      let slots : slots_of m ≡ cap = slots_even m L ∙ words in
      whole (whole (ap is_capacity slots ∙ u.0) (eq-eqb cap (slots_of m) (sym slots)))
      (eq-eqb (length m.sent) (slots_of m) (times ∙ sym slots)))
      (λ t.
      let L = even_lengths m t in
      whole
      (whole
      (whole (ap is_capacity L.sizes ∙ L.cap) (eq-eqb (length m.outstanding) (cap / 64) (omega (arith, L.sizes))))
      (eq-eqb (length m.marked) (cap / 64) (omega (arith, L.sizes, L.marked))))
      (eq-eqb (length m.sent) cap (omega (arith, L.sizes, L.sent))))

-- ---- slots in the order of their numbers, and of their packets

module _ (cap : ℕ) (C : Cap cap) (low : ℕ) where
  pos : 0 < cap
  pos = omega (arith, C.least)

  first_lt : low % cap < cap
  first_lt = mod-lt low pos

  -- the packet of a slot
  age_on : (i : ℕ) → i < cap → low % cap ≤ i → age_of cap low i ≡ i - low % cap
  unfolding age_of
  age_on i h l = mod-eq-sub-mod {m = cap} (omega (arith, first_lt)) ∙ mod-eq_of_lt (omega (arith, first_lt)) ∙ omega (arith, first_lt)

  age_over : (i : ℕ) → i < low % cap → age_of cap low i ≡ i + (cap - low % cap)
  unfolding age_of
  age_over i h = mod-eq_of_lt (omega (arith, first_lt))

  -- the slot of a packet
  place_on : (k : ℕ) → k < cap - low % cap → place_of cap low k ≡ low % cap + k
  place_on k h = place_flat cap C low k ∙ mod-eq_of_lt (omega (arith, first_lt))

  place_over : (k : ℕ) → k < low % cap → place_of cap low (cap - low % cap + k) ≡ k
  place_over k h =
      place_flat cap C low (cap - low % cap + k)
      ∙ mod-eq-sub-mod {m = cap} (omega (arith, first_lt))
      ∙ mod-eq_of_lt (omega (arith, first_lt))
      ∙ omega (arith, first_lt)

  by_ages : (f : ℕ → Bool) → all_to f cap ≡ all_to (λ i. f (age_of cap low i)) cap
  by_ages f =
      same_truth (all_to f cap) (all_to (λ i. f (age_of cap low i)) cap)
      (λ t. all_of (λ i. f (age_of cap low i)) cap (λ i h. all_at f cap t (age_of cap low i) (age_lt cap C low i)))
      (λ t.
      all_of f cap
      (λ k h.
      ap f (sym (age_place cap C low k h)) ∙ all_at (λ i. f (age_of cap low i)) cap t (place_of cap low k) (place_lt cap C low k)))

  -- what the slots add up to is what their packets do, oldest first
  sum_round : (f : ℕ → ℕ) → sum_to (λ k. f (place_of cap low k)) cap ≡ sum_to f cap
  sum_round f =
      let s = low % cap in
      let g : ℕ → ℕ = λ k. f (place_of cap low k) in
      let l = first_lt in
      let back : cap - s + s ≡ cap = omega arith in
      let forth : s + (cap - s) ≡ cap = omega arith in
      omega (
        arith,
        ap (sum_to g) back,
        sum_join g (cap - s) s,
        sum_same g (λ k. f (s + k)) (cap - s) (λ k h. ap f (place_on k h)),
        sum_same (λ k. g (cap - s + k)) f s (λ k h. ap f (place_over k h)),
        ap (sum_to f) forth,
        sum_join f s (cap - s),
      )

  -- the first n packets
  pub sum_window : (f : ℕ → ℕ) (n : ℕ) → n ≤ cap
      → sum_to (λ k. f (place_of cap low k)) n ≡ sum_to (λ i. if_so (ltb (age_of cap low i) n) (f i) 0) cap
  unfolding if_so
  sum_window f n h =
      let inside : ℕ → ℕ = λ i. if_so (ltb (age_of cap low i) n) (f i) 0 in
      let g : ℕ → ℕ = λ k. inside (place_of cap low k) in
      let rest : n + (cap - n) ≡ cap = omega arith in
      omega (
        arith,
        sum_same (λ k. f (place_of cap low k)) g n
            (λ k l. sym (ap (λ (b : Bool). if_so b (f (place_of cap low k)) 0)
            (ap (λ (a : ℕ). ltb a n) (age_place cap C low k (omega arith)) ∙ lt-ltb k n l))),
        sum_none (λ k. g (n + k)) (cap - n)
            (λ k l. ap (λ (b : Bool). if_so b (f (place_of cap low (n + k))) 0)
            (ap (λ (a : ℕ). ltb a n) (age_place cap C low (n + k) (omega arith)) ∙ le-ltb (n + k) n (omega arith))),
        sum_join g n (cap - n),
        ap (sum_to g) rest,
        sum_round inside,
      )

-- two tests made at every slot
all_and : (f a b : ℕ → Bool) (n : ℕ) → ((k : ℕ) → k < n → f k ≡ (a k && b k)) → all_to f n ≡ (all_to a n && all_to b n)
all_and f a b n h =
    same_truth (all_to f n) (all_to a n && all_to b n)
    (λ t.
    let p : (k : ℕ) → k < n → (a k ≡ true) × (b k ≡ true) = λ k l. both (a k) (b k) (sym (h k l) ∙ all_at f n t k l) in
    whole (all_of a n (λ k l. (p k l).0)) (all_of b n (λ k l. (p k l).1)))
    (λ t.
    let p = both (all_to a n) (all_to b n) t in
    all_of f n (λ k l. h k l ∙ whole (all_at a n p.0 k l) (all_at b n p.1 k l)))

-- ---- runs of slots

module _ (mtu clock : ℕ) (out sizes sent : List ℕ) (cap : ℕ) (C : Cap cap) (low n : ℕ) where
  slot : ℕ → Bool
  slot = slot_at mtu clock out sizes sent cap low n

  slot_on : (i : ℕ) → age_of cap low i < n → slot i ≡ live_at mtu clock sizes sent i
  unfolding slot slot_at if_so
  slot_on i h = rw (lt-ltb (age_of cap low i) n h) refl

  slot_off : (i : ℕ) → n ≤ age_of cap low i → slot i ≡ zero_at out sizes sent i
  unfolding slot slot_at if_so
  slot_off i h = rw (le-ltb (age_of cap low i) n h) refl

  module _ (s e : ℕ) (first : s ≡ low % cap) (end : e ≡ s + n) where
    -- the packets lie in one run
    pub run_one : e ≤ cap
        → ((all_in (live_at mtu clock sizes sent) s e && all_in (zero_at out sizes sent) e cap) && all_in (zero_at out sizes sent) 0 s)
        ≡ all_to (slot_at mtu clock out sizes sent cap low n) cap
    unfolding slot
    run_one h =
        three slot (zero_at out sizes sent) (live_at mtu clock sizes sent) (zero_at out sizes sent) s e cap (omega arith) h
        (λ i l. slot_off i (omega (arith, age_over cap C low i (omega arith))))
        (λ i a b. slot_on i (omega (arith, age_on cap C low i (omega arith) (omega arith))))
        (λ i a b. slot_off i (omega (arith, age_on cap C low i b (omega arith))))

    -- or in two: up to the ring's end, and from its start on
    pub run_two : cap < e → n ≤ cap
        → ((all_in (zero_at out sizes sent) (e - cap) s && all_in (live_at mtu clock sizes sent) s cap)
        && all_in (live_at mtu clock sizes sent) 0 (e - cap))
        ≡ all_to (slot_at mtu clock out sizes sent cap low n) cap
    unfolding slot
    run_two h f =
        three slot (live_at mtu clock sizes sent) (zero_at out sizes sent) (live_at mtu clock sizes sent) (e - cap) s cap (omega arith)
        (omega (arith, first_lt cap C low))
        (λ i l. slot_on i (omega (arith, age_over cap C low i (omega arith), first_lt cap C low)))
        (λ i a b. slot_off i (omega (arith, age_over cap C low i (omega arith), first_lt cap C low)))
        (λ i a b. slot_on i (omega (arith, age_on cap C low i b (omega arith))))

-- ---- one slot: `b`: it is one of low..next-1; `o`, `k`: its bits; `w`: its number; `t`: its time

abbrev shown_as : Bool → Bool → Bool → ℕ → ℕ → Packet
shown_as b o k w t = record { status = status_of b o k; size = size_in w; sent = t; resent = resent_in w }

swap : (s t r : Bool) → ((s && t) && r) ≡ ((s && r) && t)
swap true true true = refl
swap true true false = refl
swap true false true = refl
swap true false false = refl
swap false t r = refl

zero_leb : (x : ℕ) → eqb x 0 ≡ leb x 0
zero_leb x =
    same_truth (eqb x 0) (leb x 0) (λ t. le-leb x 0 (omega (arith, eqb-true x 0 t))) (λ t. eq-eqb x 0 (omega (arith, leb-true x 0 t)))

module _ (mtu clock w t : ℕ) where
  live_test : (s : ℕ) → inside flying_status s done_status ≡ true
      → is_live mtu clock (record { status = s; size = size_in w; sent = t; resent = resent_in w })
      ≡ (sized_in size_least mtu resent_most w && leb t clock)
  unfolding is_live sized_in
  live_test s e = rw e (swap (inside size_least (size_in w) mtu) (leb t clock) (leb (resent_in w) resent_most))

  zero_test : is_zero (record { status = 0; size = size_in w; sent = t; resent = resent_in w }) ≡ (sized_in 0 0 0 w && leb t 0)
  unfolding is_zero sized_in inside
  zero_test =
      rw (zero_leb (size_in w), zero_leb t, zero_leb (resent_in w), le-leb 0 (size_in w) zero-le)
      (swap (leb (size_in w) 0) (leb t 0) (leb (resent_in w) 0))

  slot_test : (b o k : Bool)
      → if_so b (is_live mtu clock (shown_as b o k w t)) (is_zero (shown_as b o k w t))
      ≡ (not (k && not o) && if_so b (sized_in size_least mtu resent_most w && leb t clock) ((not o && sized_in 0 0 0 w) && leb t 0))
  unfolding if_so status_of inside is_live is_zero
  slot_test true true true = live_test 2 refl
  slot_test true true false = live_test 1 refl
  slot_test true false true = refl
  slot_test true false false = live_test 3 refl
  slot_test false true true = refl
  slot_test false true false = refl
  slot_test false false true = refl
  slot_test false false false = zero_test

-- what a slot adds to the totals, once its bits hold together
module _ (w t : ℕ) where
  bits_add : (b o k : Bool) → not (k && not o) ≡ true → if_so b true (not o) ≡ true
      → (if_so b (flying_one (shown_as b o k w t)) 0 + one k ≡ one o)
      × (if_so b (marked_one (shown_as b o k w t)) 0 ≡ one k)
      × (if_so b (marked_size (shown_as b o k w t)) 0 ≡ if_so k (size_in w) 0)
  unfolding if_so if_eq status_of flying_one marked_one marked_size one
  bits_add true true true e h = (refl, refl, refl)
  bits_add true true false e h = (refl, refl, refl)
  bits_add true false true e h = absurd (false≢true e)
  bits_add true false false e h = (refl, refl, refl)
  bits_add false true k e h = absurd (false≢true h)
  bits_add false false true e h = absurd (false≢true e)
  bits_add false false false e h = (refl, refl, refl)

bits_clear : (b x p q r : Bool) → if_so b x ((p && q) && r) ≡ true → if_so b true p ≡ true
unfolding if_so
bits_clear true x p q r e = refl
bits_clear false x p q r e = (both p q (both (p && q) r e).0).0

-- low is done where it has neither bit
head_test : (o k : Bool) → not (eqb (status_of true o k) done_status) ≡ (o || k)
unfolding status_of if_so
head_test true true = refl
head_test true false = refl
head_test false true = refl
head_test false false = refl

-- the status test of a slot is that of its bits
status_bits : (b o k : Bool)
    → if_so b (inside flying_status (status_of b o k) done_status) (eqb (status_of b o k) 0) ≡ (not (k && not o) && (b || not (o || k)))
unfolding status_of if_so inside
status_bits true true true = refl
status_bits true true false = refl
status_bits true false true = refl
status_bits true false false = refl
status_bits false true true = refl
status_bits false true false = refl
status_bits false false true = refl
status_bits false false false = refl

-- ---- what the packets of a queue add up to

table_sum : (adds : Packet → ℕ) (f : ℕ → Packet) (n : ℕ) → sum_of adds (tabulate f n) ≡ sum_to (λ k. adds (f k)) n
unfolding sum_of tabulate sum_to
table_sum adds f zero = refl
table_sum adds f (suc n) =
    let one : 1 + n ≡ suc n = omega arith in
    omega (
      arith,
      table_sum adds (λ k. f (suc k)) n,
      sum_join (λ k. adds (f k)) 1 n,
      ap (sum_to (λ k. adds (f k))) one,
      sum_same (λ k. adds (f (1 + k))) (λ k. adds (f (suc k))) n (λ k h. ap (λ (j : ℕ). adds (f j)) (omega arith)),
    )

pub sum_plus : (f g h : ℕ → ℕ) (n : ℕ) → ((k : ℕ) → k < n → f k + g k ≡ h k) → sum_to f n + sum_to g n ≡ sum_to h n
unfolding sum_to
sum_plus f g h zero e = refl
sum_plus f g h (suc n) e = omega (arith, sum_plus f g h n (λ k l. e k (omega arith)), e n (omega arith))

-- ---- the memory and the ring that it shows

-- the slot k after low, of which the first n are low..next-1, by its status alone
unfoldable pub status_ok : Ring → ℕ → ℕ → ℕ → Bool
status_ok r low n k =
    let s = (packet_at r (place_of (cap_of r) low k)).status in
    if_lt k n (inside flying_status s done_status) (eqb s 0)

module _ (f : Flow) (m : Memory) (L : Lengths m) (W : Words m) where
  r : Ring
  r = shown f.low f.next m

  cap : ℕ
  cap = slots_of m

  C : Cap cap
  unfolding cap
  C = cap_facts (slots_of m) (ap is_capacity (slots_even m L) ∙ L.cap)

  -- slot i is one of low..next-1
  live : ℕ → Bool
  live i = ltb (age_of cap f.low i) (long_of f)

  at : (i : ℕ) → i < cap
      → packet_at r i ≡ shown_as (live i) (bit_at m.outstanding i) (bit_at m.marked i) (get_or m.sizes i 0) (get_or m.sent i 0)
  unfolding r cap live long_of in_window
  at i h =
      shown_at f.low f.next m i h
      ∙ ap
      (λ (s : ℕ).
      record {
        status = s;
        size = size_in (get_or m.sizes i 0);
        sent = get_or m.sent i 0;
        resent = resent_in (get_or m.sizes i 0);
      })
      (status_is f.low f.next m i L W h)

  -- the slot of a packet, and the packet of a slot
  by_slot : (i : ℕ) → i < cap → place_of (cap_of r) f.low (age_of cap f.low i) ≡ i
  unfolding r cap
  by_slot i h =
      ap (λ (c : ℕ). place_of c f.low (age_of cap f.low i)) (shown_cap f.low f.next m) ∙ place_age cap C f.low i h

  module _ (mtu clock : ℕ) where
    slot_is : (i : ℕ) → i < cap
        → slot_ok mtu clock r f.low (long_of f) (age_of cap f.low i)
        ≡ (mark_ok m.outstanding m.marked i && slot_at mtu clock m.outstanding m.sizes m.sent cap f.low (long_of f) i)
    unfolding slot_ok if_lt if_so live mark_ok slot_at live_at zero_at sized_at timed_at clear_at
    slot_is i h =
        ap (λ (p : ℕ). if_so (live i) (is_live mtu clock (packet_at r p)) (is_zero (packet_at r p))) (by_slot i h)
        ∙ ap (λ (x : Packet). if_so (live i) (is_live mtu clock x) (is_zero x)) (at i h)
        ∙ slot_test mtu clock (get_or m.sizes i 0) (get_or m.sent i 0) (live i) (bit_at m.outstanding i) (bit_at m.marked i)

    -- every slot's test, in two parts
    pub all_slots : all_to (slot_ok mtu clock (shown f.low f.next m) f.low (long_of f)) (slots_of m)
        ≡ (all_to (mark_ok m.outstanding m.marked) (slots_of m)
        && all_to (slot_at mtu clock m.outstanding m.sizes m.sent (slots_of m) f.low (long_of f)) (slots_of m))
    unfolding r cap
    all_slots =
        by_ages cap C f.low (slot_ok mtu clock r f.low (long_of f))
        ∙ all_and (λ i. slot_ok mtu clock r f.low (long_of f) (age_of cap f.low i)) (mark_ok m.outstanding m.marked)
        (slot_at mtu clock m.outstanding m.sizes m.sent cap f.low (long_of f)) cap slot_is

  -- low is not done
  first_is : f.low < psns → 0 < long_of f
      → (bit_at m.outstanding (f.low % cap) || bit_at m.marked (f.low % cap))
      ≡ not (is_done (packet_at r (place_of (cap_of r) f.low 0)))
  unfolding r cap is_done live
  first_is h l =
      let s = f.low % cap in
      let i = first_lt cap C f.low in
      let place : place_of (cap_of r) f.low 0 ≡ s =
      ap (λ (c : ℕ). place_of c f.low 0) (shown_cap f.low f.next m) ∙ place_first cap f.low h in
      let age : live s ≡ true = lt-ltb (age_of cap f.low s) (long_of f) (omega (arith, age_on cap C f.low s i (omega arith))) in
      sym
      (ap (λ (p : ℕ). not (eqb (packet_at r p).status done_status)) place
      ∙ ap (λ (x : Packet). not (eqb x.status done_status)) (at s i)
      ∙ ap (λ (b : Bool). not (eqb (status_of b (bit_at m.outstanding s) (bit_at m.marked s)) done_status)) age
      ∙ head_test (bit_at m.outstanding s) (bit_at m.marked s))

  pub head_is : f.low < psns
      → (eqb (long_of f) 0 || bit_at m.outstanding (f.low % slots_of m) || bit_at m.marked (f.low % slots_of m))
      ≡ head_ok (shown f.low f.next m) f.low (long_of f)
  unfolding head_ok r cap
  head_is h =
      by_cases (dec_lt 0 (long_of f)) (λ l. rw (ne_eqb (long_of f) 0 (λ e. omega arith)) (first_is h l))
      (λ l. rw (eq-eqb (long_of f) 0 (omega arith)) refl)

  status_at_lem : (i : ℕ) → i < cap → status_ok r f.low (long_of f) (age_of cap f.low i) ≡ bits_at f.low f.next m i
  unfolding cap live status_ok if_lt if_so bits_at in_window long_of
  status_at_lem i h =
      let test : Packet → Bool = λ x. if_so (live i) (inside flying_status x.status done_status) (eqb x.status 0) in
      ap (λ (p : ℕ). test (packet_at r p)) (by_slot i h) ∙ ap test (at i h)
      ∙ status_bits (live i) (bit_at m.outstanding i) (bit_at m.marked i)

  -- NUMBER 2 IN THE MEMORY'S WORDS: the statuses that it shows pass their test exactly if its bits pass theirs
  pub status_test : all_to (status_ok (shown f.low f.next m) f.low (long_of f)) (slots_of m) ≡ bits_ok f.low f.next m
  unfolding r cap bits_ok
  status_test =
      by_ages cap C f.low (status_ok r f.low (long_of f))
      ∙ all_same (λ i. status_ok r f.low (long_of f) (age_of cap f.low i)) (bits_at f.low f.next m) cap status_at_lem

  module _ (fit : long_of f ≤ slots_of m) where
    queue_adds : (adds : Packet → ℕ) → sum_of adds (packets f r) ≡ sum_to (λ i. if_so (live i) (adds (packet_at r i)) 0) cap
    unfolding r cap live packets queue_of
    queue_adds adds =
        table_sum adds (λ k. packet_at r (place_of (cap_of r) f.low k)) (long_of f)
        ∙ ap (λ (c : ℕ). sum_to (λ k. adds (packet_at r (place_of c f.low k))) (long_of f)) (shown_cap f.low f.next m)
        ∙ sum_window cap C f.low (λ i. adds (packet_at r i)) (long_of f) fit

    module _ (mtu clock : ℕ) (marks : all_to (mark_ok m.outstanding m.marked) (slots_of m) ≡ true)
        (slots : all_to (slot_at mtu clock m.outstanding m.sizes m.sent (slots_of m) f.low (long_of f)) (slots_of m) ≡ true) where
      adds_at_lem : (i : ℕ) → i < cap
          → let o = bit_at m.outstanding i in
          let k = bit_at m.marked i in
          let x = packet_at r i in
          (if_so (live i) (flying_one x) 0 + one k ≡ one o) × (if_so (live i) (marked_one x) 0 ≡ one k)
          × (if_so (live i) (marked_size x) 0 ≡ if_so k (size_in (get_or m.sizes i 0)) 0)
      unfolding cap live mark_ok slot_at zero_at clear_at
      adds_at_lem i h =
          rw (at i h)
          (bits_add (get_or m.sizes i 0) (get_or m.sent i 0) (live i) (bit_at m.outstanding i) (bit_at m.marked i)
          (all_at (mark_ok m.outstanding m.marked) cap marks i h)
          (bits_clear (live i) _ _ _ _
          (all_at (slot_at mtu clock m.outstanding m.sizes m.sent cap f.low (long_of f)) cap slots i h)))

      -- the packets' totals are those of the bits
      pub totals_are : (sum_of flying_one (packets f (shown f.low f.next m)) + ones_of m.marked ≡ ones_of m.outstanding)
          × (sum_of marked_one (packets f (shown f.low f.next m)) ≡ ones_of m.marked)
          × (sum_of marked_size (packets f (shown f.low f.next m)) ≡ bytes_of m.marked m.sizes)
      unfolding r cap ones_of bytes_of one_at size_at
      totals_are =
          let out : cap ≡ length m.outstanding * 64 = slots_even m L in
          let mark : cap ≡ length m.marked * 64 = omega (arith, L.marked) in (
            rw (← out, ← mark)
                (ap (λ (x : ℕ). x + sum_to (one_at m.marked) cap) (queue_adds flying_one)
                ∙ sum_plus (λ i. if_so (live i) (flying_one (packet_at r i)) 0) (one_at m.marked) (one_at m.outstanding) cap
                (λ i h. (adds_at_lem i h).0)),
            rw (← mark)
                (queue_adds marked_one
                ∙ sum_same (λ i. if_so (live i) (marked_one (packet_at r i)) 0) (one_at m.marked) cap (λ i h. (adds_at_lem i h).1)),
            rw (← mark)
                (queue_adds marked_size
                ∙ sum_same (λ i. if_so (live i) (marked_size (packet_at r i)) 0) (size_at m.marked m.sizes) cap (λ i h. (adds_at_lem i h).2)),
          )

-- ---- the test of the ledger, as it is made

-- what is outstanding flies or is marked
pub outstanding_test : (x y a b o : ℕ) → a + b ≡ o → (eqb (x + y) o && eqb y b) ≡ (eqb x a && eqb y b)
outstanding_test x y a b o e =
    same_truth (eqb (x + y) o && eqb y b) (eqb x a && eqb y b)
    (λ t.
    let p = both (eqb (x + y) o) (eqb y b) t in
    let u = eqb-true (x + y) o p.0 in
    let v = eqb-true y b p.1 in
    whole (eq-eqb x a (omega arith)) p.1)
    (λ t.
    let p = both (eqb x a) (eqb y b) t in
    let u = eqb-true x a p.0 in
    let v = eqb-true y b p.1 in
    whole (eq-eqb (x + y) o (omega arith)) p.1)

module _ (mtu clock : ℕ) (f : Flow) (m : Memory) where
  pub not_even : is_even m ≡ false → false ≡ stands mtu clock f (shown f.low f.next m)
  unfolding stands
  not_even h = simp (shown_ring f.low f.next m, h)

  pub too_long : is_even m ≡ true → slots_of m < long_of f → false ≡ stands mtu clock f (shown f.low f.next m)
  unfolding stands
  too_long h l = simp (shown_ring f.low f.next m, h, shown_cap f.low f.next m, lt-leb (long_of f) (slots_of m) l)

  module _ (L : Lengths m) (W : Words m) (even : is_even m ≡ true) (fit : long_of f ≤ slots_of m) where
    abbrev marks : Bool
    marks = all_to (mark_ok m.outstanding m.marked) (slots_of m)

    abbrev slots : Bool
    slots = all_to (slot_at mtu clock m.outstanding m.sizes m.sent (slots_of m) f.low (long_of f)) (slots_of m)

    abbrev head : Bool
    head = eqb (long_of f) 0 || bit_at m.outstanding (f.low % slots_of m) || bit_at m.marked (f.low % slots_of m)

    -- low and next are machine words: their tests hold
    stands_is : f.low < psns → f.next < psns
        → stands mtu clock f (shown f.low f.next m)
        ≡ ((marks && slots) && head && ltb f.held counts && leb f.backlog backlog_most)
    unfolding stands
    stands_is low next =
        simp (
          shown_ring f.low f.next m,
          even,
          shown_cap f.low f.next m,
          le-leb (long_of f) (slots_of m) fit,
          all_slots f m L W mtu clock,
          sym (head_is f m L W low),
          lt-ltb f.low psns low,
          lt-ltb f.next psns next,
          and-true,
        )

    pub all_tests : (a b c : Bool) → a ≡ marks → b ≡ slots → c ≡ head → f.low < psns → f.next < psns
        → (a && b && c && ltb f.held counts && leb f.backlog backlog_most) ≡ stands mtu clock f (shown f.low f.next m)
    all_tests a b c ea eb ec low next = rw (ea, eb, ec) (sym (stands_is low next))

  -- WHAT THE BITS ADD UP TO where the flow and its ring hold together: its packets
  module _ (so : stands mtu clock f (shown f.low f.next m) ≡ true) where
    pub tally_adds :
        (sum_of flying_one (packets f (shown f.low f.next m)) + (tally_of f m).marked ≡ (tally_of f m).outstanding)
        × (sum_of marked_one (packets f (shown f.low f.next m)) ≡ (tally_of f m).marked)
        × (sum_of marked_size (packets f (shown f.low f.next m)) ≡ (tally_of f m).marked_bytes)
    unfolding tally_of
    tally_adds =
        let L = stands_lengths mtu clock f m so in
        let W = stands_words mtu clock f m so in
        let F = stands_facts mtu clock f (shown f.low f.next m) so in
        let fit : long_of f ≤ slots_of m = omega (arith, F.fits, shown_cap f.low f.next m) in
        let even = stands_even mtu clock f m so in
        let t = sym (stands_is L W even fit F.low_psn F.next_psn) ∙ so in
        let held = both _ (leb f.backlog backlog_most) t in
        let first = both _ (ltb f.held counts) held.0 in
        let p = both _ _ (both _ _ first.0).0 in
        totals_are f m L W fit mtu clock p.0 p.1

pub tally_backlog : (f : Flow) (m : Memory) → f.backlog ≡ (tally_of f m).backlog
unfolding tally_of
tally_backlog f m = refl

-- the totals' test by a tally is that by sums of packets, where these are the tally's
pub totals_test : (maxwnd : ℕ) (t : Totals) (f : Flow) (s : Tally) (xs : List Packet)
    → sum_of flying_one xs + s.marked ≡ s.outstanding → sum_of marked_one xs ≡ s.marked → sum_of marked_size xs ≡ s.marked_bytes
    → f.backlog ≡ s.backlog
    → (totals_ok t s && in_bounds maxwnd t.in_flight) ≡ tallies maxwnd alone t f xs
unfolding totals_ok tallies
totals_test maxwnd t f s xs flying marked bytes backlog =
    rw (
      zero-add (sum_of flying_one xs),
      zero-add (sum_of marked_one xs),
      zero-add (sum_of marked_size xs),
      zero-add f.backlog,
      marked,
      bytes,
      backlog,
    )
    (ap (λ (b : Bool). ((b && eqb t.marked_bytes s.marked_bytes) && eqb t.backlog s.backlog)
    && in_bounds maxwnd t.in_flight)
    (outstanding_test t.flying t.marked (sum_of flying_one xs) s.marked s.outstanding flying))

-- the ledger of a flow by itself: it stands, and the totals are those of its tally
module _ (mtu maxwnd clock : ℕ) (f : Flow) (t : Totals) (m : Memory) (ok : Bool)
    (is : ok ≡ stands mtu clock f (shown f.low f.next m)) where
  pub not_standing : not ok ≡ true → false ≡ sound_ledger mtu maxwnd clock alone (ledger_shown f t m)
  unfolding sound_ledger
  not_standing e = rw (sym is ∙ not-true ok e)

  pub standing : not ok ≡ false → (a b : Bool) → a ≡ totals_ok t (tally_of f m) → b ≡ in_bounds maxwnd t.in_flight
      → (a && b) ≡ sound_ledger mtu maxwnd clock alone (ledger_shown f t m)
  unfolding sound_ledger
  standing e a b ea eb =
      let so = sym is ∙ not-false ok e in
      let T = tally_adds mtu clock f m so in
      rw (ea, eb, so)
      (totals_test maxwnd t f (tally_of f m) (packets f (shown f.low f.next m)) T.0 T.1 T.2 (tally_backlog f m))
