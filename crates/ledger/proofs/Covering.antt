-- The loop that covers the packets a word at a time, over lists and numbers: its invariant, where it starts, one turn, and the end. What is
-- covered of the first k packets has lost its bits and has left the totals.
-- Assumes nothing.
use Rattle.std.proofs.Common.{◌≡◌, ℕ, zero, suc, ◌+◌, ◌-◌, ◌*◌, ◌/◌, ◌%◌, ◌^◌, ◌<◌, ◌≤◌, Bool, true, false, not, ◌&&◌, ltb, ◌⊎◌, List, length, get_or, take, set, sym, refl, ap, ◌∙◌, subst, ap₂, inl, inr, ⊎_elim, zero-le, add-zero, arith, length-set, le-ltb, lt-ltb}
use mathlib.Core.Bool.{and-true, false≢true}
use mathlib.Core.Logic.{by_cases}
use native.Mathlib.Decide.{dec_lt}
use lib.ListN.{get_or-eq_default}
use Rattle.rules.specs.Branch.{if_so}
use Rattle.rules.specs.Test.{whole}
use Rattle.bits.specs.Bits.{is_word, bit, bit_at, one, word_of, without, sum_to, count_in}
use Rattle.bits.proofs.Digits.{bit_mod, bit_shl_above, bit_shl_below}
use Rattle.bits.proofs.Words.{
  same_or_not,
  value_bit,
  without_bit,
  without_word,
  set_here,
  set_there,
  set_word,
  sum_same,
  sum_join,
  sum_none,
}
use Rattle.serial.specs.Psn.{psns, plus, covered}
use Rattle.serial.proofs.Cover.{plus_plus}
use Rattle.ledger.specs.Packets.{no_packet, flying_one, marked_one, marked_size, sum_of, cover_one, cover_all, covered_sum}
use Rattle.ledger.specs.Ring.{age_of, place_of, packet_at, laid, long_of, packets}
use Rattle.ledger.specs.Memory.{Memory, memory, slots_of, size_in, shown, ledger_shown, in_window, Words}
use Rattle.ledger.specs.Sound.{Lengths}
use Rattle.ledger.specs.Delivery.{sizes_of, bytes_in, lessened, Counted, slots, Standing, Reached, Covered}
use Rattle.ledger.specs.declared.Flow.{Flow}
use Rattle.ledger.specs.declared.Totals.{Totals}
use Rattle.ledger.specs.declared.Packet.{Packet}
use Rattle.ledger.proofs.Geometry.{age_lt, place_age, laid_cap, laid_even, laid_at}
use Rattle.ledger.proofs.Facts.{packets_long}
use Rattle.ledger.proofs.Queues.{OfOut, flying_out, marked_out, bytes_out, cover_long, cover_at, covered_le, taken_more, taken_whole}
use Rattle.ledger.proofs.Shows.{slots_even, shown_is}
use Rattle.ledger.proofs.Masks.{sum_both, sum_longer, so_false, one_no}
use Rattle.ledger.proofs.Fronts.{Slot, word_place_lem, slot_bit}
use Rattle.ledger.proofs.WordsShown.{slot_shown, even_cap, slot_shows, caps, slot_lt, age_of_lem, live_shows, packet_at_lem}
use Rattle.ledger.proofs.WordsShown.{in_window_lem, out_adds, mark_adds, bytes_add, cover_shows}

-- ---- tests

both_or : (a : Bool) → (a ≡ true) ⊎ (a ≡ false)
both_or true = inl refl
both_or false = inr refl

and_no : (a b : Bool) → b ≡ false → (a && b) ≡ false
and_no true b e = e
and_no false b e = refl

and_not_no : (a b : Bool) → b ≡ false → (a && not b) ≡ a
and_not_no true b e = rw e
and_not_no false b e = refl

left_of : (a b : Bool) → (a && b) ≡ true → a ≡ true
left_of true b e = refl
left_of false b e = e

right_of : (a b : Bool) → (a && b) ≡ true → b ≡ true
right_of true b e = e
right_of false b e = absurd (false≢true e)

-- ---- what is covered, slot by slot and packet by packet

-- slot i is that of one of the first k packets, which is covered
abbrev pub hit : ℕ → ℕ → ℕ → ℕ → ℕ → ℕ → Bool
hit cap low cum map k i = ltb (age_of cap low i) k && covered cum map (plus low (age_of cap low i))

-- what packet k has of a total that leaves it, and what the first k have
abbrev pub share : (Packet → ℕ) → Memory → Flow → ℕ → ℕ → ℕ → ℕ
share adds m f cum map k =
    if_so (covered cum map (plus f.low k)) (adds (packet_at (shown f.low f.next m) (place_of (slots m) f.low k))) 0

unfoldable pub gone : (Packet → ℕ) → Memory → Flow → ℕ → ℕ → ℕ → ℕ
gone adds m f cum map k = sum_to (λ a. share adds m f cum map a) k

-- the two arrays, of which the covered ones of the first k packets have left, and the totals
pub record Inv (m : Memory) (f : Flow) (t : Totals) (far cum map : ℕ) (out mark : List ℕ) (left : Totals) (k : ℕ) : Type 0 where
  pub standing : Standing m f
  pub reached : Reached m f t far cum map
  pub low_fits : f.low < psns
  pub near : k ≤ far + 63
  pub out_long : length out ≡ length m.outstanding
  pub mark_long : length mark ≡ length m.outstanding
  pub words : Words (memory out mark m.sizes m.sent)
  pub out_bits : (i : ℕ) → i < slots m → bit_at out i ≡ (bit_at m.outstanding i && not (hit (slots m) f.low cum map k i))
  pub mark_bits : (i : ℕ) → i < slots m → bit_at mark i ≡ (bit_at m.marked i && not (hit (slots m) f.low cum map k i))
  pub flying_is : left.flying + gone flying_one m f cum map k ≡ t.flying
  pub marked_is : left.marked + gone marked_one m f cum map k ≡ t.marked
  pub bytes_is : left.marked_bytes + gone marked_size m f cum map k ≡ t.marked_bytes
  pub backlog : left.backlog ≡ t.backlog
  pub in_flight : left.in_flight ≡ t.in_flight

pub starts : {m : Memory} {f : Flow} {t : Totals} {far cum map : ℕ} → Standing m f → Reached m f t far cum map → f.low < psns
    → Inv m f t far cum map m.outstanding m.marked t 0
unfolding gone sum_to
starts {m} {f} {t} {far} {cum} {map} S R b =
    let none : (i : ℕ) → hit (slots m) f.low cum map 0 i ≡ false =
    λ i. ap (λ (x : Bool). x && covered cum map (plus f.low (age_of (slots m) f.low i)))
    (le-ltb (age_of (slots m) f.low i) 0 zero-le) in
    record {
      standing = S;
      reached = R;
      low_fits = b;
      near = zero-le;
      out_long = refl;
      mark_long = S.lengths.marked;
      words = record { outstanding = S.words.outstanding; marked = S.words.marked };
      out_bits = λ i h. sym (and_not_no (bit_at m.outstanding i) (hit (slots m) f.low cum map 0 i) (none i));
      mark_bits = λ i h. sym (and_not_no (bit_at m.marked i) (hit (slots m) f.low cum map 0 i) (none i));
      flying_is = add-zero t.flying;
      marked_is = add-zero t.marked;
      bytes_is = add-zero t.marked_bytes;
      backlog = refl;
      in_flight = refl;
    }

-- ---- what leaves a total

module _ {m : Memory} {f : Flow} {t : Totals} {far cum map : ℕ} (S : Standing m f) (R : Reached m f t far cum map) (b : f.low < psns) where
  abbrev queue : List Packet
  queue = packets f (shown f.low f.next m)

  -- a covered packet is one of the first `far`
  hit_near : (a : ℕ) → a < long_of f + 64 → covered cum map (plus f.low a) ≡ true → a < far
  hit_near a h e = by_cases (dec_lt a far) (λ l. l) (λ g. absurd (false≢true (sym (R.beyond a (omega arith) h) ∙ e)))

  module _ (adds : Packet → ℕ) where
    -- none leaves behind `far`
    gone_far : (k : ℕ) → far ≤ k → k ≤ long_of f + 64 → gone adds m f cum map k ≡ gone adds m f cum map far
    unfolding gone
    gone_far k h l =
        let e : far + (k - far) ≡ k = omega arith in
        let s : ℕ → ℕ = λ a. share adds m f cum map a in
        omega (
          arith,
          ap (sum_to s) e,
          sum_join s far (k - far),
          sum_none (λ j. s (far + j)) (k - far)
              (λ j n.
              so_false (covered cum map (plus f.low (far + j)))
              (adds (packet_at (shown f.low f.next m) (place_of (slots m) f.low (far + j)))) 0
              (R.beyond (far + j) (omega arith) (omega arith))),
        )

    -- what leaves is what the covered packets of the queue add up to
    gone_taken : (k : ℕ) → k ≤ long_of f → covered_sum adds (covered cum map) f.low (take k queue) ≡ gone adds m f cum map k
    unfolding gone sum_to covered_sum
    gone_taken zero h = refl
    gone_taken (suc k) h =
        let n : k < length queue = omega (arith, packets_long f (shown f.low f.next m)) in
        let e : suc k ≡ k + 1 = omega arith in
        ap (λ (x : ℕ). covered_sum adds (covered cum map) f.low (take x queue)) e
        ∙ taken_more adds (covered cum map) f.low k queue b n
        ∙ ap₂ (λ (x y : ℕ). x + y) (gone_taken k (omega arith))
        (ap (λ (x : Packet). if_so (covered cum map (plus f.low k)) (adds x) 0) (packet_at_lem S k h))

    pub gone_all : (k : ℕ) → far ≤ k → k ≤ long_of f + 64 → gone adds m f cum map k ≡ covered_sum adds (covered cum map) f.low queue
    gone_all k h l =
        gone_far k h l
        ∙ sym (gone_taken far R.within)
        ∙ taken_whole adds (covered cum map) f.low far queue b
        (λ j lo hi. R.beyond j lo (omega (arith, packets_long f (shown f.low f.next m))))

    pub gone_most : OfOut adds → (k : ℕ) → k ≤ long_of f + 64 → gone adds m f cum map k ≤ sum_of adds queue
    unfolding gone
    gone_most z k l =
        let s : ℕ → ℕ = λ a. share adds m f cum map a in
        omega (
          arith,
          sum_longer s k (long_of f + 64) l,
          gone_all (long_of f + 64) (omega (arith, R.within)) (omega arith),
          covered_le adds z (covered cum map) f.low queue,
        )

-- ---- one turn

-- a mask that tells of the packets of a word from packet k on, that of slot i
pub record Mask (low cum map k i mask : ℕ) : Type 0 where
  pub tells : (j : ℕ) → i % 64 + j < 64 → bit mask (i % 64 + j) ≡ covered cum map (plus low (k + j))
  pub spares : (s : ℕ) → s < i % 64 → bit mask s ≡ false

pub mask_is : (low cum map k i psn word : ℕ) → psn ≡ plus low k → word ≡ word_of (λ j. covered cum map (plus psn j))
    → Mask low cum map k i (word * 2 ^ (i % 64) % 2 ^ 64)
mask_is low cum map k i psn word ep ew =
    record {
      tells =
          λ j h.
          bit_mod (word * 2 ^ (i % 64)) 64 (i % 64 + j)
          ∙ ap₂ (λ (x y : Bool). x && y)
          (bit_shl_above word (i % 64) j
          ∙ ap (λ (x : ℕ). bit x j) ew
          ∙ value_bit (λ j. covered cum map (plus psn j)) 64 j (omega arith)
          ∙ ap (covered cum map) (ap (λ (p : ℕ). plus p j) ep ∙ plus_plus low k j))
          (lt-ltb (i % 64 + j) 64 h)
          ∙ and-true (covered cum map (plus low (k + j)));
      spares =
          λ s h.
          bit_mod (word * 2 ^ (i % 64)) 64 s ∙ ap (λ (x : Bool). x && ltb s 64) (bit_shl_below word (i % 64) s h);
    }

-- word q of an array, without the mask's bits
abbrev pub cleared : List ℕ → ℕ → ℕ → List ℕ
cleared ws q mask = set ws q (without (get_or ws q 0) mask)

module _ {m : Memory} {f : Flow} {t : Totals} {far cum map : ℕ} {out mark : List ℕ} {left : Totals} {k i mask : ℕ}
    (I : Inv m f t far cum map out mark left k) (h : k < far) (P : Slot m.outstanding f.low k i)
    (K : Mask f.low cum map k i mask) where
  abbrev rest : ℕ
  rest = 64 - i % 64

  abbrev age : ℕ → ℕ
  age x = age_of (slots m) f.low x

  abbrev slot_at : ℕ → ℕ
  slot_at j = place_of (slots m) f.low j

  abbrev hits : ℕ → ℕ → Bool
  hits n x = hit (slots m) f.low cum map n x

  -- the packets of the turn: their slots, and the slots' ages
  age_in : (j : ℕ) → i % 64 + j < 64 → k + j < slots m → age (i + j) ≡ k + j
  age_in j l n = ap (age_of (slots m) f.low) (sym (word_place_lem P j l)) ∙ age_of_lem I.standing (k + j) n

  turn_slot : (x : ℕ) → x < slots m → k ≤ age x → age x < k + rest → x ≡ i + (age x - k)
  turn_slot x n lo hi =
      let e : k + (age x - k) ≡ age x = omega arith in
      sym (place_age (slots m) (caps I.standing) f.low x n)
      ∙ ap (place_of (slots m) f.low) (sym e)
      ∙ word_place_lem P (age x - k) (omega arith)

  -- what the turn does not look at
  abbrev Other : ℕ → Type 0
  Other x = (age x < k) ⊎ (k + rest ≤ age x)

  hit_same : (x : ℕ) → Other x → hits k x ≡ hits (k + rest) x
  hit_same x o =
      ap (λ (b : Bool). b && covered cum map (plus f.low (age x)))
      (⊎_elim
      (λ l. lt-ltb (age x) k l ∙ sym (lt-ltb (age x) (k + rest) (omega arith)))
      (λ g. le-ltb (age x) k (omega arith) ∙ sym (le-ltb (age x) (k + rest) g)) o)

  -- the mask has no bit there, not even once round the ring
  mask_other : (x : ℕ) → x / 64 ≡ i / 64 → Other x → bit mask (x % 64) ≡ false
  mask_other x q o =
      by_cases (dec_lt (x % 64) (i % 64)) (λ l. K.spares (x % 64) l)
      (λ g.
      let j : ℕ = x % 64 - i % 64 in
      let s : i % 64 + j ≡ x % 64 = omega arith in
      let e : i + j ≡ x = omega arith in
      ap (bit mask) (sym s)
      ∙ K.tells j (omega arith)
      ∙ by_cases (dec_lt (k + j) (slots m))
      (λ l.
      let a : age x ≡ k + j = ap (age_of (slots m) f.low) (sym e) ∙ age_in j (omega arith) l in
      absurd (⊎_elim (λ y. omega arith) (λ y. omega arith) o))
      (λ n. I.reached.beyond (k + j) (omega (arith, I.reached.within, I.standing.fits)) (omega (arith, I.reached.within))))

  q_lt : i / 64 < length m.outstanding
  q_lt = omega (arith, P.inside)

  module _ (ws ws₀ : List ℕ) (long : length ws ≡ length m.outstanding)
      (bits : (x : ℕ) → x < slots m → bit_at ws x ≡ (bit_at ws₀ x && not (hits k x))) where
    bit_here : (x : ℕ) → x / 64 ≡ i / 64 → bit (get_or ws (i / 64) 0) (x % 64) ≡ bit_at ws x
    unfolding bit_at
    bit_here x q = ap (λ (p : ℕ). bit (get_or ws p 0) (x % 64)) (sym q)

    cleared_here : (x : ℕ) → x / 64 ≡ i / 64 → bit_at (cleared ws (i / 64) mask) x ≡ (bit_at ws x && not (bit mask (x % 64)))
    cleared_here x q =
        set_here ws (i / 64) (without (get_or ws (i / 64) 0) mask) x (omega (arith, q_lt)) q
        ∙ without_bit (get_or ws (i / 64) 0) mask (x % 64) (omega arith)
        ∙ ap (λ (b : Bool). b && not (bit mask (x % 64))) (bit_here x q)

    stays : (x : ℕ) → x < slots m → Other x → bit_at (cleared ws (i / 64) mask) x ≡ (bit_at ws₀ x && not (hits (k + rest) x))
    stays x n o =
        ⊎_elim
        (λ q. cleared_here x q ∙ and_not_no (bit_at ws x) (bit mask (x % 64)) (mask_other x q o))
        (λ q. set_there ws (i / 64) (without (get_or ws (i / 64) 0) mask) x q)
        (same_or_not (x / 64) (i / 64))
        ∙ bits x n
        ∙ ap (λ (b : Bool). bit_at ws₀ x && not b) (hit_same x o)

    turned : (x : ℕ) → x < slots m → bit_at (cleared ws (i / 64) mask) x ≡ (bit_at ws₀ x && not (hits (k + rest) x))
    turned x n =
        by_cases (dec_lt (age x) k) (λ l. stays x n (inl l))
        (λ g.
        by_cases (dec_lt (age x) (k + rest))
        (λ l.
        let j : ℕ = age x - k in
        let e : x ≡ i + j = turn_slot x n (omega arith) l in
        let a : age x ≡ k + j = omega arith in
        let r : x % 64 ≡ i % 64 + j = omega arith in
        let before : hits k x ≡ false =
        ap (λ (b : Bool). b && covered cum map (plus f.low (age x))) (le-ltb (age x) k (omega arith)) in
        let now : bit mask (x % 64) ≡ hits (k + rest) x =
        ap (bit mask) r
        ∙ K.tells j (omega arith)
        ∙ ap (λ (y : ℕ). covered cum map (plus f.low y)) (sym a)
        ∙ sym (ap (λ (b : Bool). b && covered cum map (plus f.low (age x))) (lt-ltb (age x) (k + rest) l)) in
        cleared_here x (omega arith)
        ∙ ap₂ (λ (b c : Bool). b && not c) (bits x n ∙ and_not_no (bit_at ws₀ x) (hits k x) before) now)
        (λ l. stays x n (inr (omega arith))))

    -- the bits of the turn's packets are still what they were
    bit_now : (j : ℕ) → i % 64 + j < 64 → k + j < slots m → bit (get_or ws (i / 64) 0) (i % 64 + j) ≡ bit_at ws₀ (slot_at (k + j))
    bit_now j l n =
        let before : hits k (i + j) ≡ false =
        ap (λ (b : Bool). b && covered cum map (plus f.low (age (i + j)))) (le-ltb (age (i + j)) k (omega (arith, age_in j l n))) in
        sym (slot_bit ws i j l)
        ∙ bits (i + j) (omega (arith, P.inside))
        ∙ and_not_no (bit_at ws₀ (i + j)) (hits k (i + j)) before
        ∙ ap (bit_at ws₀) (sym (word_place_lem P j l))

  -- ---- what the turn's packets have of the totals

  -- a sum over the word's bits is one over the turn's packets
  word_sum : (g s : ℕ → ℕ) → ((j : ℕ) → j < i % 64 → g j ≡ 0) → ((j : ℕ) → i % 64 + j < 64 → g (i % 64 + j) ≡ s (k + j))
      → sum_to g 64 ≡ sum_to (λ j. s (k + j)) rest
  word_sum g s none each =
      let e : i % 64 + rest ≡ 64 = omega arith in
      omega (
        arith,
        ap (sum_to g) e,
        sum_join g (i % 64) rest,
        sum_none g (i % 64) none,
        sum_same (λ j. g (i % 64 + j)) (λ j. s (k + j)) rest (λ j l. each j (omega arith)),
      )

  gone_more : (adds : Packet → ℕ)
      → gone adds m f cum map (k + rest) ≡ gone adds m f cum map k + sum_to (λ j. share adds m f cum map (k + j)) rest
  unfolding gone
  gone_more adds = sum_join (λ a. share adds m f cum map a) k rest

  gone_lt : (adds : Packet → ℕ) → OfOut adds → gone adds m f cum map (k + rest) ≤ sum_of adds (packets f (shown f.low f.next m))
  gone_lt adds z = gone_most I.standing I.reached I.low_fits adds z (k + rest) (omega (arith, I.reached.within))

  -- a packet that is covered is one of the flow's, and nothing leaves of one that is not
  module _ (j : ℕ) (l : i % 64 + j < 64) where
    abbrev hit_at : Bool
    hit_at = covered cum map (plus f.low (k + j))

    abbrev out_at : Bool
    out_at = bit_at m.outstanding (slot_at (k + j))

    abbrev mark_at : Bool
    mark_at = bit_at m.marked (slot_at (k + j))

    covered_or : {A : Type 0} → (k + j < long_of f → A) → (hit_at ≡ false → A) → A
    covered_or y n =
        ⊎_elim
        (λ e. y (omega (
          arith,
          hit_near I.standing I.reached I.low_fits (k + j) (omega (arith, I.reached.within)) e,
          I.reached.within,
        )))
        n (both_or hit_at)

    no_share : (adds : Packet → ℕ) → hit_at ≡ false → share adds m f cum map (k + j) ≡ 0
    no_share adds e = so_false hit_at (adds (packet_at (shown f.low f.next m) (slot_at (k + j)))) 0 e

    -- a share, by the two bits
    bits_share : (adds : Packet → ℕ) → k + j < long_of f
        → if_so hit_at (adds (slot_shown m (slot_at (k + j)) true out_at mark_at)) 0 ≡ share adds m f cum map (k + j)
    bits_share adds n = ap (λ (x : Packet). if_so hit_at (adds x) 0) (sym (live_shows I.standing (k + j) n))

    mark_hit : k + j < long_of f → (bit (get_or mark (i / 64) 0) (i % 64 + j) && bit mask (i % 64 + j)) ≡ (mark_at && hit_at)
    mark_hit n =
        ap₂ (λ (b c : Bool). b && c) (bit_now mark m.marked I.mark_long I.mark_bits j l (omega (arith, I.standing.fits)))
        (K.tells j l)

    out_hit : k + j < long_of f → (bit (get_or out (i / 64) 0) (i % 64 + j) && bit mask (i % 64 + j)) ≡ (out_at && hit_at)
    out_hit n =
        ap₂ (λ (b c : Bool). b && c) (bit_now out m.outstanding I.out_long I.out_bits j l (omega (arith, I.standing.fits)))
        (K.tells j l)

    -- no bit of the mask, nothing counted
    no_bit : (w : ℕ) → hit_at ≡ false → (bit w (i % 64 + j) && bit mask (i % 64 + j)) ≡ false
    no_bit w e = and_no (bit w (i % 64 + j)) (bit mask (i % 64 + j)) (K.tells j l ∙ e)

    mark_share : one (bit (get_or mark (i / 64) 0) (i % 64 + j) && bit mask (i % 64 + j)) ≡ share marked_one m f cum map (k + j)
    mark_share =
        covered_or
        (λ n.
        ap one (mark_hit n)
        ∙ mark_adds m (slot_at (k + j)) out_at mark_at hit_at (I.standing.marks (k + j) n)
        ∙ bits_share marked_one n)
        (λ e.
        one_no (bit (get_or mark (i / 64) 0) (i % 64 + j) && bit mask (i % 64 + j)) (no_bit (get_or mark (i / 64) 0) e)
        ∙ sym (no_share marked_one e))

    out_share : one (bit (get_or out (i / 64) 0) (i % 64 + j) && bit mask (i % 64 + j))
        ≡ share flying_one m f cum map (k + j) + share marked_one m f cum map (k + j)
    out_share =
        covered_or
        (λ n.
        ap one (out_hit n)
        ∙ out_adds m (slot_at (k + j)) out_at mark_at hit_at (I.standing.marks (k + j) n)
        ∙ ap₂ (λ (x y : ℕ). x + y) (bits_share flying_one n) (bits_share marked_one n))
        (λ e.
        one_no (bit (get_or out (i / 64) 0) (i % 64 + j) && bit mask (i % 64 + j)) (no_bit (get_or out (i / 64) 0) e)
        ∙ sym (ap₂ (λ (x y : ℕ). x + y) (no_share flying_one e) (no_share marked_one e)))

    bytes_share : if_so (bit (get_or mark (i / 64) 0) (i % 64 + j) && bit mask (i % 64 + j))
        (size_in (get_or m.sizes (i / 64 * 64 + (i % 64 + j)) 0)) 0
        ≡ share marked_size m f cum map (k + j)
    bytes_share =
        covered_or
        (λ n.
        let e : i / 64 * 64 + (i % 64 + j) ≡ i + j = omega arith in
        ap₂ (λ (b : Bool) (x : ℕ). if_so b (size_in (get_or m.sizes x 0)) 0) (mark_hit n) (e ∙ sym (word_place_lem P j l))
        ∙ bytes_add m (slot_at (k + j)) out_at mark_at hit_at (I.standing.marks (k + j) n)
        ∙ bits_share marked_size n)
        (λ e.
        so_false (bit (get_or mark (i / 64) 0) (i % 64 + j) && bit mask (i % 64 + j))
        (size_in (get_or m.sizes (i / 64 * 64 + (i % 64 + j)) 0)) 0 (no_bit (get_or mark (i / 64) 0) e)
        ∙ sym (no_share marked_size e))

  -- nothing before the turn's first packet
  before_bit : (w j : ℕ) → j < i % 64 → (bit w j && bit mask j) ≡ false
  before_bit w j l = and_no (bit w j) (bit mask j) (K.spares j l)

  marks_count : count_in (get_or mark (i / 64) 0) mask ≡ sum_to (λ j. share marked_one m f cum map (k + j)) rest
  unfolding count_in
  marks_count =
      word_sum (λ j. one (bit (get_or mark (i / 64) 0) j && bit mask j)) (λ a. share marked_one m f cum map a)
      (λ j l. one_no (bit (get_or mark (i / 64) 0) j && bit mask j) (before_bit (get_or mark (i / 64) 0) j l)) mark_share

  outs_count : count_in (get_or out (i / 64) 0) mask
      ≡ sum_to (λ j. share flying_one m f cum map (k + j)) rest + sum_to (λ j. share marked_one m f cum map (k + j)) rest
  unfolding count_in
  outs_count =
      word_sum (λ j. one (bit (get_or out (i / 64) 0) j && bit mask j))
      (λ a. share flying_one m f cum map a + share marked_one m f cum map a)
      (λ j l. one_no (bit (get_or out (i / 64) 0) j && bit mask j) (before_bit (get_or out (i / 64) 0) j l)) out_share
      ∙ sum_both (λ j. share flying_one m f cum map (k + j) + share marked_one m f cum map (k + j))
      (λ j. share flying_one m f cum map (k + j)) (λ j. share marked_one m f cum map (k + j)) rest (λ j l. refl)

  bytes_count : bytes_in (get_or mark (i / 64) 0) mask m.sizes (i / 64) ≡ sum_to (λ j. share marked_size m f cum map (k + j)) rest
  unfolding bytes_in sizes_of
  bytes_count =
      word_sum (λ j. if_so (bit (get_or mark (i / 64) 0) j && bit mask j) (size_in (get_or m.sizes (i / 64 * 64 + j) 0)) 0)
      (λ a. share marked_size m f cum map a)
      (λ j l.
      so_false (bit (get_or mark (i / 64) 0) j && bit mask j) (size_in (get_or m.sizes (i / 64 * 64 + j) 0)) 0
      (before_bit (get_or mark (i / 64) 0) j l)) bytes_share

  -- they are among those that the totals count ..
  pub counted : Counted (get_or out (i / 64) 0) (get_or mark (i / 64) 0) mask m.sizes (i / 64) left
  counted =
      record {
        waiting = omega (arith, marks_count, outs_count);
        flying =
            omega (arith, marks_count, outs_count, gone_more flying_one, gone_lt flying_one flying_out, I.flying_is, I.reached.flying);
        marked = omega (arith, marks_count, gone_more marked_one, gone_lt marked_one marked_out, I.marked_is, I.reached.marked);
        bytes = omega (arith, bytes_count, gone_more marked_size, gone_lt marked_size bytes_out, I.bytes_is, I.reached.bytes);
      }

  -- .. and leave them, with their bits
  cleared_words : (ws : List ℕ) → ((q : ℕ) → q < length ws → is_word (get_or ws q 0) ≡ true) → (q : ℕ) → q < length (cleared ws (i / 64) mask)
      → is_word (get_or (cleared ws (i / 64) mask) q 0) ≡ true
  cleared_words ws W q n =
      set_word ws (i / 64) (without (get_or ws (i / 64) 0) mask) q (without_word (get_or ws (i / 64) 0) mask)
      (W q (omega (arith, length-set ws (i / 64) (without (get_or ws (i / 64) 0) mask))))

  pub again : {out' mark' : List ℕ} {after : Totals} → out' ≡ cleared out (i / 64) mask → mark' ≡ cleared mark (i / 64) mask
      → after ≡ lessened (get_or out (i / 64) 0) (get_or mark (i / 64) 0) mask m.sizes (i / 64) left
      → Inv m f t far cum map out' mark' after (k + (64 - i % 64))
  unfolding lessened
  again eo em ea =
      rw (eo, em, ea)
      (record {
        standing = I.standing;
        reached = I.reached;
        low_fits = I.low_fits;
        near = omega arith;
        out_long = length-set out (i / 64) (without (get_or out (i / 64) 0) mask) ∙ I.out_long;
        mark_long = length-set mark (i / 64) (without (get_or mark (i / 64) 0) mask) ∙ I.mark_long;
        words =
            record {
              outstanding = cleared_words out I.words.outstanding;
              marked = cleared_words mark I.words.marked;
            };
        out_bits = turned out m.outstanding I.out_long I.out_bits;
        mark_bits = turned mark m.marked I.mark_long I.mark_bits;
        flying_is =
            omega (arith, marks_count, outs_count, gone_more flying_one, gone_lt flying_one flying_out, I.flying_is, I.reached.flying);
        marked_is = omega (arith, marks_count, gone_more marked_one, gone_lt marked_one marked_out, I.marked_is, I.reached.marked);
        bytes_is = omega (arith, bytes_count, gone_more marked_size, gone_lt marked_size bytes_out, I.bytes_is, I.reached.bytes);
        backlog = I.backlog;
        in_flight = I.in_flight;
      })

-- ---- the end

module _ {m : Memory} {f : Flow} {t : Totals} {far cum map : ℕ} {out mark : List ℕ} {left : Totals} {k : ℕ}
    (I : Inv m f t far cum map out mark left k) (h : far ≤ k) where
  abbrev after : Memory
  after = memory out mark m.sizes m.sent

  -- the slots of the two memories
  same_cap : slots after ≡ slots m
  same_cap = ap (λ (n : ℕ). n * 64) I.out_long

  lengths : Lengths after
  lengths =
      let L = I.standing.lengths in
      record {
        cap = rw I.out_long L.cap;
        marked = I.mark_long ∙ sym I.out_long;
        sizes = L.sizes ∙ sym same_cap;
        sent = L.sent ∙ sym same_cap;
      }

  abbrev age_at : ℕ → ℕ
  age_at x = age_of (slots m) f.low x

  -- a packet's slot has lost its bits where the packet is covered ..
  live_hit : (x : ℕ) → age_at x < long_of f → hit (slots m) f.low cum map k x ≡ covered cum map (plus f.low (age_at x))
  live_hit x l =
      ⊎_elim
      (λ e.
      ap (λ (b : Bool). b && covered cum map (plus f.low (age_at x)))
      (lt-ltb (age_at x) k (omega (arith, hit_near I.standing I.reached I.low_fits (age_at x) (omega arith) e))))
      (λ e. and_no (ltb (age_at x) k) (covered cum map (plus f.low (age_at x))) e ∙ sym e)
      (both_or (covered cum map (plus f.low (age_at x))))

  -- .. and another slot has lost none
  other_hit : (x : ℕ) → long_of f ≤ age_at x → hit (slots m) f.low cum map k x ≡ false
  other_hit x l =
      by_cases (dec_lt (age_at x) k)
      (λ y.
      and_no (ltb (age_at x) k) (covered cum map (plus f.low (age_at x)))
      (I.reached.beyond (age_at x) (omega (arith, I.reached.within)) (omega (arith, I.near, I.reached.within))))
      (λ n.
      ap (λ (b : Bool). b && covered cum map (plus f.low (age_at x))) (le-ltb (age_at x) k (omega arith)))

  -- what a slot shows
  shows : (x : ℕ) → x < slots m
      → packet_at (shown f.low f.next after) x
      ≡ slot_shown m x (in_window (slots m) f.low f.next x)
      (bit_at m.outstanding x && not (hit (slots m) f.low cum map k x))
      (bit_at m.marked x && not (hit (slots m) f.low cum map k x))
  shows x l =
      slot_shows f.low f.next lengths I.words x (omega (arith, same_cap))
      ∙ rw (same_cap, I.out_bits x l, I.mark_bits x l)

  -- another slot shows what it did
  other_shows : (x : ℕ) → x < slots m → long_of f ≤ age_at x
      → packet_at (shown f.low f.next after) x ≡ packet_at (shown f.low f.next m) x
  other_shows x l n =
      shows x l
      ∙ rw (
        and_not_no (bit_at m.outstanding x) (hit (slots m) f.low cum map k x) (other_hit x n),
        and_not_no (bit_at m.marked x) (hit (slots m) f.low cum map k x) (other_hit x n),
      )
      (sym (slot_shows f.low f.next I.standing.lengths I.standing.words x l))

  abbrev xs : List Packet
  xs = packets f (shown f.low f.next m)

  abbrev ys : List Packet
  ys = cover_all (covered cum map) f.low xs

  xs_long : length xs ≡ long_of f
  xs_long = packets_long f (shown f.low f.next m)

  ys_long : length ys ≡ long_of f
  ys_long = cover_long (covered cum map) f.low xs ∙ xs_long

  -- slot x, by its age
  slot_back : (x : ℕ) → x < slots m → place_of (slots m) f.low (age_at x) ≡ x
  slot_back x l = place_age (slots m) (caps I.standing) f.low x l

  -- a mark is on an outstanding packet
  marks_at : (x : ℕ) → x < slots m → age_at x < long_of f → bit_at m.marked x ≡ true → bit_at m.outstanding x ≡ true
  marks_at x l n e =
      subst (λ (y : ℕ). bit_at m.outstanding y ≡ true) (slot_back x l)
      (I.standing.marks (age_at x) n (subst (λ (y : ℕ). bit_at m.marked y ≡ true) (sym (slot_back x l)) e))

  each_slot : (x : ℕ) → x < slots m → packet_at (shown f.low f.next after) x ≡ get_or ys (age_at x) no_packet
  unfolding long_of
  each_slot x l =
      by_cases (dec_lt (age_at x) (long_of f))
      (λ n.
      shows x l
      ∙ rw (in_window_lem (slots m) f.low f.next x n, live_hit x n)
      (cover_shows m x (bit_at m.outstanding x) (bit_at m.marked x) (covered cum map (plus f.low (age_at x))) (marks_at x l n))
      ∙ ap (cover_one (covered cum map (plus f.low (age_at x))))
      (sym
      (packet_at_lem I.standing (age_at x) n
      ∙ live_shows I.standing (age_at x) n
      ∙ ap (λ (y : ℕ). slot_shown m y true (bit_at m.outstanding y) (bit_at m.marked y)) (slot_back x l)))
      ∙ sym (cover_at (covered cum map) f.low (age_at x) xs I.low_fits (omega (arith, xs_long))))
      (λ n.
      other_shows x l (omega arith)
      ∙ ap (packet_at (shown f.low f.next m)) (sym (slot_back x l))
      ∙ I.standing.empty (age_at x) (omega arith) (age_lt (slots m) (caps I.standing) f.low x)
      ∙ sym (get_or-eq_default ys no_packet (omega (arith, ys_long))))

  ring_after : shown f.low f.next after ≡ laid (slots m) f.low ys
  ring_after =
      let C = caps I.standing in
      let e : slots m ≡ slots_of after = sym (slots_even after lengths ∙ same_cap) in
      shown_is f.low f.next after (laid (slots m) f.low ys) lengths (laid_even (slots m) C f.low ys)
      (laid_cap (slots m) f.low ys ∙ e)
      (λ x l.
      let n : x < slots m = omega (arith, e) in
      each_slot x n
      ∙ sym
      (ap (packet_at (laid (slots m) f.low ys)) (sym (slot_back x n))
      ∙ laid_at (slots m) C f.low ys (age_at x) (age_lt (slots m) C f.low x)))

  pub covers : Covered (ledger_shown f t m) cum map left (shown f.low f.next after)
  covers =
      let sum : (adds : Packet → ℕ) → gone adds m f cum map k ≡ covered_sum adds (covered cum map) f.low xs =
      λ adds. gone_all I.standing I.reached I.low_fits adds k h (omega (arith, I.near, I.reached.within)) in
      record {
        ring_is =
            ring_after ∙ ap (λ (c : ℕ). laid c f.low ys) (sym (even_cap f.low f.next I.standing.lengths));
        flying = omega (arith, sum flying_one, I.flying_is);
        marked = omega (arith, sum marked_one, I.marked_is);
        bytes = omega (arith, sum marked_size, I.bytes_is);
        backlog = I.backlog;
        in_flight = I.in_flight;
      }

  -- what is left stands
  pub stands_on : Standing after f
  stands_on =
      record {
        lengths = lengths;
        words = I.words;
        fits = omega (arith, I.standing.fits, same_cap);
        marks =
            λ a l e.
            let x : ℕ = place_of (slots m) f.low a in
            let n : x < slots m = slot_lt I.standing a in
            let p : place_of (slots after) f.low a ≡ x = ap (λ (c : ℕ). place_of c f.low a) same_cap in
            let hits = hit (slots m) f.low cum map k x in
            let d : (bit_at m.marked x && not hits) ≡ true = sym (ap (bit_at mark) p ∙ I.mark_bits x n) ∙ e in
            ap (bit_at out) p
            ∙ I.out_bits x n
            ∙ whole (I.standing.marks a l (left_of (bit_at m.marked x) (not hits) d)) (right_of (bit_at m.marked x) (not hits) d);
        empty =
            λ a l n.
            let x : ℕ = place_of (slots m) f.low a in
            let o : a < slots m = omega (arith, same_cap) in
            ap (λ (c : ℕ). packet_at (shown f.low f.next after) (place_of c f.low a)) same_cap
            ∙ other_shows x (slot_lt I.standing a) (omega (arith, age_of_lem I.standing a o))
            ∙ I.standing.empty a l o;
      }
