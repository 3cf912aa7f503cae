-- The done packets at the front leave the ring: how many they are, by the first outstanding bit; which slots are emptied; the ring that is
-- left, slot by slot; and the loop that does it.
-- Assumes nothing.
use Rattle.std.proofs.Common.{◌≡◌, ℕ, suc, ◌+◌, ◌-◌, ◌%◌, ◌<◌, ◌≤◌, Bool, true, false, cond, not, eqb, List, [], ◌∷◌, length, get_or, drop, set, sym, refl, ap, ◌∙◌, ⊎_elim, arith, length-set, get_or-drop, get_or-set_other, get_or-set_same, below_more}
use mathlib.Core.Bool.{false≢true}
use mathlib.Core.Logic.{by_cases}
use native.Mathlib.Nat.{add-mod_right}
use native.Mathlib.Decide.{dec_lt}
use lib.ListN.{get_or-eq_default}
use Rattle.rules.specs.Branch.{if_so, if_eq}
use Rattle.bits.specs.Bits.{bit_at, lowest}
use Rattle.bits.proofs.Words.{same_or_not, lowest_le, lowest_before, lowest_is, lowest_same}
use Rattle.serial.specs.Wrap.{minus}
use Rattle.serial.specs.Psn.{psns, plus}
use Rattle.serial.proofs.Cover.{minus_step}
use Rattle.ledger.specs.Packets.{done_status, no_packet, is_done, done_run}
use Rattle.ledger.specs.Ring.{Ring, age_of, place_of, cap_of, packet_at, laid, queue_of, long_of, packets}
use Rattle.ledger.specs.Memory.{Memory, memory, slots_of, size_in, resent_in, in_window, status_of, shown, Words}
use Rattle.ledger.specs.Sound.{Lengths}
use Rattle.ledger.specs.Delivery.{slots, Standing, Retired}
use Rattle.ledger.specs.declared.Flow.{Flow}
use Rattle.ledger.specs.declared.Packet.{Packet}
use Rattle.ledger.proofs.Geometry.{Cap, place_flat, place_plus, age_lt, age_place, place_age, laid_cap, laid_even, laid_at, laid_queue}
use Rattle.ledger.proofs.Facts.{packets_long}
use Rattle.ledger.proofs.Shows.{slots_even, shown_even, shown_is}
use Rattle.ledger.proofs.Queues.{plus_none}
use Rattle.ledger.proofs.Fronts.{bit_of_age}
use Rattle.ledger.proofs.WordsShown.{slot_shown, even_cap, slot_shows, in_window_lem, out_window, caps, age_of_lem, live_shows}
use Rattle.ledger.proofs.WordsShown.{packet_at_lem, lengths_kept, words_kept}

-- ---- how many

run_step : (b : Bool) (p q : ℕ) → p ≡ q → cond b (suc p) 0 ≡ cond (not b) 0 (suc q)
run_step true p q e = ap suc e
run_step false p q e = refl

-- the run of done packets ends at the first that is not done
run_lowest : (xs : List Packet) → done_run xs ≡ lowest (λ k. not (is_done (get_or xs k no_packet))) (length xs)
unfolding done_run lowest is_done if_eq if_so
run_lowest [] = refl
run_lowest (x ∷ xs) = run_step (eqb x.status done_status) (done_run xs) _ (run_lowest xs)

-- a packet of the flow is done where its slot is not outstanding
not_done : (m : Memory) (i : ℕ) (out mark : Bool) → (mark ≡ true → out ≡ true) → not (is_done (slot_shown m i true out mark)) ≡ out
unfolding is_done status_of if_so
not_done m i true true h = refl
not_done m i true false h = refl
not_done m i false true h = absurd (false≢true (h refl))
not_done m i false false h = refl

-- an emptied slot shows no packet
nothing : ◌≡◌ {A = Packet} (record { status = status_of false false false; size = size_in 0; sent = 0; resent = resent_in 0 }) no_packet
unfolding status_of if_so size_in resent_in
nothing = refl

-- ---- which slots

-- the slots of the first `gone` packets are zero, the others as they were
pub record Cut (cap low gone : ℕ) (xs ys : List ℕ) : Type 0 where
  pub long : length ys ≡ length xs
  pub emptied_at : (x : ℕ) → x < cap → age_of cap low x < gone → get_or ys x 0 ≡ 0
  pub kept_at : (x : ℕ) → x < cap → gone ≤ age_of cap low x → get_or ys x 0 ≡ get_or xs x 0

-- of none ..
pub cut_none : (cap low : ℕ) (xs : List ℕ) → Cut cap low 0 xs xs
cut_none cap low xs = record { long = refl; emptied_at = λ x h a. absurd (omega arith); kept_at = λ x h a. refl }

-- .. and of one more: slot i, that of packet `gone`, becomes zero
module _ {cap low gone i : ℕ} {xs ys : List ℕ} (D : Cut cap low gone xs ys) (C : Cap cap) (h : gone < cap)
    (e : i ≡ place_of cap low gone) where
  age_is : age_of cap low i ≡ gone
  age_is = ap (age_of cap low) e ∙ age_place cap C low gone h

  -- no other slot is that old
  only_slot : (x : ℕ) → x < cap → age_of cap low x ≡ gone → x ≡ i
  only_slot x l a = sym (place_age cap C low x l) ∙ ap (place_of cap low) a ∙ sym e

  pub cut_more : length xs ≡ cap → Cut cap low (gone + 1) xs (set ys i 0)
  cut_more long =
      record {
        long = length-set ys i 0 ∙ D.long;
        emptied_at =
            λ x l a.
            ⊎_elim
            (λ s. ap (λ (j : ℕ). get_or (set ys i 0) j 0) s ∙ get_or-set_same ys i 0 0 (omega (arith, D.long)))
            (λ n.
            get_or-set_other ys i x 0 0 n
            ∙ by_cases (dec_lt (age_of cap low x) gone) (λ y. D.emptied_at x l y) (λ y. absurd (n (only_slot x l (omega arith)))))
            (same_or_not x i);
        kept_at =
            λ x l a.
            get_or-set_other ys i x 0 0 (λ s. omega (arith, ap (age_of cap low) s, age_is)) ∙ D.kept_at x l (omega arith);
      }

-- ---- the ring that is left

module _ {m : Memory} {f : Flow} {gone : ℕ} {sizes sent : List ℕ} (S : Standing m f) (b : f.low < psns)
    (first : gone ≡ lowest (bit_of_age m.outstanding f.low) (long_of f))
    (D : Cut (slots m) f.low gone m.sizes sizes) (E : Cut (slots m) f.low gone m.sent sent) where
  abbrev after : Memory
  after = memory m.outstanding m.marked sizes sent

  abbrev new : ℕ
  new = plus f.low gone

  abbrev xs : List Packet
  xs = packets f (shown f.low f.next m)

  gone_le : gone ≤ long_of f
  gone_le = omega (arith, lowest_le (bit_of_age m.outstanding f.low) (long_of f))

  lengths : Lengths after
  lengths = lengths_kept S.lengths D.long E.long

  words : Words after
  words = words_kept S.words

  -- as many as stand before the first outstanding one are done
  run_is : gone ≡ done_run xs
  run_is =
      first
      ∙ sym
      (run_lowest xs
      ∙ ap (lowest (λ k. not (is_done (get_or xs k no_packet)))) (packets_long f (shown f.low f.next m))
      ∙ lowest_same (λ k. not (is_done (get_or xs k no_packet))) (bit_of_age m.outstanding f.low) (long_of f)
      (λ k h.
      ap (λ (x : Packet). not (is_done x)) (packet_at_lem S k h ∙ live_shows S k h)
      ∙ not_done m (place_of (slots m) f.low k) (bit_at m.outstanding (place_of (slots m) f.low k))
      (bit_at m.marked (place_of (slots m) f.low k)) (S.marks k h)))

  -- the packets that are left
  left_long : minus psns f.next new + gone ≡ long_of f
  unfolding long_of
  left_long = minus_step f.low f.next gone gone_le

  abbrev aged : ℕ → ℕ
  aged x = age_of (slots m) new x

  aged_lt : (x : ℕ) → aged x < slots m
  aged_lt x = age_lt (slots m) (caps S) new x

  -- slot x is that of packet gone + its new age
  slot_new : (x : ℕ) → x < slots m → place_of (slots m) f.low (gone + aged x) ≡ x
  slot_new x h = sym (place_plus (slots m) f.low gone (aged x)) ∙ place_age (slots m) (caps S) new x h

  left_at : (x : ℕ) → get_or (drop gone xs) (aged x) no_packet ≡ get_or xs (gone + aged x) no_packet
  left_at x = get_or-drop gone xs (aged x) no_packet

  none_at : (x : ℕ) → long_of f ≤ gone + aged x → get_or (drop gone xs) (aged x) no_packet ≡ no_packet
  none_at x h = left_at x ∙ get_or-eq_default xs no_packet (omega (arith, packets_long f (shown f.low f.next m)))

  shows : (x : ℕ) → x < slots m
      → packet_at (shown new f.next after) x
      ≡ slot_shown after x (in_window (slots m) new f.next x) (bit_at m.outstanding x) (bit_at m.marked x)
  shows x h = slot_shows new f.next lengths words x h

  -- a slot that is kept
  module _ (x : ℕ) (h : x < slots m) (k : gone + aged x < slots m) where
    age_old : age_of (slots m) f.low x ≡ gone + aged x
    age_old = ap (age_of (slots m) f.low) (sym (slot_new x h)) ∙ age_of_lem S (gone + aged x) k

    same : (live : Bool)
        → slot_shown after x live (bit_at m.outstanding x) (bit_at m.marked x)
        ≡ slot_shown m x live (bit_at m.outstanding x) (bit_at m.marked x)
    same live = rw (D.kept_at x h (omega (arith, age_old)), E.kept_at x h (omega (arith, age_old)))

    kept_live : gone + aged x < long_of f → packet_at (shown new f.next after) x ≡ get_or (drop gone xs) (aged x) no_packet
    kept_live n =
        shows x h
        ∙ rw (in_window_lem (slots m) new f.next x (omega (arith, left_long))) (same true)
        ∙ ap (λ (y : ℕ). slot_shown m y true (bit_at m.outstanding y) (bit_at m.marked y)) (sym (slot_new x h))
        ∙ sym (live_shows S (gone + aged x) n)
        ∙ sym (packet_at_lem S (gone + aged x) n)
        ∙ sym (left_at x)

    kept_empty : long_of f ≤ gone + aged x → packet_at (shown new f.next after) x ≡ get_or (drop gone xs) (aged x) no_packet
    unfolding long_of
    kept_empty n =
        shows x h
        ∙ rw (out_window (slots m) new f.next x (omega (arith, left_long))) (same false)
        ∙ sym
        (slot_shows f.low f.next S.lengths S.words x h
        ∙ ap (λ (live : Bool). slot_shown m x live (bit_at m.outstanding x) (bit_at m.marked x))
        (out_window (slots m) f.low f.next x (omega (arith, age_old))))
        ∙ ap (packet_at (shown f.low f.next m)) (sym (slot_new x h))
        ∙ S.empty (gone + aged x) n k
        ∙ sym (none_at x n)

  -- a slot that is emptied
  module _ (x : ℕ) (h : x < slots m) (k : slots m ≤ gone + aged x) where
    abbrev old : ℕ
    old = gone + aged x - slots m

    -- it was that of one of the packets that are gone
    slot_old : place_of (slots m) f.low old ≡ x
    slot_old =
        let e : f.low % slots m + old + slots m ≡ f.low % slots m + (gone + aged x) = omega arith in
        place_flat (slots m) (caps S) f.low old
        ∙ sym (add-mod_right (f.low % slots m + old) (slots m))
        ∙ ap (λ (y : ℕ). y % slots m) e
        ∙ sym (place_flat (slots m) (caps S) f.low (gone + aged x))
        ∙ slot_new x h

    old_lt : old < gone
    old_lt = omega (arith, aged_lt x)

    age_gone : age_of (slots m) f.low x < gone
    age_gone =
        let e : age_of (slots m) f.low x ≡ old =
        ap (age_of (slots m) f.low) (sym slot_old) ∙ age_of_lem S old (omega (arith, old_lt, gone_le, S.fits)) in
        omega (arith, old_lt)

    no_out : bit_at m.outstanding x ≡ false
    no_out =
        ap (bit_at m.outstanding) (sym slot_old)
        ∙ lowest_before (bit_of_age m.outstanding f.low) (long_of f) old (omega (arith, old_lt))

    no_mark : bit_at m.marked x ≡ false
    no_mark = go (bit_at m.marked x) refl
      where
        go : (c : Bool) → bit_at m.marked x ≡ c → c ≡ false
        go false e = refl
        go true e =
            absurd
            (false≢true
            (sym no_out
            ∙ ap (bit_at m.outstanding) (sym slot_old)
            ∙ S.marks old (omega (arith, old_lt, gone_le)) (ap (bit_at m.marked) slot_old ∙ e)))

    emptied_slot : packet_at (shown new f.next after) x ≡ get_or (drop gone xs) (aged x) no_packet
    unfolding long_of
    emptied_slot =
        shows x h
        ∙ rw (
          out_window (slots m) new f.next x (omega (arith, left_long, S.fits)),
          no_out,
          no_mark,
          D.emptied_at x h age_gone,
          E.emptied_at x h age_gone,
        ) nothing
        ∙ sym (none_at x (omega (arith, S.fits)))

  each_slot : (x : ℕ) → x < slots m → packet_at (shown new f.next after) x ≡ get_or (drop gone xs) (aged x) no_packet
  each_slot x h =
      by_cases (dec_lt (gone + aged x) (slots m))
      (λ k.
      by_cases (dec_lt (gone + aged x) (long_of f)) (λ n. kept_live x h k n) (λ n. kept_empty x h k (omega arith)))
      (λ k. emptied_slot x h (omega arith))

  ring_left : shown new f.next after ≡ laid (slots m) new (drop gone xs)
  ring_left =
      let C = caps S in
      let e : slots m ≡ slots_of after = sym (slots_even after lengths) in
      shown_is new f.next after (laid (slots m) new (drop gone xs)) lengths (laid_even (slots m) C new (drop gone xs))
      (laid_cap (slots m) new (drop gone xs) ∙ e)
      (λ x l.
      let n : x < slots m = omega (arith, e) in
      each_slot x n
      ∙ sym
      (ap (packet_at (laid (slots m) new (drop gone xs))) (sym (place_age (slots m) C new x n))
      ∙ laid_at (slots m) C new (drop gone xs) (aged x) (aged_lt x)))

  pub retires : {n : ℕ} → n ≡ long_of f → Retired (shown f.low f.next m) f.low n gone (shown new f.next after)
  unfolding packets
  retires e =
      rw e
      (record {
        run = run_is;
        ring_is = ring_left ∙ ap (λ (c : ℕ). laid c new (drop gone xs)) (sym (even_cap f.low f.next S.lengths));
      })

-- ---- the loop

-- the first `gone` packets are not outstanding, and their slots are empty
pub record Gone (m : Memory) (f : Flow) (gone : ℕ) (sizes sent : List ℕ) : Type 0 where
  pub most : gone ≤ long_of f
  pub none : (j : ℕ) → j < gone → bit_of_age m.outstanding f.low j ≡ false
  pub sizes_cut : Cut (slots m) f.low gone m.sizes sizes
  pub sent_cut : Cut (slots m) f.low gone m.sent sent

pub starts : (m : Memory) (f : Flow) → Gone m f 0 m.sizes m.sent
starts m f =
    record {
      most = omega arith;
      none = λ j h. absurd (omega arith);
      sizes_cut = cut_none (slots m) f.low m.sizes;
      sent_cut = cut_none (slots m) f.low m.sent;
    }

module _ {m : Memory} {f : Flow} {gone : ℕ} {sizes sent : List ℕ} (S : Standing m f) (G : Gone m f gone sizes sent) where
  -- a turn: packet `gone` is not outstanding, and its slot i becomes zero
  pub again : {i : ℕ} → i ≡ place_of (slots m) f.low gone → gone < long_of f → bit_at m.outstanding i ≡ false
      → Gone m f (gone + 1) (set sizes i 0) (set sent i 0)
  again e h clear =
      let l : gone < slots m = omega (arith, S.fits) in
      record {
        most = omega arith;
        none =
            below_more (λ j. bit_of_age m.outstanding f.low j ≡ false) gone G.none (ap (bit_at m.outstanding) (sym e) ∙ clear);
        sizes_cut = cut_more G.sizes_cut (caps S) l e S.lengths.sizes;
        sent_cut = cut_more G.sent_cut (caps S) l e S.lengths.sent;
      }

  -- the end: where a packet is left, it is outstanding
  pub ends : {n : ℕ} → f.low < psns → n ≡ long_of f → (gone < long_of f → bit_of_age m.outstanding f.low gone ≡ true)
      → Retired (shown f.low f.next m) f.low n gone
      (shown (plus f.low gone) f.next (memory m.outstanding m.marked sizes sent))
  ends b e there =
      retires S b (sym (lowest_is (bit_of_age m.outstanding f.low) (long_of f) gone G.most G.none there))
      G.sizes_cut G.sent_cut e

-- where low is not done, none leaves and the ring stays as it is
pub none_retires : {m : Memory} {f : Flow} {n : ℕ} → Standing m f → f.low < psns → n ≡ long_of f
    → done_run (queue_of (shown f.low f.next m) f.low n) ≡ 0
    → Retired (shown f.low f.next m) f.low n 0 (shown (plus f.low 0) f.next m)
none_retires {m} {f} {n} S b e none =
    let r : Ring = shown f.low f.next m in
    let c : cap_of r ≡ slots m = even_cap f.low f.next S.lengths in
    record {
      run = sym none;
      ring_is =
          rw (plus_none f.low b)
          (laid_queue (cap_of r) (rw c (caps S)) f.low r n (shown_even f.low f.next m S.lengths) refl (omega (arith, S.fits))
          (λ k h l. rw c (S.empty k (omega arith) (omega arith))));
    }
