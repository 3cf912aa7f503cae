-- The ring's geometry: a packet's place, and a queue laid over the slots and read back. Each law is proved for one slice (`lay`), by the
-- slices' elements at the places of the packets 0 to cap - 1 after low; the four slices are then put together.
-- Assumes nothing.
use Rattle.std.proofs.Common.{◌≡◌, ℕ, ◌+◌, ◌-◌, ◌*◌, ◌/◌, ◌%◌, ◌^◌, ◌<◌, ◌≤◌, Bool, true, false, ◌||◌, eqb, ◌⊎◌, List, [], ◌∷◌, ◌++◌, length, get_or, set, sym, refl, ap, ◌∙◌, subst, inl, inr, ⊎_elim, add-zero, add_assoc, mod-lt, mod-eq_of_lt, arith, length-append, length-set, get_or-set_other, get_or-set_same, ext_get_or, eqb-true}
use mathlib.Core.Logic.{by_cases}
use native.Mathlib.Nat.{mod-eq-sub-mod, mod-add-mod, mod-mod_of_dvd, dvd_of_mod-eq-zero, add-mod_right}
use native.Mathlib.Decide.{dec_le}
use lib.ListN.{get_or-append, get_or-eq_default}
use lib.Seq.{get_or-append_seam}
use lib.Bits.{bit_and, and_mask}
use Rattle.bits.specs.Bits.{word_bits}
use Rattle.serial.specs.Wrap.{minus}
use Rattle.serial.specs.Psn.{psns, plus}
use Rattle.serial.proofs.Cover.{plus_plus, plus_minus}
use Rattle.ledger.specs.Packets.{no_packet}
use Rattle.ledger.specs.Ring.{Ring, ring, packet_at, put_at, place_of, age_of, lay, laid, queue_of, cap_of, long_of, packets, offset_of}
use Rattle.ledger.specs.Ring.{packet_of}
use Rattle.ledger.specs.Sound.{is_capacity, Even}
use Rattle.ledger.specs.declared.Packet.{Packet}
use Rattle.ledger.specs.declared.Flow.{Flow}
use Rattle.ledger.proofs.Walks.{length_tabulate, get_d_tabulate}

-- ---- capacities

-- what the laws use of a capacity: that it is a power of two, its bounds, that it divides 2^32, so that PSNs that wrap keep their places,
-- that it is whole words of bits, and that a remainder is a mask
pub record Cap (n : ℕ) : Type 0 where
  pub power : (j : ℕ) × (n ≡ 2 ^ j)
  pub least : 64 ≤ n
  pub most : n ≤ 4096
  pub divides : psns % n ≡ 0
  pub words : n / word_bits * word_bits ≡ n
  pub masks : (p : ℕ) → bit_and p (n - 1) ≡ p % n

cap_is : (j : ℕ) → 64 ≤ 2 ^ j → 2 ^ j ≤ 4096 → psns % 2 ^ j ≡ 0 → 2 ^ j / word_bits * word_bits ≡ 2 ^ j → (n : ℕ)
    → eqb n (2 ^ j) ≡ true → Cap n
cap_is j a b d w n e =
    rw (eqb-true n (2 ^ j) e)
    (record { power = (j, refl); least = a; most = b; divides = d; words = w; masks = λ p. and_mask p j })

-- either part of a test holds where the whole does
either : {n : ℕ} (a b : Bool) → (a ≡ true → Cap n) → (b ≡ true → Cap n) → (a || b) ≡ true → Cap n
either true b f g e = f refl
either false b f g e = g e

pub cap_facts : (n : ℕ) → is_capacity n ≡ true → Cap n
unfolding is_capacity
cap_facts n =
    either _ _
    (either _ _
    (either _ _
    (either _ _
    (either _ _
    (either _ _ (cap_is 6 (omega arith) (omega arith) refl refl n) (cap_is 7 (omega arith) (omega arith) refl refl n))
    (cap_is 8 (omega arith) (omega arith) refl refl n))
    (cap_is 9 (omega arith) (omega arith) refl refl n))
    (cap_is 10 (omega arith) (omega arith) refl refl n))
    (cap_is 11 (omega arith) (omega arith) refl refl n))
    (cap_is 12 (omega arith) (omega arith) refl refl n)

-- ---- places

-- the slot of a PSN, by how far it lies after low
pub place_psn : (cap low psn : ℕ) → psn < psns → place_of cap low (minus psns psn low) ≡ psn % cap
unfolding place_of
place_psn cap low psn h = ap (λ (p : ℕ). p % cap) (plus_minus low psn h)

-- the slot of low
pub place_first : (cap low : ℕ) → low < psns → place_of cap low 0 ≡ low % cap
unfolding place_of plus
place_first cap low h = ap (λ (p : ℕ). p % cap) (ap (λ (p : ℕ). p % psns) (add-zero low) ∙ mod-eq_of_lt h)

-- the slot of the packet j + k after low is that of the packet k after the PSN low + j
pub place_plus : (cap low j k : ℕ) → place_of cap (plus low j) k ≡ place_of cap low (j + k)
unfolding place_of
place_plus cap low j k = ap (λ (p : ℕ). p % cap) (plus_plus low j k)

-- two numbers are equal or not
eq_cases : {A : Type 0} (j k : ℕ) → (j ≡ k → A) → ((j ≡ k → ⊥) → A) → A
eq_cases j k f g =
    by_cases (dec_le j k) (λ p. by_cases (dec_le k j) (λ q. f (omega arith)) (λ q. g (λ e. q (omega arith)))) (λ p. g (λ e. p (omega arith)))

-- below twice m, a remainder is the number or the number less m
mod_two : (m x : ℕ) → x < m + m → ((x < m) × (x % m ≡ x)) ⊎ ((m ≤ x) × (x % m ≡ x - m))
mod_two m x h =
    by_cases (dec_le m x) (λ p. inr (p, mod-eq-sub-mod p ∙ mod-eq_of_lt (omega arith)))
    (λ p. let l : x < m = omega arith in inl (l, mod-eq_of_lt l))

module _ (cap : ℕ) (C : Cap cap) (low : ℕ) where
  pos : 0 < cap
  pos = omega (arith, C.least)

  -- a place, without the wrap at 2^32
  pub place_flat : (k : ℕ) → place_of cap low k ≡ (low % cap + k) % cap
  unfolding place_of plus
  place_flat k = mod-mod_of_dvd cap (low + k) (dvd_of_mod-eq-zero cap C.divides) ∙ sym (mod-add-mod low cap k)

  pub place_lt : (k : ℕ) → place_of cap low k < cap
  unfolding place_of
  place_lt k = mod-lt (plus low k) pos

  pub age_lt : (i : ℕ) → age_of cap low i < cap
  unfolding age_of
  age_lt i = mod-lt (i + (cap - low % cap)) pos

  -- places and ages are inverse
  pub age_place : (k : ℕ) → k < cap → age_of cap low (place_of cap low k) ≡ k
  unfolding age_of
  age_place k h =
      let l : low % cap < cap = mod-lt low pos in
      let p : ℕ = (low % cap + k) % cap in
      let pl : p < cap = mod-lt (low % cap + k) pos in
      let two = mod_two cap (p + (cap - low % cap)) (omega arith) in
      rw (place_flat k)
      (⊎_elim (λ p. ⊎_elim (λ q. omega arith) (λ q. omega arith) two) (λ p. ⊎_elim (λ q. omega arith) (λ q. omega arith) two)
      (mod_two cap (low % cap + k) (omega arith)))

  pub place_age : (i : ℕ) → i < cap → place_of cap low (age_of cap low i) ≡ i
  unfolding age_of
  place_age i h =
      let l : low % cap < cap = mod-lt low pos in
      let a : ℕ = (i + (cap - low % cap)) % cap in
      let al : a < cap = mod-lt (i + (cap - low % cap)) pos in
      let two = mod_two cap (low % cap + a) (omega arith) in
      rw (place_flat a)
      (⊎_elim (λ p. ⊎_elim (λ q. omega arith) (λ q. omega arith) two) (λ p. ⊎_elim (λ q. omega arith) (λ q. omega arith) two)
      (mod_two cap (i + (cap - low % cap)) (omega arith)))

  pub place_inj : (j k : ℕ) → j < cap → k < cap → place_of cap low j ≡ place_of cap low k → j ≡ k
  place_inj j k hj hk e = sym (age_place j hj) ∙ ap (age_of cap low) e ∙ age_place k hk

  -- two slices that agree at every place are equal
  by_places : (xs ys : List ℕ) → length xs ≡ cap → length ys ≡ cap
      → ((k : ℕ) → k < cap → get_or xs (place_of cap low k) 0 ≡ get_or ys (place_of cap low k) 0) → xs ≡ ys
  by_places xs ys ex ey h =
      ext_get_or 0 xs ys (ex ∙ sym ey)
      (λ i l. subst (λ (i : ℕ). get_or xs i 0 ≡ get_or ys i 0) (place_age i (omega arith)) (h (age_of cap low i) (age_lt i)))

-- A slot's number is a PSN that lives in it.
module _ (cap : ℕ) (C : Cap cap) (low : ℕ) where
  -- slot a lies j after that of low, or j less once round the ring: the packets from a on are those from j after low on
  place_same : (a j : ℕ) → a % cap ≡ (low % cap + j) % cap → (k : ℕ) → place_of cap a k ≡ place_of cap low (j + k)
  place_same a j e k =
      place_flat cap C a k
      ∙ ap (λ (x : ℕ). (x + k) % cap) e
      ∙ mod-add-mod (low % cap + j) cap k
      ∙ ap (λ (x : ℕ). x % cap) (add_assoc (low % cap) j k)
      ∙ sym (place_flat cap C low (j + k))

  pub place_on : (a j : ℕ) → a ≡ low % cap + j → (k : ℕ) → place_of cap a k ≡ place_of cap low (j + k)
  place_on a j e = place_same a j (ap (λ (x : ℕ). x % cap) e)

  pub place_over : (a j : ℕ) → a + cap ≡ low % cap + j → (k : ℕ) → place_of cap a k ≡ place_of cap low (j + k)
  place_over a j e = place_same a j (sym (add-mod_right a cap) ∙ ap (λ (x : ℕ). x % cap) e)

-- ---- the queue that a ring holds

pub queue_long : (r : Ring) (low n : ℕ) → length (queue_of r low n) ≡ n
unfolding queue_of
queue_long r low n = length_tabulate (λ k. packet_at r (place_of (length r.status) low k)) n

pub queue_at : (r : Ring) (low n k : ℕ) → k < n → get_or (queue_of r low n) k no_packet ≡ packet_at r (place_of (cap_of r) low k)
unfolding queue_of
queue_at r low n k h = get_d_tabulate (λ k. packet_at r (place_of (length r.status) low k)) no_packet n k h

-- behind the n packets there is none
pub queue_past : (r : Ring) (low n k : ℕ) → n ≤ k → get_or (queue_of r low n) k no_packet ≡ no_packet
queue_past r low n k h = get_or-eq_default (queue_of r low n) no_packet (omega (arith, queue_long r low n))

-- the packet of a PSN stands in the PSN's slot ..
pub packet_here : (f : Flow) (r : Ring) (psn : ℕ) → psn < psns → offset_of f psn < long_of f → packet_of f r psn ≡ packet_at r (psn % cap_of r)
unfolding packet_of packets offset_of
packet_here f r psn hp h =
    queue_at r f.low (long_of f) (minus psns psn f.low) h ∙ ap (packet_at r) (place_psn (cap_of r) f.low psn hp)

-- .. and outside low..next-1 there is none
pub packet_none : (f : Flow) (r : Ring) (psn : ℕ) → long_of f ≤ offset_of f psn → packet_of f r psn ≡ no_packet
unfolding packet_of packets
packet_none f r psn h = queue_past r f.low (long_of f) (offset_of f psn) h

-- ---- a queue laid over one slice

module _ (field : Packet → ℕ) where
  length_lay : (cap low : ℕ) (xs : List Packet) → length (lay field cap low xs) ≡ cap
  unfolding lay
  length_lay cap low xs = length_tabulate (λ i. field (get_or xs (age_of cap low i) no_packet)) cap

  module _ (cap : ℕ) (C : Cap cap) where
    -- the packet k after low stands at its place
    lay_at : (low : ℕ) (xs : List Packet) (k : ℕ) → k < cap → get_or (lay field cap low xs) (place_of cap low k) 0 ≡ field (get_or xs k no_packet)
    unfolding lay
    lay_at low xs k h =
        get_d_tabulate (λ i. field (get_or xs (age_of cap low i) no_packet)) 0 cap (place_of cap low k) (place_lt cap C low k)
        ∙ ap (λ (j : ℕ). field (get_or xs j no_packet)) (age_place cap C low k h)

    -- a slice that has the queue's packets at their places is the queue's layout
    lay_of : (low : ℕ) (s : List ℕ) (xs : List Packet) → length s ≡ cap
        → ((k : ℕ) → k < cap → get_or s (place_of cap low k) 0 ≡ field (get_or xs k no_packet)) → s ≡ lay field cap low xs
    lay_of low s xs e h = by_places cap C low s (lay field cap low xs) e (length_lay cap low xs) (λ k l. h k l ∙ sym (lay_at low xs k l))

    -- a store at the place of packet k leads to the queue that has x there and else agrees
    lay_store : (low : ℕ) (xs ys : List Packet) (k : ℕ) (x : Packet) → k < cap → get_or ys k no_packet ≡ x
        → ((j : ℕ) → j < cap → (j ≡ k → ⊥) → get_or xs j no_packet ≡ get_or ys j no_packet)
        → set (lay field cap low xs) (place_of cap low k) (field x) ≡ lay field cap low ys
    lay_store low xs ys k x h e o =
        lay_of low (set (lay field cap low xs) (place_of cap low k) (field x)) ys (simp (length-set, length_lay cap low xs))
        (λ j l. eq_cases j k (λ s. same j s) (λ n. other j l n))
      where
        same : (j : ℕ) → j ≡ k → get_or (set (lay field cap low xs) (place_of cap low k) (field x)) (place_of cap low j) 0
            ≡ field (get_or ys j no_packet)
        same j s =
            rw s
            (get_or-set_same (lay field cap low xs) (place_of cap low k) (field x) 0
            (omega (arith, place_lt cap C low k, length_lay cap low xs))
            ∙ ap field (sym e))

        other : (j : ℕ) → j < cap → (j ≡ k → ⊥)
            → get_or (set (lay field cap low xs) (place_of cap low k) (field x)) (place_of cap low j) 0 ≡ field (get_or ys j no_packet)
        other j l n =
            get_or-set_other (lay field cap low xs) (place_of cap low k) (place_of cap low j) (field x) 0
            (λ q. n (place_inj cap C low j k l h q))
            ∙ lay_at low xs j l
            ∙ ap field (o j l n)

-- ---- a queue laid over the ring

pub rings : {a b c d e f g h : List ℕ} → a ≡ e → b ≡ f → c ≡ g → d ≡ h → ring a b c d ≡ ring e f g h
rings i j k l = rw (i, j, k, l)

module _ (cap low : ℕ) (xs : List Packet) where
  pub laid_cap : cap_of (laid cap low xs) ≡ cap
  unfolding laid
  laid_cap = length_lay (λ x. x.status) cap low xs

module _ (cap : ℕ) (C : Cap cap) (low : ℕ) where
  pub laid_even : (xs : List Packet) → Even (laid cap low xs)
  unfolding laid
  laid_even xs =
      let s = length_lay (λ x. x.status) cap low xs in
      record {
        some = omega (arith, C.least);
        few = omega (arith, C.most);
        size = length_lay (λ x. x.size) cap low xs ∙ sym s;
        sent = length_lay (λ x. x.sent) cap low xs ∙ sym s;
        resent = length_lay (λ x. x.resent) cap low xs ∙ sym s;
      }

  -- the packet k after low
  pub laid_at : (xs : List Packet) (k : ℕ) → k < cap → packet_at (laid cap low xs) (place_of cap low k) ≡ get_or xs k no_packet
  unfolding laid packet_at
  laid_at xs k h =
      rw (
        lay_at (λ x. x.status) cap C low xs k h,
        lay_at (λ x. x.size) cap C low xs k h,
        lay_at (λ x. x.sent) cap C low xs k h,
        lay_at (λ x. x.resent) cap C low xs k h,
      )

  -- a queue that is laid is read back
  pub queue_laid : (xs : List Packet) (n : ℕ) → length xs ≡ n → n ≤ cap → queue_of (laid cap low xs) low n ≡ xs
  queue_laid xs n e h =
      ext_get_or no_packet (queue_of (laid cap low xs) low n) xs (queue_long (laid cap low xs) low n ∙ sym e)
      (λ k l.
      let s : k < n = omega (arith, queue_long (laid cap low xs) low n) in
      queue_at (laid cap low xs) low n k s
      ∙ ap (λ (c : ℕ). packet_at (laid cap low xs) (place_of c low k)) (laid_cap cap low xs)
      ∙ laid_at xs k (omega arith))

  -- a ring that is empty behind the n packets is the layout of its queue
  pub laid_queue : (r : Ring) (n : ℕ) → Even r → cap_of r ≡ cap → n ≤ cap
      → ((k : ℕ) → n ≤ k → k < cap → packet_at r (place_of cap low k) ≡ no_packet) → r ≡ laid cap low (queue_of r low n)
  unfolding laid packet_at
  laid_queue r n E e h z =
      rings
      (lay_of (λ x. x.status) cap C low r.status (queue_of r low n) e (λ k l. ap (λ (x : Packet). x.status) (at k l)))
      (lay_of (λ x. x.size) cap C low r.size (queue_of r low n) (E.size ∙ e) (λ k l. ap (λ (x : Packet). x.size) (at k l)))
      (lay_of (λ x. x.sent) cap C low r.sent (queue_of r low n) (E.sent ∙ e) (λ k l. ap (λ (x : Packet). x.sent) (at k l)))
      (lay_of (λ x. x.resent) cap C low r.resent (queue_of r low n) (E.resent ∙ e) (λ k l. ap (λ (x : Packet). x.resent) (at k l)))
    where
      at : (k : ℕ) → k < cap → packet_at r (place_of cap low k) ≡ get_or (queue_of r low n) k no_packet
      at k l =
          by_cases (dec_le n k) (λ p. z k p l ∙ sym (queue_past r low n k p))
          (λ p. sym (queue_at r low n k (omega arith) ∙ ap (λ (c : ℕ). packet_at r (place_of c low k)) e))

  -- a slot overwritten leads to the queue that has x there and else agrees
  laid_store : (xs ys : List Packet) (k : ℕ) (x : Packet) → k < cap → get_or ys k no_packet ≡ x
      → ((j : ℕ) → j < cap → (j ≡ k → ⊥) → get_or xs j no_packet ≡ get_or ys j no_packet)
      → put_at (laid cap low xs) (place_of cap low k) x ≡ laid cap low ys
  unfolding laid put_at
  laid_store xs ys k x h e o =
      rings
      (lay_store (λ x. x.status) cap C low xs ys k x h e o)
      (lay_store (λ x. x.size) cap C low xs ys k x h e o)
      (lay_store (λ x. x.sent) cap C low xs ys k x h e o)
      (lay_store (λ x. x.resent) cap C low xs ys k x h e o)

  -- packet k overwritten
  pub laid_put : (xs : List Packet) (k : ℕ) (x : Packet) → k < length xs → length xs ≤ cap
      → put_at (laid cap low xs) (place_of cap low k) x ≡ laid cap low (set xs k x)
  laid_put xs k x h f =
      laid_store xs (set xs k x) k x (omega arith) (get_or-set_same xs k x no_packet h) (λ j l n. sym (get_or-set_other xs k j x no_packet n))

  -- a packet behind the others
  pub laid_snoc : (xs : List Packet) (x : Packet) → length xs < cap
      → put_at (laid cap low xs) (place_of cap low (length xs)) x ≡ laid cap low (xs ++ (x ∷ []))
  laid_snoc xs x h =
      laid_store xs (xs ++ (x ∷ [])) (length xs) x h (get_or-append_seam xs x [] no_packet)
      (λ j l n.
      by_cases (dec_le (length xs) j)
      (λ p.
      get_or-eq_default xs no_packet p
      ∙ sym (get_or-eq_default (xs ++ (x ∷ [])) no_packet (omega (arith, length-append xs (x ∷ []), beyond j n p))))
      (λ p. sym (get_or-append xs (x ∷ []) no_packet j (omega arith))))
    where
      beyond : (j : ℕ) → (j ≡ length xs → ⊥) → length xs ≤ j → length xs < j
      beyond j n p = by_cases (dec_le j (length xs)) (λ q. absurd (n (omega arith))) (λ q. omega arith)
