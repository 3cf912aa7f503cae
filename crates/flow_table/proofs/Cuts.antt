-- Laws of the parts of a ring buffer: what is put in a part is read back from it, no other part changes, and no length does. Each is said
-- once of lists, and then of the four lists of a memory.
-- Assumes nothing.
use mathlib.Core.Path.{◌≡◌, refl, sym, ap, ◌∙◌}
use mathlib.Core.Bool.{Bool, true, false}
use mathlib.Core.Logic.{◌≢◌}
use mathlib.Core.List.{List, ◌++◌, append_assoc}
use Prim.Native.Nat.{ℕ, zero, suc, ◌+◌, ◌-◌, ◌*◌, ◌<◌, ◌≤◌}
use native.Mathlib.Nat.{mul-le-mul_right, zero-mul, suc-mul, one-mul}
use native.Mathlib.Omega.{arith}
use lib.Dec.{ltb}
use lib.ListN.{length, take, drop, length-append, length-drop, take-append-drop}
use lib.Seq.{length-take-le, take-append-le, drop-append-le, drop-append-add, take_at, drop_at, drop-drop, ext_get_or}
use borrow.Author.Tests.{ltb-true, ltb-false}
use Rattle.bits.specs.Bits.{word_bits}
use Rattle.ledger.specs.Memory.{Memory, memory}
use Rattle.ledger.specs.Sound.{is_capacity, Lengths}
use Rattle.ledger.proofs.Geometry.{cap_facts}
use Rattle.flow_table.specs.Parts.{part, around, words_in, part_of, put_part, Rings, Within}

-- ---- lists

-- part k of n lies in the list
pub part_in : (k n len : ℕ) → k < n → k * len + len ≤ n * len
part_in k n len l = omega (arith, suc-mul k len, mul-le-mul_right {m = suc k} {n = n} len l)

module _ (from len : ℕ) (xs : List ℕ) (fits : from + len ≤ length xs) where
  pub part_length : length (part from len xs) ≡ len
  unfolding part
  part_length = length-take-le len (drop from xs) (omega (arith, length-drop from xs))

  front_length : length (take from xs) ≡ from
  front_length = length-take-le from xs (omega arith)

  -- the part itself, put back
  pub around_part : around from len xs (part from len xs) ≡ xs
  unfolding around part
  around_part = ap (λ (t : List ℕ). take from xs ++ t) (take-append-drop len (drop from xs)) ∙ take-append-drop from xs

  module _ (p : List ℕ) (as_long : length p ≡ len) where
    pub around_length : length (around from len xs p) ≡ length xs
    unfolding around
    around_length = simp (length-append, length-drop) (omega (arith, front_length))

    pub part_same : part from len (around from len xs p) ≡ p
    unfolding around part
    part_same =
        ap (take len) (drop_at (take from xs) (p ++ drop len (drop from xs)) from front_length)
        ∙ take_at p (drop len (drop from xs)) len as_long

    -- a part before it
    part_before : (i c : ℕ) → i + c ≤ from → part i c (around from len xs p) ≡ part i c xs
    unfolding around part
    part_before i c l =
        front (p ++ drop len (drop from xs)) ∙ sym (front (drop from xs))
        ∙ ap (λ (t : List ℕ). take c (drop i t)) (take-append-drop from xs)
      where
        front : (q : List ℕ) → take c (drop i (take from xs ++ q)) ≡ take c (drop i (take from xs))
        front q =
            ap (take c) (drop-append-le i (take from xs) q (omega (arith, front_length)))
            ∙ take-append-le c (drop i (take from xs)) q (omega (arith, length-drop i (take from xs), front_length))

    -- and one behind it
    part_behind : (i c : ℕ) → from + len ≤ i → part i c (around from len xs p) ≡ part i c xs
    unfolding around part
    part_behind i c l = ap (take c) (rest p as_long ∙ sym (rest (part from len xs) part_length) ∙ ap (drop i) around_part)
      where
        rest : (q : List ℕ) → length q ≡ len → drop i (around from len xs q) ≡ drop (i - (from + len)) (drop len (drop from xs))
        rest q e =
            let n : length (take from xs ++ q) ≡ from + len = omega (arith, length-append (take from xs) q, front_length) in
            let j : i ≡ length (take from xs ++ q) + (i - (from + len)) = omega (arith, n) in
            ap (drop i) (sym (append_assoc (take from xs) q (drop len (drop from xs))))
            ∙ ap (λ (t : ℕ). drop t ((take from xs ++ q) ++ drop len (drop from xs))) j
            ∙ drop-append-add (take from xs ++ q) (drop len (drop from xs)) (i - (from + len))

-- the parts of two flows do not meet
module _ (j k n len : ℕ) (xs p : List ℕ) (ne : j ≢ k) (l : k < n) (fits : n * len ≤ length xs) (as_long : length p ≡ len) where
  here : k * len + len ≤ length xs
  here = omega (arith, part_in k n len l)

  by : (t : Bool) → ltb j k ≡ t → part (j * len) len (around (k * len) len xs p) ≡ part (j * len) len xs
  by true e = part_before (k * len) len xs here p as_long (j * len) len (omega (arith, part_in j k len (ltb-true j k e)))
  by false e =
      part_behind (k * len) len xs here p as_long (j * len) len
      (omega (arith, part_in k j len (omega (arith, ltb-false j k e, ne))))

  pub part_other : part (j * len) len (around (k * len) len xs p) ≡ part (j * len) len xs
  part_other = by (ltb j k) refl

-- two lists of n parts that are the same part by part are the same
pub parts_same : (n len : ℕ) (xs ys : List ℕ) → length xs ≡ n * len → length ys ≡ n * len
    → ((k : ℕ) → k < n → part (k * len) len xs ≡ part (k * len) len ys) → xs ≡ ys
unfolding part
parts_same zero len xs ys e f same = ext_get_or 0 xs ys (e ∙ sym f) (λ i l. absurd (omega (arith, zero-mul len)))
parts_same (suc n) len xs ys e f same =
    let here : take len xs ≡ take len ys = simp zero-mul at (same 0 (omega arith)) in
    let rest : drop len xs ≡ drop len ys =
    parts_same n len (drop len xs) (drop len ys) (omega (arith, length-drop len xs, suc-mul n len))
    (omega (arith, length-drop len ys, suc-mul n len)) (λ k l. next k xs ∙ same (suc k) (omega arith) ∙ sym (next k ys)) in
    sym (take-append-drop len xs) ∙ rw (here, rest) (take-append-drop len ys)
  where
    -- part k of what follows the first part is part k + 1
    next : (k : ℕ) (zs : List ℕ) → take len (drop (k * len) (drop len zs)) ≡ take len (drop (suc k * len) zs)
    next k zs =
        let m : len + k * len ≡ suc k * len = omega (arith, suc-mul k len) in
        ap (take len) (drop-drop (k * len) len zs ∙ ap (λ (t : ℕ). drop t zs) m)

-- ---- a slice that is lent in part, as `&mut xs[from..to]`: what is lent of it, and how it is once the part is left as p

module _ (from to len : ℕ) (xs : List ℕ) (e : to ≡ from + len) where
  long : to - from ≡ len
  long = omega arith

  pub lent_part : take (to - from) (drop from xs) ≡ part from len xs
  unfolding part
  lent_part = ap (λ (n : ℕ). take n (drop from xs)) long

  pub lent_around : (p : List ℕ) → take from xs ++ (p ++ drop (to - from) (drop from xs)) ≡ around from len xs p
  unfolding around
  lent_around p = ap (λ (n : ℕ). take from xs ++ (p ++ drop n (drop from xs))) long

-- ---- memories: rings end to end

one_part : (k n len : ℕ) (xs : List ℕ) → k < n → length xs ≡ n * len → length (part (k * len) len xs) ≡ 1 * len
one_part k n len xs l e = part_length (k * len) len xs (omega (arith, part_in k n len l)) ∙ sym (one-mul len)

module _ (n cap k : ℕ) (m : Memory) (M : Rings n cap m) (l : k < n) where
  words_in_lem : k * words_in cap + words_in cap ≤ n * words_in cap
  words_in_lem = part_in k n (words_in cap) l

  slots_in : k * cap + cap ≤ n * cap
  slots_in = part_in k n cap l

  -- flow k's part lies in each of the four slices
  pub ring_within : Within cap k m
  ring_within =
      record {
        outstanding = omega (arith, words_in_lem, M.outstanding);
        marked = omega (arith, words_in_lem, M.marked);
        sizes = omega (arith, slots_in, M.sizes);
        sent = omega (arith, slots_in, M.sent);
      }

  -- and is a ring
  pub ring_lengths : Rings 1 cap (part_of cap k m)
  unfolding part_of
  ring_lengths =
      record {
        outstanding = one_part k n (words_in cap) m.outstanding l M.outstanding;
        marked = one_part k n (words_in cap) m.marked l M.marked;
        sizes = one_part k n cap m.sizes l M.sizes;
        sent = one_part k n cap m.sent l M.sent;
      }

  -- the ring itself, put back
  pub put_part_lem : put_part cap k m (part_of cap k m) ≡ m
  unfolding part_of put_part
  put_part_lem =
      rw (
        around_part (k * words_in cap) (words_in cap) m.outstanding (omega (arith, words_in_lem, M.outstanding)),
        around_part (k * words_in cap) (words_in cap) m.marked (omega (arith, words_in_lem, M.marked)),
        around_part (k * cap) cap m.sizes (omega (arith, slots_in, M.sizes)),
        around_part (k * cap) cap m.sent (omega (arith, slots_in, M.sent)),
      )

  -- p for flow k's ring
  module _ (p : Memory) (P : Rings 1 cap p) where
    pub put_lengths : Rings n cap (put_part cap k m p)
    unfolding put_part
    put_lengths =
        let w = words_in cap in
        let o = around_length (k * w) w m.outstanding (omega (arith, words_in_lem, M.outstanding)) p.outstanding
        (omega (arith, P.outstanding)) in
        let r = around_length (k * w) w m.marked (omega (arith, words_in_lem, M.marked)) p.marked (omega (arith, P.marked)) in
        let z = around_length (k * cap) cap m.sizes (omega (arith, slots_in, M.sizes)) p.sizes (omega (arith, P.sizes)) in
        let t = around_length (k * cap) cap m.sent (omega (arith, slots_in, M.sent)) p.sent (omega (arith, P.sent)) in
        record { outstanding = o ∙ M.outstanding; marked = r ∙ M.marked; sizes = z ∙ M.sizes; sent = t ∙ M.sent }

    -- it is p
    pub ring_same : part_of cap k (put_part cap k m p) ≡ p
    unfolding part_of put_part
    ring_same =
        let w = words_in cap in
        rw (
          part_same (k * w) w m.outstanding (omega (arith, words_in_lem, M.outstanding)) p.outstanding (omega (arith, P.outstanding)),
          part_same (k * w) w m.marked (omega (arith, words_in_lem, M.marked)) p.marked (omega (arith, P.marked)),
          part_same (k * cap) cap m.sizes (omega (arith, slots_in, M.sizes)) p.sizes (omega (arith, P.sizes)),
          part_same (k * cap) cap m.sent (omega (arith, slots_in, M.sent)) p.sent (omega (arith, P.sent)),
        )

    -- every other flow's ring is as it was
    pub ring_other : (j : ℕ) → j ≢ k → part_of cap j (put_part cap k m p) ≡ part_of cap j m
    unfolding part_of put_part
    ring_other j ne =
        let w = words_in cap in
        rw (
          part_other j k n w m.outstanding p.outstanding ne l (omega (arith, M.outstanding)) (omega (arith, P.outstanding)),
          part_other j k n w m.marked p.marked ne l (omega (arith, M.marked)) (omega (arith, P.marked)),
          part_other j k n cap m.sizes p.sizes ne l (omega (arith, M.sizes)) (omega (arith, P.sizes)),
          part_other j k n cap m.sent p.sent ne l (omega (arith, M.sent)) (omega (arith, P.sent)),
        )

-- one ring is what `ledger`'s steps take for one, and the other way round
pub one_ring : (cap : ℕ) (p : Memory) → is_capacity cap ≡ true → Rings 1 cap p → Lengths p
one_ring cap p c P =
    let e : length p.outstanding * word_bits ≡ cap = omega (arith, (cap_facts cap c).words, P.outstanding) in
    record {
      cap = rw e c;
      marked = omega (arith, P.marked, P.outstanding);
      sizes = omega (arith, P.sizes);
      sent = omega (arith, P.sent);
    }

pub ring_one : (p : Memory) → Lengths p → Rings 1 (length p.sizes) p
ring_one p L =
    record {
      outstanding = omega (arith, L.sizes);
      marked = omega (arith, L.sizes, L.marked);
      sizes = omega arith;
      sent = omega (arith, L.sizes, L.sent);
    }

-- two ring buffers of the same rings are the same
pub rings_same : (n cap : ℕ) (m o : Memory) → Rings n cap m → Rings n cap o
    → ((k : ℕ) → k < n → part_of cap k m ≡ part_of cap k o) → m ≡ o
unfolding part_of
rings_same n cap m o M O same =
    let w = words_in cap in
    let a = parts_same n w _ _ M.outstanding O.outstanding (λ k l. ap (λ (r : Memory). r.outstanding) (same k l)) in
    let b = parts_same n w _ _ M.marked O.marked (λ k l. ap (λ (r : Memory). r.marked) (same k l)) in
    let c = parts_same n cap _ _ M.sizes O.sizes (λ k l. ap (λ (r : Memory). r.sizes) (same k l)) in
    let d = parts_same n cap _ _ M.sent O.sent (λ k l. ap (λ (r : Memory). r.sent) (same k l)) in
    rw (a, b, c, d)

-- the four slices that are lent in part: words v..w of the bits, slots a..e
module _ (cap k v w a e : ℕ) (m : Memory)
    (from-v : v ≡ k * words_in cap) (to-w : w ≡ v + words_in cap) (from-a : a ≡ k * cap) (to-e : e ≡ a + cap) where
  pub lent_ring : memory (take (w - v) (drop v m.outstanding)) (take (w - v) (drop v m.marked))
      (take (e - a) (drop a m.sizes)) (take (e - a) (drop a m.sent)) ≡ part_of cap k m
  unfolding part_of
  lent_ring =
      rw (
        lent_part v w (words_in cap) m.outstanding to-w,
        lent_part v w (words_in cap) m.marked to-w,
        lent_part a e cap m.sizes to-e,
        lent_part a e cap m.sent to-e,
        from-v,
        from-a,
      )

  pub lent_put : (p : Memory)
      → memory (take v m.outstanding ++ (p.outstanding ++ drop (w - v) (drop v m.outstanding)))
      (take v m.marked ++ (p.marked ++ drop (w - v) (drop v m.marked)))
      (take a m.sizes ++ (p.sizes ++ drop (e - a) (drop a m.sizes)))
      (take a m.sent ++ (p.sent ++ drop (e - a) (drop a m.sent))) ≡ put_part cap k m p
  unfolding put_part
  lent_put p =
      rw (
        lent_around v w (words_in cap) m.outstanding to-w p.outstanding,
        lent_around v w (words_in cap) m.marked to-w p.marked,
        lent_around a e cap m.sizes to-e p.sizes,
        lent_around a e cap m.sent to-e p.sent,
        from-v,
        from-a,
      )
