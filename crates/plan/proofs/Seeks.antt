-- Which packets of a flow a plan of the planner has sent again: those marked ones that stand before the first that still waits (`Seeks`).
-- Where one still waits it is the first marked packet of the context that the plan's first sends leave (`seek_marked`, `seek_first`); else
-- that context has none (`seek_none`).
-- Assumes nothing.
use mathlib.Core.Path.{◌≡◌, refl, sym, ap, ◌∙◌, subst}
use mathlib.Core.Logic.{by_cases}
use mathlib.Core.Bool.{Bool, true, false, cond, not, ◌&&◌, ◌||◌}
use mathlib.Core.List.{List, [], ◌∷◌}
use Prim.Native.Nat.{ℕ, zero, suc, ◌+◌, ◌-◌, ◌≤◌, ◌<◌}
use native.Mathlib.Decide.{ℕ_discrete, dec_lt}
use native.Mathlib.Omega.{arith}
use lib.Dec.{ltb, eqb}
use lib.ListN.{length, get_or, drop, length-drop}
use lib.Seq.{get_or-drop}
use borrow.Author.Tests.{lt-ltb, le-ltb, eq-eqb, ne_eqb, eqb-true, ltb-false, not-true}
use Rattle.rules.specs.Branch.{so_both, lt_both}
use Rattle.rules.specs.Test.{both, whole}
use Rattle.serial.specs.Wrap.{minus}
use Rattle.serial.specs.Psn.{psns, plus}
use Rattle.serial.proofs.Cover.{plus_lt, plus_plus, plus_minus, minus_plus}
use Rattle.ledger.specs.Packets.{no_packet, is_marked}
use Rattle.ledger.specs.Ring.{Ring, long_of, packets, offset_of, packet_of}
use Rattle.ledger.specs.Seek.{unmarked_run, next_marked_of}
use Rattle.ledger.specs.declared.Flow.{Flow}
use Rattle.ledger.specs.declared.Packet.{Packet}
use Rattle.ledger.proofs.Facts.{packets_long, packet_some}
use Rattle.ledger.proofs.Sends.{waits}
use Rattle.context.proofs.Offers.{run_le, run_marked}
use Rattle.plan.specs.Ahead.{waits_as}
use Rattle.plan.proofs.Packets.{offset_tells}

pub next_offset : (f : Flow) → offset_of f f.next ≡ long_of f
unfolding offset_of long_of
next_offset f = refl

-- ---- the first marked packet from a PSN on

run_none : (ps : List Packet) (j : ℕ) → j < unmarked_run ps → is_marked (get_or ps j no_packet) ≡ false
unfolding unmarked_run
run_none [] j h = absurd (let z : ⊥ = omega arith in z)
run_none (p ∷ ps) zero h =
    so_both (λ (n : ℕ). 0 < n → is_marked p ≡ false) (is_marked p) _ _ (λ _ l. absurd (let z : ⊥ = omega arith in z)) (λ e _. e) h
run_none (p ∷ ps) (suc j) h =
    so_both (λ (n : ℕ). suc j < n → is_marked (get_or ps j no_packet) ≡ false) (is_marked p) _ _
    (λ _ l. absurd (let z : ⊥ = omega arith in z)) (λ _ l. run_none ps j (omega arith)) h

-- q is the first marked PSN from psn on, next where there is none
pub record Sought (f : Flow) (r : Ring) (psn q : ℕ) : Type 0 where
  pub fits : q < psns
  pub not_before : offset_of f psn ≤ offset_of f q
  pub within : offset_of f q ≤ long_of f
  pub marked : offset_of f q < long_of f → is_marked (packet_of f r q) ≡ true
  pub between : (p : ℕ) → offset_of f psn ≤ offset_of f p → offset_of f p < offset_of f q → is_marked (packet_of f r p) ≡ false

module _ (f : Flow) (r : Ring) (next : f.next < psns) (few : long_of f ≤ 4096) (psn : ℕ) (fits : psn < psns)
    (in-long : offset_of f psn ≤ long_of f) where
  abbrev o : ℕ
  o = offset_of f psn

  abbrev rest : List Packet
  rest = drop o (packets f r)

  rest_long : length rest ≡ long_of f - o
  rest_long = length-drop o (packets f r) ∙ ap (λ (n : ℕ). n - o) (packets_long f r)

  -- the packet a run behind the PSN
  pub behind : (n : ℕ) → n ≤ long_of f - o → offset_of f (plus psn n) ≡ o + n
  unfolding offset_of
  behind n h =
      ap (λ (p : ℕ). minus psns (plus p n) f.low) (sym (plus_minus f.low psn fits))
      ∙ ap (λ (p : ℕ). minus psns p f.low) (plus_plus f.low o n) ∙ minus_plus f.low (o + n) (omega (arith, few))

  rest_at : (n : ℕ) → get_or rest n no_packet ≡ get_or (packets f r) (o + n) no_packet
  rest_at n = get_or-drop o (packets f r) n no_packet

  run_in : unmarked_run rest ≤ long_of f - o
  run_in = omega (arith, run_le rest, rest_long)

  run_sought : Sought f r psn (plus psn (unmarked_run rest))
  unfolding packet_of
  run_sought =
      let n = unmarked_run rest in
      let e = behind n run_in in
      record {
        fits = plus_lt psn n;
        not_before = omega (arith, e);
        within = omega (arith, e, run_in, in-long);
        marked =
            λ h.
            rw (e, ← rest_at n) (run_marked rest (omega (arith, h, e, rest_long)));
        between =
            λ p h l.
            let j : o + (offset_of f p - o) ≡ offset_of f p = omega arith in
            ap (λ (m : ℕ). is_marked (get_or (packets f r) m no_packet)) (sym j) ∙ ap is_marked (sym (rest_at (offset_of f p - o)))
            ∙ run_none rest (offset_of f p - o) (omega (arith, e));
      }

  pub sought : Sought f r psn (next_marked_of f r psn)
  unfolding next_marked_of
  sought =
      lt_both (λ (q : ℕ). Sought f r psn q) o (long_of f) _ _ (λ _. run_sought)
      (λ h.
      record {
        fits = next;
        not_before = omega (arith, next_offset f, in-long);
        within = omega (arith, next_offset f);
        marked = λ l. absurd (let z : ⊥ = omega (arith, next_offset f) in z);
        between = λ p a b. absurd (let z : ⊥ = omega (arith, next_offset f) in z);
      })

-- ---- what the plan has sent again of a flow

-- f and its ring as they were handed in, and whether a PSN was sent again: the packet that still waits is the first marked one that was not
pub record Seeks (f : Flow) (r : Ring) (again : ℕ → Bool) (seek : ℕ) : Type 0 where
  pub fits : seek < psns
  pub within : offset_of f seek ≤ long_of f
  pub marked : offset_of f seek < long_of f → is_marked (packet_of f r seek) ≡ true
  pub sent_so : (psn : ℕ) → psn < psns → is_marked (packet_of f r psn) ≡ true → again psn ≡ ltb (offset_of f psn) (offset_of f seek)

pub differs : {b : Bool} → b ≡ true → b ≡ false → ⊥
differs e f = subst (λ (t : Bool). cond t (Unit {0}) ⊥) (sym e ∙ f) tt

module _ (f : Flow) (r : Ring) where
  -- no packet was, and the first marked one from low on waits
  pub seeks_start : {low q : ℕ} {again : ℕ → Bool} → offset_of f low ≡ 0 → ((psn : ℕ) → again psn ≡ false) → Sought f r low q
      → Seeks f r again q
  seeks_start {low} {q} {again} first none T =
      record {
        fits = T.fits;
        within = T.within;
        marked = T.marked;
        sent_so =
            λ psn h m.
            none psn
            ∙ sym (le-ltb (offset_of f psn) (offset_of f q)
            (by_cases (dec_lt (offset_of f psn) (offset_of f q)) (λ l. absurd (differs m (T.between psn (omega arith) l))) (λ g. omega arith)));
      }

  -- what is the same of every PSN
  pub seeks_like : {seek : ℕ} {again other : ℕ → Bool} → ((psn : ℕ) → other psn ≡ again psn) → Seeks f r again seek → Seeks f r other seek
  seeks_like like T =
      record { fits = T.fits; within = T.within; marked = T.marked; sent_so = λ psn h m. like psn ∙ T.sent_so psn h m }

  -- the one that waits is sent again, and the next one waits
  pub seeks_after : {seek q : ℕ} {again : ℕ → Bool} → Seeks f r again seek → offset_of f (plus seek 1) ≡ offset_of f seek + 1
      → Sought f r (plus seek 1) q → Seeks f r (λ psn. again psn || eqb seek psn) q
  seeks_after {seek} {q} {again} T one U =
      record {
        fits = U.fits;
        within = U.within;
        marked = U.marked;
        sent_so = λ psn h m. ap (λ (b : Bool). b || eqb seek psn) (T.sent_so psn h m) ∙ by psn h m;
      }
    where
      later : offset_of f seek + 1 ≤ offset_of f q
      later = omega (arith, U.not_before, one)

      by : (psn : ℕ) → psn < psns → is_marked (packet_of f r psn) ≡ true
          → (ltb (offset_of f psn) (offset_of f seek) || eqb seek psn) ≡ ltb (offset_of f psn) (offset_of f q)
      by psn h m =
          by_cases (dec_lt (offset_of f psn) (offset_of f seek))
          (λ l. rw (lt-ltb _ _ l, lt-ltb (offset_of f psn) (offset_of f q) (omega (arith, later))))
          (λ g.
          by_cases (ℕ_discrete psn seek)
          (λ s. rw (
            s,
            le-ltb (offset_of f seek) (offset_of f seek) (omega arith),
            eq-eqb seek seek refl,
            lt-ltb (offset_of f seek) (offset_of f q) (omega (arith, later)),
          ))
          (λ ne.
          let apart : offset_of f seek < offset_of f psn =
          by_cases (dec_lt (offset_of f seek) (offset_of f psn)) (λ l. l) (λ z. absurd (ne (offset_tells f psn seek h T.fits (omega arith)))) in
          let past : offset_of f q ≤ offset_of f psn =
          by_cases (dec_lt (offset_of f psn) (offset_of f q)) (λ l. absurd (differs m (U.between psn (omega (arith, one)) l))) (λ z. omega arith) in
          rw (le-ltb (offset_of f psn) (offset_of f seek) (omega arith), ne_eqb seek psn (λ z. ne (sym z)), le-ltb (offset_of f psn) (offset_of f q) past)))

-- ---- the flow that the plan's first sends leave

module _ (f g : Flow) (r t : Ring) (again : ℕ → Bool)
    (W : (psn size : ℕ) → psn < psns → waits_as size (packet_of g t psn) ≡ (waits_as size (packet_of f r psn) && not (again psn))) where
  -- a packet that is marked there was, with its size, and was not sent again ..
  was_marked : (psn : ℕ) → psn < psns → is_marked (packet_of g t psn) ≡ true
      → (is_marked (packet_of f r psn) ≡ true) × (again psn ≡ false) × ((packet_of g t psn).size ≡ (packet_of f r psn).size)
  unfolding waits_as
  was_marked psn h m =
      let size = (packet_of g t psn).size in
      let now : waits_as size (packet_of g t psn) ≡ true = whole m (eq-eqb size size refl) in
      let p = both (waits_as size (packet_of f r psn)) (not (again psn)) (sym (W psn size h) ∙ now) in
      let q = both (is_marked (packet_of f r psn)) (eqb size (packet_of f r psn).size) p.0 in
      (q.0, not-true (again psn) p.1, eqb-true size (packet_of f r psn).size q.1)

  -- .. and one that was and was not still is
  is_marked_lem : (psn : ℕ) → psn < psns → is_marked (packet_of f r psn) ≡ true → again psn ≡ false
      → (is_marked (packet_of g t psn) ≡ true) × ((packet_of f r psn).size ≡ (packet_of g t psn).size)
  unfolding waits_as
  is_marked_lem psn h m n =
      let size = (packet_of f r psn).size in
      let then : waits_as size (packet_of f r psn) ≡ true = whole m (eq-eqb size size refl) in
      let q = both (is_marked (packet_of g t psn)) (eqb size (packet_of g t psn).size) (W psn size h ∙ whole then (ap not n)) in
      (q.0, eqb-true size (packet_of g t psn).size q.1)

  module _ {seek : ℕ} (T : Seeks f r again seek) where
    -- the one that waits is marked, with the size that it had ..
    pub seek_marked : offset_of f seek < long_of f
        → (is_marked (packet_of g t seek) ≡ true) × ((packet_of f r seek).size ≡ (packet_of g t seek).size)
    seek_marked l =
        is_marked_lem seek T.fits (T.marked l)
        (T.sent_so seek T.fits (T.marked l) ∙ le-ltb (offset_of f seek) (offset_of f seek) (omega arith))

    -- .. and none before it is
    seek_before : (psn : ℕ) → psn < psns → is_marked (packet_of g t psn) ≡ true → offset_of f seek ≤ offset_of f psn
    seek_before psn h m =
        let w = was_marked psn h m in
        ltb-false (offset_of f psn) (offset_of f seek) (sym (T.sent_so psn h w.0) ∙ w.1)

    pub seek_none : long_of f ≤ offset_of f seek → (psn : ℕ) → psn < psns → is_marked (packet_of g t psn) ≡ false
    seek_none l psn h = by (is_marked (packet_of g t psn)) refl
      where
        by : (b : Bool) → is_marked (packet_of g t psn) ≡ b → is_marked (packet_of g t psn) ≡ false
        by false e = e
        by true e =
            absurd (let w = was_marked psn h e in
            let o = packet_some f r psn (omega (arith, waits (packet_of f r psn) w.0)) in
            let z : ⊥ = omega (arith, seek_before psn h e) in
            z)

    -- it is the first marked one
    pub seek_first : {low q : ℕ} → g.low ≡ f.low → offset_of f low ≡ 0 → offset_of f seek < long_of f → Sought g t low q → q ≡ seek
    unfolding offset_of
    seek_first {low} {q} same zeroth l U =
        let m = (seek_marked l).0 in
        let o = packet_some g t seek (omega (arith, waits (packet_of g t seek) m)) in
        let e : offset_of g low ≡ 0 = shift low ∙ zeroth in
        let behind : offset_of g q ≤ offset_of g seek =
        by_cases (dec_lt (offset_of g seek) (offset_of g q)) (λ b. absurd (differs m (U.between seek (omega arith) b))) (λ b. omega arith) in
        let front = seek_before q U.fits (U.marked (omega arith)) in
        offset_tells f q seek U.fits T.fits (omega (arith, front, behind, shift q, shift seek))
      where
        shift : (psn : ℕ) → offset_of g psn ≡ offset_of f psn
        shift psn = ap (minus psns psn) same
