-- The rows of each event: a row's number where its test holds and none before it does, and what holds where no row refuses.
-- Assumes nothing.
use Rattle.std.proofs.Common.{◌≡◌, ℕ, ◌<◌, ◌≤◌, true, false, not, ◌||◌, eqb, ℤ, sym, refl, ap, ◌∙◌, arith, ltb-false, le-ltb, lt-ltb, eq-eqb, ne_eqb, eqb-true}
use borrow.Author.Tests.{eqb-false, not-false}
use Rattle.rules.specs.Test.{neither}
use Rattle.rules.specs.Rows.{first_of, first_none, first_here, first_later, none_here}
use Rattle.serial.specs.Psn.{unsent_or_old}
use Rattle.ledger.specs.declared.Flow.{Flow}
use Rattle.ledger.specs.declared.Packet.{Packet}
use Rattle.ledger.specs.Packets.{flying_status, marked_status, is_flying, is_marked}
use Rattle.ledger.specs.Bounds.{sinks}
use Rattle.ledger.specs.Ring.{Ring, long_of, packet_of}
use Rattle.ledger.specs.Steps.{newly_of}
use Rattle.ledger.specs.Rows.{new_rows, resend_rows, ack_rows, mark_rows}

-- ---- a new packet: 8, 5, 7

module _ (f : Flow) (cap psn size : ℕ) where
  pub new_8 : (psn ≡ f.next → ⊥) → 8 ≡ first_of (new_rows f cap psn size)
  new_8 n = first_here 8 8 _ _ (ap not (ne_eqb psn f.next n)) refl

  module _ (n8 : psn ≡ f.next) where
    pub new_5 : f.backlog < size → 5 ≡ first_of (new_rows f cap psn size)
    new_5 l = first_later 5 8 _ _ (ap not (eq-eqb psn f.next n8)) (first_here 5 5 _ _ (lt-ltb f.backlog size l) refl)

    module _ (n5 : size ≤ f.backlog) where
      pub new_7 : long_of f ≡ cap → 7 ≡ first_of (new_rows f cap psn size)
      new_7 e =
          first_later 7 8 _ _ (ap not (eq-eqb psn f.next n8))
          (first_later 7 5 _ _ (le-ltb f.backlog size n5) (first_here 7 7 _ _ (eq-eqb (long_of f) cap e) refl))

      pub new_0 : (long_of f ≡ cap → ⊥) → 0 ≡ first_of (new_rows f cap psn size)
      new_0 n =
          first_later 0 8 _ _ (ap not (eq-eqb psn f.next n8))
          (first_later 0 5 _ _ (le-ltb f.backlog size n5) (first_later 0 7 _ _ (ne_eqb (long_of f) cap n) first_none))

  pub new_facts : first_of (new_rows f cap psn size) ≡ 0 → (psn ≡ f.next) × (size ≤ f.backlog) × (long_of f ≡ cap → ⊥)
  new_facts e =
      let a = none_here 8 _ _ (omega arith) e in
      let b = none_here 5 _ _ (omega arith) a.1 in
      let c = none_here 7 _ _ (omega arith) b.1 in
      (eqb-true psn f.next (not-false _ a.0), ltb-false f.backlog size b.0, eqb-false (long_of f) cap c.0)

-- ---- a resend: 8

module _ (f : Flow) (r : Ring) (psn size : ℕ) where
  -- the row's test, of the packet that the code finds
  test_8 : (x : Packet) → x ≡ packet_of f r psn
      → (not (eqb x.status marked_status) || not (eqb size x.size))
      ≡ (not (is_marked (packet_of f r psn)) || not (eqb size (packet_of f r psn).size))
  unfolding is_marked
  test_8 x e = ap (λ (y : Packet). not (eqb y.status marked_status) || not (eqb size y.size)) e

  pub resend_8 : (x : Packet) → x ≡ packet_of f r psn → (not (eqb x.status marked_status) || not (eqb size x.size)) ≡ true
      → 8 ≡ first_of (resend_rows f r psn size)
  resend_8 x e t = first_here 8 8 _ _ (sym (test_8 x e) ∙ t) refl

  pub resend_0 : (x : Packet) → x ≡ packet_of f r psn → (not (eqb x.status marked_status) || not (eqb size x.size)) ≡ false
      → 0 ≡ first_of (resend_rows f r psn size)
  resend_0 x e t = first_later 0 8 _ _ (sym (test_8 x e) ∙ t) first_none

  pub resend_facts : first_of (resend_rows f r psn size) ≡ 0 → (is_marked (packet_of f r psn) ≡ true) × (size ≡ (packet_of f r psn).size)
  resend_facts e =
      let a = none_here 8 _ _ (omega arith) e in
      let n = neither (not (is_marked (packet_of f r psn))) (not (eqb size (packet_of f r psn).size)) a.0 in
      (not-false _ n.0, eqb-true size (packet_of f r psn).size (not-false _ n.1))

-- ---- an ACK: 9, 11

module _ (f : Flow) (z : ℤ) (cum map count : ℕ) where
  pub ack_9 : unsent_or_old f.next cum map ≡ true → 9 ≡ first_of (ack_rows f z cum map count)
  ack_9 t = first_here 9 9 _ _ t refl

  module _ (n9 : unsent_or_old f.next cum map ≡ false) where
    pub ack_11 : sinks z (newly_of count f.held) ≡ true → 11 ≡ first_of (ack_rows f z cum map count)
    ack_11 t = first_later 11 9 _ _ n9 (first_here 11 11 _ _ t refl)

    pub ack_0 : sinks z (newly_of count f.held) ≡ false → 0 ≡ first_of (ack_rows f z cum map count)
    ack_0 t = first_later 0 9 _ _ n9 (first_later 0 11 _ _ t first_none)

  pub ack_facts : first_of (ack_rows f z cum map count) ≡ 0 → (unsent_or_old f.next cum map ≡ false)
      × (sinks z (newly_of count f.held) ≡ false)
  ack_facts e =
      let a = none_here 9 _ _ (omega arith) e in
      (a.0, (none_here 11 _ _ (omega arith) a.1).0)

-- ---- a NACK or a loss: 10, 11

module _ (f : Flow) (z : ℤ) (r : Ring) (psn : ℕ) where
  -- the rows' tests, of the packet that the code finds
  module _ (x : Packet) (e : x ≡ packet_of f r psn) where
    pub mark_10 : (x.status ≡ flying_status → ⊥) → 10 ≡ first_of (mark_rows f z r psn)
    unfolding is_flying
    mark_10 n = first_here 10 10 _ _ (rw (← e) (ap not (ne_eqb x.status flying_status n))) refl

    module _ (flies : x.status ≡ flying_status) where
      past_10 : not (is_flying (packet_of f r psn)) ≡ false
      unfolding is_flying
      past_10 = rw (← e) (ap not (eq-eqb x.status flying_status flies))

      pub mark_11 : sinks z x.size ≡ true → 11 ≡ first_of (mark_rows f z r psn)
      mark_11 t = first_later 11 10 _ _ past_10 (first_here 11 11 _ _ (rw (← e) t) refl)

      pub mark_0 : sinks z x.size ≡ false → 0 ≡ first_of (mark_rows f z r psn)
      mark_0 t = first_later 0 10 _ _ past_10 (first_later 0 11 _ _ (rw (← e) t) first_none)

  pub mark_facts : first_of (mark_rows f z r psn) ≡ 0 → (is_flying (packet_of f r psn) ≡ true) × (sinks z (packet_of f r psn).size ≡ false)
  mark_facts e =
      let a = none_here 10 _ _ (omega arith) e in
      (not-false _ a.0, (none_here 11 _ _ (omega arith) a.1).0)
