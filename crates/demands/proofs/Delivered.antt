-- `delivers_among`: of any list of ACKs of one flow among others, a packet outstanding at the start counts as delivered exactly if an
-- accepted one covered it; `delivers`: so of a flow by itself, from any start. Read off the ledger that the list leaves
-- (`deliver_settles`): a PSN that low has passed lies outside low..next-1, any other is packet k - gone of those left.
-- Assumes nothing.
use mathlib.Core.Path.{◌≡◌, refl, sym, ap, ◌∙◌}
use mathlib.Core.Logic.{by_cases}
use mathlib.Core.Bool.{Bool, true, false, true≢false}
use mathlib.Core.List.{List, [], ◌∷◌}
use Prim.Native.Nat.{ℕ, zero, suc, ◌+◌, ◌-◌, ◌/◌, ◌≤◌, ◌<◌}
use native.Mathlib.Nat.{le_of_suc-le-suc, not-suc-le-zero}
use native.Mathlib.Omega.{arith}
use native.Mathlib.Decide.{dec_le}
use lib.IntN.{ℤ}
use lib.ListN.{get_or}
use lib.Seq.{get_or-drop}
use borrow.Author.Tests.{eq-eqb, ne_eqb}
use Rattle.rules.specs.Branch.{lt_yes, lt_no, eq_both}
use Rattle.serial.specs.Wrap.{minus}
use Rattle.serial.specs.Psn.{psns, plus}
use Rattle.serial.proofs.Wraps.{minus_is, minus_lt}
use Rattle.serial.proofs.Cover.{plus_lt, plus_plus, minus_plus}
use Rattle.ledger.specs.Packets.{done_status, no_packet, is_out, is_done, cover_one, cover_all, done_run}
use Rattle.ledger.specs.Ring.{Ledger, long_of, packets, offset_of, packet_of}
use Rattle.ledger.specs.Sound.{alone}
use Rattle.ledger.specs.declared.Packet.{Packet}
use Rattle.ledger.proofs.Facts.{Facts, packets_long}
use Rattle.ledger.proofs.Queues.{cover_no, cover_out, cover_at, done_in, now_done, gone_of, left_of}
use Rattle.sender.specs.World.{World, ring_of, ledger_of}
use Rattle.sender.specs.Sound.{sound}
use Rattle.sender.specs.Events.{on_ack}
use Rattle.demands.specs.Events.{ack}
use Rattle.demands.specs.Burst.{Arrival, deliver, Outstanding, psn_of, is_delivered, was_covered}
use Rattle.demands.specs.Past.{past_deliver, past_covered, DeliversAmong}
use Rattle.demands.specs.Demands.{Delivers}
use Rattle.demands.proofs.Runs.{refused_same, unsound_refused}
use Rattle.demands.proofs.Sounded.{ledger_facts}
use Rattle.demands.proofs.Ledgers.{settled_by, left_long, settled_long, settled_packets, held_in, in_flight_in, deliver_settles}
use Rattle.demands.proofs.Ledgers.{past_deliver_lem, past_covered_lem}

-- every packet of the run at the front is done
run_done : (ys : List Packet) (k : ℕ) → k < done_run ys → is_done (get_or ys k no_packet) ≡ true
unfolding done_run is_done
run_done [] k h = absurd (not-suc-le-zero h)
run_done (y ∷ ys) k h =
    eq_both (λ (n : ℕ). k < n → is_done (get_or (y ∷ ys) k no_packet) ≡ true) y.status done_status (suc (done_run ys)) 0
    (λ e. go e k (run_done ys)) (λ n l. absurd (not-suc-le-zero l)) h
  where
    go : y.status ≡ done_status → (k : ℕ) → ((j : ℕ) → j < done_run ys → is_done (get_or ys j no_packet) ≡ true) → k < suc (done_run ys)
        → is_done (get_or (y ∷ ys) k no_packet) ≡ true
    go e zero ih l = eq-eqb y.status done_status e
    go e (suc j) ih l = ih j (le_of_suc-le-suc l)

-- a packet that is out is done by what covers it, and by nothing else
cover_done : (b : Bool) (x : Packet) → is_out x ≡ true → is_done (cover_one b x) ≡ b
cover_done true x o = rw (cover_out x o) (now_done x)
cover_done false x o = rw (cover_no x) (go (is_done x) refl)
  where
    go : (b : Bool) → is_done x ≡ b → b ≡ false
    go true e = absurd (true≢false (sym o ∙ done_in x e))
    go false e = refl

-- a PSN that low has passed by i lies almost a whole turn ahead of it
passed : (p i : ℕ) → p < psns → 0 < i → i < psns → minus psns p (plus p i) + i ≡ psns
unfolding plus
passed p i hp hi hl = let e = minus_is psns (psns - i) p (plus p i) ((p + i) / psns) 1 (omega arith) (omega arith) in omega arith

module _ (mtu clock : ℕ) (l : Ledger) (F : Facts mtu clock l.flow l.slots)
    (c : ℕ → Bool) (held : ℕ) (z : ℤ) (k : ℕ) (within : k < long_of l.flow) where
  abbrev low : ℕ
  low = l.flow.low

  abbrev xs : List Packet
  xs = packets l.flow l.slots

  abbrev ys : List Packet
  ys = cover_all c low xs

  abbrev gone : ℕ
  gone = gone_of c low xs

  abbrev m : Ledger
  m = settled_by c held z l

  -- how many packets are left, and of how few
  long : long_of m.flow + gone ≡ long_of l.flow
  long = omega (arith, settled_long mtu clock l F c held z, left_long mtu clock l F c held z)

  few : long_of l.flow ≤ 4096
  few = omega (arith, F.fits, F.even.few)

  -- where the packet stands now
  offset : offset_of m.flow (plus low k) ≡ minus psns (plus low k) (plus low gone)
  unfolding settled_by offset_of
  offset = refl

  here : gone ≤ k → offset_of m.flow (plus low k) ≡ k - gone
  here h =
      let e : plus (plus low gone) (k - gone) ≡ plus low k = plus_plus low gone (k - gone) ∙ ap (plus low) (omega arith) in
      offset ∙ (rw e at (minus_plus (plus low gone) (k - gone) (omega (arith, few))))

  past : k < gone → offset_of m.flow (plus low k) + (gone - k) ≡ psns
  past h =
      let e : plus (plus low k) (gone - k) ≡ plus low gone = plus_plus low k (gone - k) ∙ ap (plus low) (omega arith) in
      ap (λ (n : ℕ). n + (gone - k)) offset ∙ (rw e at (passed (plus low k) (gone - k) (plus_lt low k) (omega arith)
      (omega (arith, long, few))))

  pub settled_delivers : is_delivered m (plus low k) ≡ is_done (get_or ys k no_packet)
  unfolding is_delivered packet_of
  settled_delivers =
      by_cases (dec_le gone k)
      (λ h.
      let o = here h in
      let e : gone + (k - gone) ≡ k = omega arith in
      let p : is_done (get_or ys k no_packet) ≡ is_done (packet_of m.flow m.slots (plus low k)) =
      ap is_done (sym (
      ap (λ (qs : List Packet). get_or qs (offset_of m.flow (plus low k)) no_packet) (settled_packets mtu clock l F c held z)
      ∙ ap (λ (j : ℕ). get_or (left_of c low xs) j no_packet) o
      ∙ get_or-drop gone ys (k - gone) no_packet
      ∙ ap (λ (j : ℕ). get_or ys j no_packet) e)) in
      sym (lt_yes _ _ (is_done (get_or ys k no_packet)) _ true (omega (arith, long)) p))
      (λ h.
      let q = past (omega arith) in
      sym (lt_no _ _ (is_done (get_or ys k no_packet)) _ true (omega (arith, long, few)) (run_done ys k (omega arith))))

pub delivers_among : DeliversAmong
delivers_among o w ds k h out =
    let F = ledger_facts o w h in
    let c = past_covered w ds in
    let f = w.state.flow in
    let xs = packets f (ring_of w) in
    let v = past_deliver w ds in
    ap (λ (l : Ledger). is_delivered l (psn_of w k)) (deliver_settles o ds w h)
    ∙ settled_delivers w.state.settings.mtu w.state.clock (ledger_of w) F c (held_in v) (in_flight_in v) k out.within
    ∙ ap is_done (cover_at c f.low k xs F.low_psn (omega (arith, packets_long f (ring_of w), out.within)))
    ∙ cover_done (c (psn_of w k)) (get_or xs k no_packet) out.out

-- a start that does not hold together: every ACK is refused, and an outstanding packet stays so
module _ (w : World) (h : sound w ≡ false) where
  refused : (d : Arrival) → (on_ack d.time d.ack w).number ≡ 0 → ⊥
  refused d = unsound_refused (ack d.time d.ack) w h

  stays : (d : Arrival) → (on_ack d.time d.ack w).after ≡ w
  stays d = refused_same (ack d.time d.ack) w (refused d)

  none_moves : (ds : List Arrival) → deliver w ds ≡ w
  none_moves [] = refl
  none_moves (d ∷ ds) = ap (λ (v : World). deliver v ds) (stays d) ∙ none_moves ds

  none_covers : (ds : List Arrival) (psn : ℕ) → was_covered w ds psn ≡ false
  none_covers [] psn = refl
  none_covers (d ∷ ds) psn = rw (ne_eqb (on_ack d.time d.ack w).number 0 (refused d), stays d) (none_covers ds psn)

  still_out : (k : ℕ) → Outstanding w k → is_delivered (ledger_of w) (psn_of w k) ≡ false
  unfolding is_delivered packet_of offset_of long_of
  still_out k o =
      let f = w.state.flow in
      let xs = packets f (ring_of w) in
      let l : long_of f < psns = minus_lt psns f.next f.low (omega arith) in
      let e : minus psns (plus f.low k) f.low ≡ k = minus_plus f.low k (omega (arith, o.within)) in
      sym (lt_yes _ _ false _ true (omega (arith, o.within))
      (sym (ap (λ (j : ℕ). is_done (get_or xs j no_packet)) e ∙ rw (cover_no (get_or xs k no_packet)) at
      (cover_done false (get_or xs k no_packet) o.out))))

-- a flow by itself, from any start
pub delivers : Delivers
delivers w ds k o = go (sound w) refl
  where
    go : (b : Bool) → sound w ≡ b → is_delivered (ledger_of (deliver w ds)) (psn_of w k) ≡ was_covered w ds (psn_of w k)
    go true h =
        ap (λ (v : World). is_delivered (ledger_of v) (psn_of w k)) (sym (past_deliver_lem ds w h))
        ∙ delivers_among alone w ds k h o
        ∙ past_covered_lem ds w h (psn_of w k)
    go false h = rw (none_moves w h ds, none_covers w h ds (psn_of w k)) (still_out w h k o)
