-- What a sound ledger tells, fact by fact, and the way back: a queue of live packets, laid out, with a flow that counts it, holds together
-- (`stands_laid`). By the laws of walks and the ring's geometry.
-- Assumes nothing.
use Rattle.std.proofs.Common.{◌≡◌, ℕ, ◌+◌, ◌-◌, ◌*◌, ◌^◌, ◌<◌, ◌≤◌, true, false, ◌&&◌, eqb, ltb, leb, List, length, get_or, ℤ, pos, negsuc, sym, refl, ap, ◌∙◌, subst, le_refl, mul-le-mul, arith, ltb-true, lt-ltb, eq-eqb, ne_eqb, eqb-true, le-leb, leb-true}
use mathlib.Core.Logic.{by_cases}
use native.Mathlib.Decide.{dec_lt}
use lib.ListN.{get_or-eq_default}
use borrow.Author.Tests.{not-true}
use Rattle.rules.specs.Branch.{lt_yes, lt_no, eq_both}
use Rattle.rules.specs.Test.{inside, both, whole, inside_tells, inside_yes}
use Rattle.serial.specs.Psn.{psns}
use Rattle.serial.specs.Count.{counts}
use Rattle.ledger.specs.Packets.{flying_status, done_status, no_packet, is_done, flying_one, marked_one, marked_size, sum_of}
use Rattle.ledger.specs.Bounds.{size_least, resent_most, backlog_most, in_bounds, Flown}
use Rattle.ledger.specs.Ring.{Ring, Ledger, cap_of, packet_at, place_of, long_of, laid, packets, offset_of}
use Rattle.ledger.specs.Ring.{packet_of}
use Rattle.ledger.specs.Sound.{all_to, is_capacity, is_ring, is_live, is_zero, slot_ok, head_ok, stands, Others, tallies, sound_ledger, Even}
use Rattle.ledger.specs.Sound.{Few, SoundLedger}
use Rattle.ledger.specs.declared.Flow.{Flow}
use Rattle.ledger.specs.declared.Totals.{Totals}
use Rattle.ledger.specs.declared.Packet.{Packet}
use Rattle.ledger.proofs.Walks.{all_at, all_of, sum_bound}
use Rattle.ledger.proofs.Geometry.{
  Cap,
  cap_facts,
  queue_long,
  queue_at,
  laid_cap,
  laid_even,
  laid_at,
  queue_laid,
  laid_queue,
  packet_none,
}

-- ---- one slot

-- a slot in low..next-1
pub record Live (mtu clock : ℕ) (x : Packet) : Type 0 where
  pub status_least : flying_status ≤ x.status
  pub status_most : x.status ≤ done_status
  pub size_least_lem : size_least ≤ x.size
  pub size_most : x.size ≤ mtu
  pub sent_most : x.sent ≤ clock
  pub resent_most_lem : x.resent ≤ resent_most

-- four numbers make a packet
pub packets_same : {a b c d e f g h : ℕ} → a ≡ e → b ≡ f → c ≡ g → d ≡ h
    → ◌≡◌ {A = Packet} (record { status = a; size = b; sent = c; resent = d }) (record { status = e; size = f; sent = g; resent = h })
packets_same i j k l = rw (i, j, k, l)

module _ (mtu clock : ℕ) (x : Packet) where
  live_facts : is_live mtu clock x ≡ true → Live mtu clock x
  unfolding is_live
  live_facts e =
      let a = inside flying_status x.status done_status in
      let b = a && inside size_least x.size mtu in
      let p = both (b && leb x.sent clock) (leb x.resent resent_most) e in
      let q = both b (leb x.sent clock) p.0 in
      let r = both a (inside size_least x.size mtu) q.0 in
      let s = inside_tells flying_status x.status done_status r.0 in
      let t = inside_tells size_least x.size mtu r.1 in
      record {
        status_least = s.0;
        status_most = s.1;
        size_least_lem = t.0;
        size_most = t.1;
        sent_most = leb-true x.sent clock q.1;
        resent_most_lem = leb-true x.resent resent_most p.1;
      }

  live_test : Live mtu clock x → is_live mtu clock x ≡ true
  unfolding is_live
  live_test l =
      whole
      (whole
      (whole (inside_yes flying_status x.status done_status l.status_least l.status_most)
      (inside_yes size_least x.size mtu l.size_least_lem l.size_most))
      (le-leb x.sent clock l.sent_most))
      (le-leb x.resent resent_most l.resent_most_lem)

  zero_facts : is_zero x ≡ true → x ≡ no_packet
  unfolding is_zero
  zero_facts e =
      let a = eqb x.status 0 in
      let b = a && eqb x.size 0 in
      let p = both (b && eqb x.sent 0) (eqb x.resent 0) e in
      let q = both b (eqb x.sent 0) p.0 in
      let r = both a (eqb x.size 0) q.0 in
      packets_same (eqb-true x.status 0 r.0) (eqb-true x.size 0 r.1) (eqb-true x.sent 0 q.1)
      (eqb-true x.resent 0 p.1)

  zero_test : x ≡ no_packet → is_zero x ≡ true
  unfolding is_zero
  zero_test e = rw e refl

-- a live packet stays so while the clock goes on
pub live_later : {mtu a b : ℕ} {x : Packet} → a ≤ b → Live mtu a x → Live mtu b x
live_later h l =
    record {
      status_least = l.status_least;
      status_most = l.status_most;
      size_least_lem = l.size_least_lem;
      size_most = l.size_most;
      sent_most = omega (arith, l.sent_most);
      resent_most_lem = l.resent_most_lem;
    }

-- the slot k after low, of which the first n are low..next-1
module _ (mtu clock : ℕ) (r : Ring) (low n k : ℕ) where
  pub slot_live : k < n → slot_ok mtu clock r low n k ≡ is_live mtu clock (packet_at r (place_of (cap_of r) low k))
  unfolding slot_ok
  slot_live h =
      let x = packet_at r (place_of (cap_of r) low k) in
      sym (lt_yes k n (is_live mtu clock x) (is_live mtu clock x) (is_zero x) h refl)

  pub slot_zero : n ≤ k → slot_ok mtu clock r low n k ≡ is_zero (packet_at r (place_of (cap_of r) low k))
  unfolding slot_ok
  slot_zero h =
      let x = packet_at r (place_of (cap_of r) low k) in
      sym (lt_no k n (is_zero x) (is_live mtu clock x) (is_zero x) h refl)

module _ (r : Ring) (low n : ℕ) where
  head_facts : head_ok r low n ≡ true → 0 < n → is_done (packet_at r (place_of (cap_of r) low 0)) ≡ false
  unfolding head_ok
  head_facts e h = not-true (is_done (packet_at r (place_of (cap_of r) low 0))) (simp (ne_eqb n 0 (λ q. omega arith)) at e)

  head_test : (0 < n → is_done (packet_at r (place_of (cap_of r) low 0)) ≡ false) → head_ok r low n ≡ true
  unfolding head_ok
  head_test h = by_cases (dec_lt 0 n) (λ p. simp (ne_eqb n 0 (λ q. omega arith), h p)) (λ p. simp (eq-eqb n 0 (omega arith)))

-- ---- the ring

module _ (r : Ring) where
  ring_facts : is_ring r ≡ true → (is_capacity (cap_of r) ≡ true) × Even r
  unfolding is_ring
  ring_facts e =
      let a = is_capacity (cap_of r) in
      let b = a && eqb (length r.size) (cap_of r) in
      let p = both (b && eqb (length r.sent) (cap_of r)) (eqb (length r.resent) (cap_of r)) e in
      let q = both b (eqb (length r.sent) (cap_of r)) p.0 in
      let s = both a (eqb (length r.size) (cap_of r)) q.0 in
      let C = cap_facts (cap_of r) s.0 in (
        s.0,
        record {
          some = omega (arith, C.least);
          few = C.most;
          size = eqb-true (length r.size) (cap_of r) s.1;
          sent = eqb-true (length r.sent) (cap_of r) q.1;
          resent = eqb-true (length r.resent) (cap_of r) p.1;
        },
      )

  pub ring_cap : is_ring r ≡ true → is_capacity (cap_of r) ≡ true
  ring_cap e = (ring_facts e).0

  pub ring_even : is_ring r ≡ true → Even r
  ring_even e = (ring_facts e).1

  ring_test : is_capacity (cap_of r) ≡ true → Even r → is_ring r ≡ true
  unfolding is_ring
  ring_test e E =
      whole
      (whole (whole e (eq-eqb (length r.size) (cap_of r) E.size)) (eq-eqb (length r.sent) (cap_of r) E.sent))
      (eq-eqb (length r.resent) (cap_of r) E.resent)

-- ---- a flow and its ring

pub record Facts (mtu clock : ℕ) (f : Flow) (r : Ring) : Type 0 where
  pub cap : is_capacity (cap_of r) ≡ true
  pub even : Even r
  pub fits : long_of f ≤ cap_of r
  pub live : (k : ℕ) → k < long_of f → Live mtu clock (get_or (packets f r) k no_packet)
  pub laid_so : r ≡ laid (cap_of r) f.low (packets f r)
  pub head : 0 < long_of f → is_done (get_or (packets f r) 0 no_packet) ≡ false
  pub low_psn : f.low < psns
  pub next_psn : f.next < psns
  pub held : f.held < counts
  pub backlog : f.backlog ≤ backlog_most

pub packets_long : (f : Flow) (r : Ring) → length (packets f r) ≡ long_of f
unfolding packets
packets_long f r = queue_long r f.low (long_of f)

module _ (mtu clock : ℕ) (f : Flow) (r : Ring) where
  pub stands_facts : stands mtu clock f r ≡ true → Facts mtu clock f r
  unfolding stands packets
  stands_facts e =
      let n = long_of f in
      let slot = slot_ok mtu clock r f.low n in
      let a = is_ring r in
      let b = a && leb n (cap_of r) in
      let d = b && all_to slot (cap_of r) in
      let g = d && head_ok r f.low n in
      let h = g && ltb f.low psns in
      let i = h && ltb f.next psns in
      let p = both (i && ltb f.held counts) (leb f.backlog backlog_most) e in
      let q = both i (ltb f.held counts) p.0 in
      let next = both h (ltb f.next psns) q.0 in
      let low = both g (ltb f.low psns) next.0 in
      let s = both d (head_ok r f.low n) low.0 in
      let t = both b (all_to slot (cap_of r)) s.0 in
      let u = both a (leb n (cap_of r)) t.0 in
      let R = ring_facts r u.0 in
      let le : n ≤ cap_of r = leb-true n (cap_of r) u.1 in
      let ok = all_at slot (cap_of r) t.1 in
      record {
        cap = R.0;
        even = R.1;
        fits = le;
        live =
            λ k h. rw (queue_at r f.low n k h)
            (live_facts mtu clock (packet_at r (place_of (cap_of r) f.low k))
            (sym (slot_live mtu clock r f.low n k h) ∙ ok k (omega arith)));
        laid_so =
            laid_queue (cap_of r) (cap_facts (cap_of r) R.0) f.low r n R.1 refl le
            (λ k h l.
            zero_facts mtu clock (packet_at r (place_of (cap_of r) f.low k)) (sym (slot_zero mtu clock r f.low n k h) ∙ ok k l));
        head = λ h. rw (queue_at r f.low n 0 h) (head_facts r f.low n s.1 h);
        low_psn = ltb-true f.low psns low.1;
        next_psn = ltb-true f.next psns next.1;
        held = ltb-true f.held counts q.1;
        backlog = leb-true f.backlog backlog_most p.1;
      }

  -- the packet of a PSN: live in low..next-1
  pub packet_live : Facts mtu clock f r → (psn : ℕ) → offset_of f psn < long_of f → Live mtu clock (packet_of f r psn)
  unfolding packet_of
  packet_live F psn h = F.live (offset_of f psn) h

-- a PSN that has a packet lies in low..next-1
pub packet_some : (f : Flow) (r : Ring) (psn : ℕ) → 0 < (packet_of f r psn).status → offset_of f psn < long_of f
packet_some f r psn h =
    by_cases (dec_lt (offset_of f psn) (long_of f)) (λ p. p)
    (λ p. absurd (let e = ap (λ (x : Packet). x.status) (packet_none f r psn (omega arith)) in let z : ⊥ = omega arith in z))

module _ (cap : ℕ) (f : Flow) (xs : List Packet) (ok : is_capacity cap ≡ true) where
  C : Cap cap
  C = cap_facts cap ok

  -- the packets of a layout are the queue
  pub packets_laid : long_of f ≡ length xs → length xs ≤ cap → packets f (laid cap f.low xs) ≡ xs
  unfolding packets
  packets_laid e fit = queue_laid cap C f.low xs (long_of f) (sym e) (omega arith)

  at : (k : ℕ) → k < cap → packet_at (laid cap f.low xs) (place_of (cap_of (laid cap f.low xs)) f.low k) ≡ get_or xs k no_packet
  at k h =
      ap (λ (c : ℕ). packet_at (laid cap f.low xs) (place_of c f.low k)) (laid_cap cap f.low xs) ∙ laid_at cap C f.low xs k h

  -- THE KEEPING THEOREM: the layout of a queue of live packets that does not begin with a done one holds
  -- together with a flow that counts it
  pub stands_laid : (mtu clock : ℕ) → length xs ≤ cap → ((k : ℕ) → k < length xs → Live mtu clock (get_or xs k no_packet))
      → (0 < length xs → is_done (get_or xs 0 no_packet) ≡ false) → long_of f ≡ length xs
      → f.low < psns → f.next < psns → f.held < counts → f.backlog ≤ backlog_most
      → stands mtu clock f (laid cap f.low xs) ≡ true
  unfolding stands
  stands_laid mtu clock fit live head e low next held backlog =
      let r = laid cap f.low xs in
      let c : cap_of r ≡ cap = laid_cap cap f.low xs in
      let slots : all_to (slot_ok mtu clock r f.low (long_of f)) (cap_of r) ≡ true =
      all_of (slot_ok mtu clock r f.low (long_of f)) (cap_of r)
      (λ k l.
      by_cases (dec_lt k (long_of f))
      (λ p.
      slot_live mtu clock r f.low (long_of f) k p
      ∙ live_test mtu clock _ (rw (at k (omega arith)) (live k (omega arith))))
      (λ p.
      slot_zero mtu clock r f.low (long_of f) k (omega arith)
      ∙ zero_test mtu clock _ (at k (omega arith) ∙ get_or-eq_default xs no_packet (omega arith)))) in
      let first : head_ok r f.low (long_of f) ≡ true =
      head_test r f.low (long_of f) (λ h. rw (at 0 (omega arith)) (head (omega arith))) in
      whole
      (whole
      (whole
      (whole
      (whole (whole (whole (ring_test r (rw c ok) (laid_even cap C f.low xs)) (le-leb (long_of f) (cap_of r) (omega arith))) slots) first)
      (lt-ltb f.low psns low))
      (lt-ltb f.next psns next))
      (lt-ltb f.held counts held))
      (le-leb f.backlog backlog_most backlog)

-- the clock may go on
pub stands_later : (mtu a b : ℕ) (f : Flow) (r : Ring) → stands mtu a f r ≡ true → a ≤ b → stands mtu b f r ≡ true
stands_later mtu a b f r e h =
    let F = stands_facts mtu a f r e in
    let n : length (packets f r) ≡ long_of f = packets_long f r in
    subst (λ (s : Ring). stands mtu b f s ≡ true) (sym F.laid_so)
    (stands_laid (cap_of r) f (packets f r) F.cap mtu b (omega (arith, F.fits)) (λ k l. live_later h (F.live k (omega arith)))
    (λ l. F.head (omega arith)) (sym n) F.low_psn F.next_psn F.held F.backlog)

-- ---- the totals

pub flown_facts : (maxwnd : ℕ) (z : ℤ) → in_bounds maxwnd z ≡ true → Flown maxwnd z
unfolding in_bounds
flown_facts maxwnd (pos n) e = record { low = omega arith; high = leb-true n maxwnd (both true (leb n maxwnd) e).1 }
flown_facts maxwnd (negsuc n) e = record {
  low = omega (arith, leb-true n (2 ^ 24 - 1) (both (leb n (2 ^ 24 - 1)) true e).0);
  high = omega arith;
}

pub flown_test : (maxwnd : ℕ) (z : ℤ) → Flown maxwnd z → in_bounds maxwnd z ≡ true
unfolding in_bounds
flown_test maxwnd (pos n) f = whole refl (le-leb n maxwnd f.high)
flown_test maxwnd (negsuc n) f = whole (le-leb n (2 ^ 24 - 1) (omega (arith, f.low))) refl

-- the totals are those of the packets and the backlog, with what the other flows add
pub record Tallied (maxwnd : ℕ) (o : Others) (t : Totals) (f : Flow) (xs : List Packet) : Type 0 where
  pub flying : t.flying ≡ o.flying + sum_of flying_one xs
  pub marked : t.marked ≡ o.marked + sum_of marked_one xs
  pub bytes : t.marked_bytes ≡ o.bytes + sum_of marked_size xs
  pub backlog : t.backlog ≡ o.backlog + f.backlog
  pub flown : Flown maxwnd t.in_flight

module _ (maxwnd : ℕ) (o : Others) (t : Totals) (f : Flow) (xs : List Packet) where
  pub tallies_facts : tallies maxwnd o t f xs ≡ true → Tallied maxwnd o t f xs
  unfolding tallies
  tallies_facts e =
      let a = eqb t.flying (o.flying + sum_of flying_one xs) in
      let b = a && eqb t.marked (o.marked + sum_of marked_one xs) in
      let d = b && eqb t.marked_bytes (o.bytes + sum_of marked_size xs) in
      let p = both (d && eqb t.backlog (o.backlog + f.backlog)) (in_bounds maxwnd t.in_flight) e in
      let s = both d (eqb t.backlog (o.backlog + f.backlog)) p.0 in
      let q = both b (eqb t.marked_bytes (o.bytes + sum_of marked_size xs)) s.0 in
      let r = both a (eqb t.marked (o.marked + sum_of marked_one xs)) q.0 in
      record {
        flying = eqb-true _ _ r.0;
        marked = eqb-true _ _ r.1;
        bytes = eqb-true _ _ q.1;
        backlog = eqb-true _ _ s.1;
        flown = flown_facts maxwnd t.in_flight p.1;
      }

  pub tallies_test : Tallied maxwnd o t f xs → tallies maxwnd o t f xs ≡ true
  unfolding tallies
  tallies_test T =
      whole
      (whole (whole (whole (eq-eqb _ _ T.flying) (eq-eqb _ _ T.marked)) (eq-eqb _ _ T.bytes)) (eq-eqb _ _ T.backlog))
      (flown_test maxwnd t.in_flight T.flown)

-- at most 4,096 packets, each of at most 2^14 bytes
module _ {mtu clock : ℕ} {f : Flow} {r : Ring} where
  few_sum : (adds : Packet → ℕ) (b : ℕ) → Facts mtu clock f r → ((x : Packet) → x.size ≤ mtu → adds x ≤ b)
      → sum_of adds (packets f r) ≤ 4096 * b
  few_sum adds b F h =
      let n = packets_long f r in
      let s = sum_bound adds b (packets f r) (λ k i. h _ (F.live k (omega arith)).size_most) in
      let m : length (packets f r) ≤ 4096 = omega (arith, F.fits, F.even.few) in
      omega (arith, s, mul-le-mul m (le_refl b))

  pub few_flying : Facts mtu clock f r → sum_of flying_one (packets f r) ≤ 4096
  unfolding flying_one
  few_flying F =
      few_sum flying_one 1 F (λ x s. eq_both (λ (a : ℕ). a ≤ 1) x.status 1 1 0 (λ q. omega arith) (λ q. omega arith))

  pub few_marked : Facts mtu clock f r → sum_of marked_one (packets f r) ≤ 4096
  unfolding marked_one
  few_marked F =
      few_sum marked_one 1 F (λ x s. eq_both (λ (a : ℕ). a ≤ 1) x.status 2 1 0 (λ q. omega arith) (λ q. omega arith))

  pub few_bytes : mtu ≤ 2 ^ 14 → Facts mtu clock f r → sum_of marked_size (packets f r) ≤ 4096 * 2 ^ 14
  unfolding marked_size
  few_bytes hm F =
      few_sum marked_size (2 ^ 14) F
      (λ x s. eq_both (λ (a : ℕ). a ≤ 2 ^ 14) x.status 2 x.size 0 (λ q. omega arith) (λ q. omega arith))

-- ---- the ledger

module _ (mtu maxwnd clock : ℕ) (o : Others) (l : Ledger) where
  abbrev Totalled : Type 0
  Totalled = Tallied maxwnd o l.totals l.flow (packets l.flow l.slots)

  pub sound_ledger_parts : sound_ledger mtu maxwnd clock o l ≡ true → (stands mtu clock l.flow l.slots ≡ true) × Totalled
  unfolding sound_ledger
  sound_ledger_parts e =
      let p = both (stands mtu clock l.flow l.slots) (tallies maxwnd o l.totals l.flow (packets l.flow l.slots)) e in
      (p.0, tallies_facts maxwnd o l.totals l.flow (packets l.flow l.slots) p.1)

  pub sound_ledger_whole : stands mtu clock l.flow l.slots ≡ true → Totalled → sound_ledger mtu maxwnd clock o l ≡ true
  unfolding sound_ledger
  sound_ledger_whole e T = whole e (tallies_test maxwnd o l.totals l.flow (packets l.flow l.slots) T)

  pub sound_ledger_is : mtu ≤ 2 ^ 14 → maxwnd ≤ 2 ^ 26 → Few o → sound_ledger mtu maxwnd clock o l ≡ true → SoundLedger l
  sound_ledger_is hm hw few e =
      let p = sound_ledger_parts e in
      let F = stands_facts mtu clock l.flow l.slots p.0 in
      let T = p.1 in
      record {
        mtu = mtu;
        maxwnd = maxwnd;
        clock = clock;
        mtu_high = hm;
        maxwnd_high = hw;
        stands_so = p.0;
        flying_least = omega (arith, T.flying);
        flying_most = omega (arith, T.flying, few.flying, few_flying F);
        marked_least = omega (arith, T.marked);
        marked_most = omega (arith, T.marked, few.marked, few_marked F);
        bytes_least = omega (arith, T.bytes);
        bytes_most = omega (arith, T.bytes, few.bytes, few_bytes hm F);
        backlog_least = omega (arith, T.backlog);
        backlog_most_lem = omega (arith, T.backlog, few.backlog, F.backlog);
        flown = T.flown;
      }

pub sound_ledger_facts : {l : Ledger} (c : SoundLedger l) → Facts c.mtu c.clock l.flow l.slots
sound_ledger_facts {l} c = stands_facts c.mtu c.clock l.flow l.slots c.stands_so
