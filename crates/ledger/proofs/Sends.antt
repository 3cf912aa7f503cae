-- New data, a new packet and a resend: what the code's stores leave is the definition's ledger, and it holds together. A resend changes one
-- packet of the queue; the laws of one packet changed serve a mark too. By the ring's geometry and the keeping theorem.
-- Assumes nothing.
use Rattle.std.proofs.Common.{◌≡◌, ℕ, ◌+◌, ◌-◌, ◌/◌, ◌%◌, ◌<◌, ◌≤◌, min, true, false, List, [], ◌∷◌, ◌++◌, length, get_or, set, ℤ, pos, ◌+ℤ◌, sym, refl, ap, ◌∙◌, subst, arith, length-append, length-set, get_or-set_other, get_or-set_same, eqb-true}
use mathlib.Core.Logic.{by_cases}
use native.Mathlib.Decide.{ℕ_discrete, dec_lt}
use lib.Signed.{le_z}
use lib.ListN.{get_or-append}
use lib.Seq.{get_or-append_seam}
use Rattle.rules.specs.Branch.{if_eq}
use Rattle.rules.specs.Rows.{first_of}
use Rattle.serial.specs.Wrap.{minus}
use Rattle.serial.specs.Psn.{psns, plus}
use Rattle.serial.proofs.Wraps.{minus_is, laps, minus_turns}
use Rattle.serial.proofs.Cover.{plus_lt}
use Rattle.ledger.specs.declared.Flow.{Flow}
use Rattle.ledger.specs.declared.Totals.{Totals}
use Rattle.ledger.specs.declared.Packet.{Packet}
use Rattle.ledger.specs.Packets.{flying_status, marked_status, no_packet, is_flying, is_marked, is_done, flying_one, marked_one}
use Rattle.ledger.specs.Packets.{marked_size, sum_of}
use Rattle.ledger.specs.Bounds.{size_least, backlog_most, resent_most, Flown}
use Rattle.ledger.specs.Ring.{Ring, Ledger, ledger, cap_of, put_at, place_of, laid, long_of, packets, offset_of, packet_of}
use Rattle.ledger.specs.Memory.{size_end}
use Rattle.ledger.specs.Sound.{stands, Others, sound_ledger, SoundLedger}
use Rattle.ledger.specs.Steps.{changed, supplied, supplied_totals, supply_of, new_packet, push_of, resent_packet, resend_of}
use Rattle.ledger.specs.Rows.{new_rows, resend_rows}
use Rattle.ledger.proofs.Walks.{sum_append, sum_one, sum_set, sum_at_le}
use Rattle.ledger.proofs.Geometry.{cap_facts, place_psn, laid_put, laid_snoc}
use Rattle.ledger.proofs.Facts.{
  Live,
  Facts,
  live_later,
  stands_facts,
  packets_long,
  packet_live,
  packet_some,
  packets_laid,
  stands_laid,
  sound_ledger_parts,
  sound_ledger_whole,
  sound_ledger_facts,
}
use Rattle.ledger.proofs.Signs.{flown_more}
use Rattle.ledger.proofs.Judging.{new_facts, resend_facts}

-- ---- what one packet adds to the totals

pub flying_adds : (x : Packet) → x.status ≡ flying_status → (flying_one x ≡ 1) × (marked_one x ≡ 0) × (marked_size x ≡ 0)
unfolding flying_one marked_one marked_size if_eq
flying_adds x e = (rw e, rw e, rw e)

pub marked_adds : (x : Packet) → x.status ≡ marked_status → (flying_one x ≡ 0) × (marked_one x ≡ 1) × (marked_size x ≡ x.size)
unfolding flying_one marked_one marked_size if_eq
marked_adds x e = (rw e, rw e, rw e)

pub flies : (x : Packet) → is_flying x ≡ true → x.status ≡ flying_status
unfolding is_flying
flies x e = eqb-true x.status flying_status e

pub waits : (x : Packet) → is_marked x ≡ true → x.status ≡ marked_status
unfolding is_marked
waits x e = eqb-true x.status marked_status e

-- ---- one packet of the queue changed

-- what holds of the new packet and of each other one holds of each
set_all : (P : Packet → Type 0) (xs : List Packet) (k : ℕ) (y : Packet) → k < length xs → P y → (j : ℕ) → P (get_or xs j no_packet)
    → P (get_or (set xs k y) j no_packet)
set_all P xs k y h p j q =
    by_cases (ℕ_discrete j k) (λ e. rw (e, get_or-set_same xs k y no_packet h) p) (λ n. rw (get_or-set_other xs k j y no_packet n) q)

module _ (mtu clock : ℕ) (f : Flow) (r : Ring) (F : Facts mtu clock f r) (psn : ℕ) (h : offset_of f psn < long_of f) where
  within : offset_of f psn < length (packets f r)
  within = omega (arith, packets_long f r)

  fit : length (packets f r) ≤ cap_of r
  fit = omega (arith, packets_long f r, F.fits)

  -- it adds no more than all do
  pub found_le : (adds : Packet → ℕ) → adds (packet_of f r psn) ≤ sum_of adds (packets f r)
  unfolding packet_of
  found_le adds = sum_at_le adds (packets f r) (offset_of f psn) within

  -- its slot overwritten
  module _ (fits : psn < psns) (i : ℕ) (e : i ≡ psn % cap_of r) where
    here : i ≡ place_of (cap_of r) f.low (offset_of f psn)
    unfolding offset_of
    here = e ∙ sym (place_psn (cap_of r) f.low psn fits)

    pub put_changed : (y : Packet) → put_at r i y ≡ changed f r psn y
    unfolding changed
    put_changed y =
        ap (λ (s : Ring). put_at s i y) F.laid_so
        ∙ ap (λ (j : ℕ). put_at (laid (cap_of r) f.low (packets f r)) j y) here
        ∙ laid_put (cap_of r) (cap_facts (cap_of r) F.cap) f.low (packets f r) (offset_of f psn) y within fit

  module _ (y : Packet) where
    pub changed_packets : packets f (changed f r psn y) ≡ set (packets f r) (offset_of f psn) y
    unfolding changed
    changed_packets =
        let n = length-set (packets f r) (offset_of f psn) y in
        packets_laid (cap_of r) f (set (packets f r) (offset_of f psn) y) F.cap (omega (arith, packets_long f r)) (omega (arith, fit))

    -- the sums, with what it added before and what it adds now
    pub changed_sum : (adds : Packet → ℕ) → sum_of adds (packets f (changed f r psn y)) + adds (packet_of f r psn)
        ≡ sum_of adds (packets f r) + adds y
    unfolding packet_of
    changed_sum adds = rw changed_packets (sum_set adds (packets f r) (offset_of f psn) y within)

    -- a live packet that is not done may take its place
    pub changed_stands : (time : ℕ) → clock ≤ time → Live mtu time y → is_done y ≡ false → stands mtu time f (changed f r psn y) ≡ true
    unfolding changed
    changed_stands time later live out =
        let xs = packets f r in
        let k = offset_of f psn in
        let n : length (set xs k y) ≡ long_of f = length-set xs k y ∙ packets_long f r in
        stands_laid (cap_of r) f (set xs k y) F.cap mtu time (omega (arith, F.fits))
        (λ j l. set_all (Live mtu time) xs k y within live j (live_later later (F.live j (omega arith))))
        (λ l. set_all (λ (x : Packet). is_done x ≡ false) xs k y within out 0 (F.head (omega arith)))
        (sym n) F.low_psn F.next_psn F.held F.backlog

-- what a ledger that holds together gives a step
pub sound_ledger_tells : (mtu maxwnd clock : ℕ) (o : Others) (l : Ledger) → sound_ledger mtu maxwnd clock o l ≡ true
    → Facts mtu clock l.flow l.slots × Flown maxwnd l.totals.in_flight
sound_ledger_tells mtu maxwnd clock o l co =
    let p = sound_ledger_parts mtu maxwnd clock o l co in
    (stands_facts mtu clock l.flow l.slots p.0, p.1.flown)

-- The totals follow where each is what the packet's change makes of it: the sum s of the changed queue, with what the packet added before,
-- is the old total with what the packet adds now.
pub change_keeps : (mtu maxwnd clock time psn : ℕ) (o : Others) (l : Ledger) → sound_ledger mtu maxwnd clock o l ≡ true → clock ≤ time
    → offset_of l.flow psn < long_of l.flow → (y : Packet) → Live mtu time y → is_done y ≡ false → (t : Totals)
    → ((s : ℕ) → s + flying_one (packet_of l.flow l.slots psn) ≡ l.totals.flying + flying_one y → t.flying ≡ s)
    → ((s : ℕ) → s + marked_one (packet_of l.flow l.slots psn) ≡ l.totals.marked + marked_one y → t.marked ≡ s)
    → ((s : ℕ) → s + marked_size (packet_of l.flow l.slots psn) ≡ l.totals.marked_bytes + marked_size y → t.marked_bytes ≡ s)
    → t.backlog ≡ l.totals.backlog → Flown maxwnd t.in_flight
    → sound_ledger mtu maxwnd time o (ledger l.flow t (changed l.flow l.slots psn y)) ≡ true
change_keeps mtu maxwnd clock time psn o l co later h y live out t flying marked bytes backlog flown =
    let f = l.flow in
    let r = l.slots in
    let p = sound_ledger_parts mtu maxwnd clock o l co in
    let F = stands_facts mtu clock f r p.0 in
    let T = p.1 in
    let sum = changed_sum mtu clock f r F psn h y in
    sound_ledger_whole mtu maxwnd time o (ledger f t (changed f r psn y)) (changed_stands mtu clock f r F psn h y time later live out)
    (record {
      flying = flying _ (omega (arith, sum flying_one, T.flying));
      marked = marked _ (omega (arith, sum marked_one, T.marked));
      bytes = bytes _ (omega (arith, sum marked_size, T.bytes));
      backlog = backlog ∙ T.backlog;
      flown = flown;
    })

-- ---- new data

pub supply_stands : (mtu clock time bytes : ℕ) (f : Flow) (r : Ring) → Facts mtu clock f r → clock ≤ time → f.backlog + bytes ≤ backlog_most
    → stands mtu time (supplied bytes f) r ≡ true
unfolding supplied long_of packets
supply_stands mtu clock time bytes f r F later few =
    let n = packets_long f r in
    subst (λ (s : Ring). stands mtu time (supplied bytes f) s ≡ true) (sym F.laid_so)
    (stands_laid (cap_of r) (supplied bytes f) (packets f r) F.cap mtu time (omega (arith, F.fits))
    (λ k l. live_later later (F.live k (omega arith))) (λ l. F.head (omega arith)) (sym n) F.low_psn F.next_psn F.held few)

pub supply_keeps : (mtu maxwnd clock time bytes : ℕ) (o : Others) (l : Ledger) → sound_ledger mtu maxwnd clock o l ≡ true → clock ≤ time
    → l.flow.backlog + bytes ≤ backlog_most → sound_ledger mtu maxwnd time o (supply_of bytes l) ≡ true
unfolding supplied supplied_totals long_of packets
supply_keeps mtu maxwnd clock time bytes o l co later few =
    let p = sound_ledger_parts mtu maxwnd clock o l co in
    let T = p.1 in
    sound_ledger_whole mtu maxwnd time o (supply_of bytes l)
    (supply_stands mtu clock time bytes l.flow l.slots (stands_facts mtu clock l.flow l.slots p.0) later few)
    (record {
      flying = T.flying;
      marked = T.marked;
      bytes = T.bytes;
      backlog = omega (arith, T.backlog);
      flown = T.flown;
    })

-- ---- a new packet

-- a row that does not refuse leaves room
pub new_room : (mtu clock : ℕ) (f : Flow) (r : Ring) → Facts mtu clock f r → (psn size : ℕ) → first_of (new_rows f (cap_of r) psn size) ≡ 0
    → (size ≤ f.backlog) × (long_of f < cap_of r)
new_room mtu clock f r F psn size e =
    let n = new_facts f (cap_of r) psn size e in
    (n.1, by_cases (dec_lt (long_of f) (cap_of r)) (λ l. l) (λ g. absurd (n.2 (omega (arith, F.fits)))))

-- one PSN more
pub long_more : (low next : ℕ) → minus psns next low < 4096 → minus psns (plus next 1) low ≡ minus psns next low + 1
unfolding plus
long_more low next few =
    sym
    (minus_is psns (minus psns next low + 1) (plus next 1) low (laps psns next low) ((next + 1) / psns + low / psns + 1) (omega arith)
    (omega (arith, minus_turns psns next low (omega arith))))

module _ (mtu clock : ℕ) (f : Flow) (r : Ring) (F : Facts mtu clock f r) (room : long_of f < cap_of r) where
  -- the flow, one packet longer
  abbrev longer : ℕ → Flow
  longer size = record { low = f.low; next = plus f.next 1; held = f.held; backlog = f.backlog - size }

  longer_long : (size : ℕ) (x : Packet) → long_of (longer size) ≡ length (packets f r ++ (x ∷ []))
  unfolding long_of
  longer_long size x =
      long_more f.low f.next (omega (arith, F.even.few, room))
      ∙ omega (arith, packets_long f r, length-append (packets f r) (x ∷ []))

  -- the slot of next overwritten
  pub put_behind : (i : ℕ) → i ≡ f.next % cap_of r → (x : Packet) → put_at r i x ≡ laid (cap_of r) f.low (packets f r ++ (x ∷ []))
  unfolding long_of
  put_behind i e x =
      let here : i ≡ place_of (cap_of r) f.low (length (packets f r)) =
      e ∙ sym (place_psn (cap_of r) f.low f.next F.next_psn) ∙ ap (place_of (cap_of r) f.low) (sym (packets_long f r)) in
      ap (λ (s : Ring). put_at s i x) F.laid_so
      ∙ ap (λ (j : ℕ). put_at (laid (cap_of r) f.low (packets f r)) j x) here
      ∙ laid_snoc (cap_of r) (cap_facts (cap_of r) F.cap) f.low (packets f r) x (omega (arith, packets_long f r, room))

  -- what the code leaves
  pub push_is : (t : Totals) (time size i next : ℕ) (z : ℤ) (s : Ring) → i ≡ f.next % cap_of r → next ≡ plus f.next 1
      → z ≡ t.in_flight +ℤ pos size → s ≡ put_at r i (new_packet time size)
      → ledger (record { low = f.low; next = next; held = f.held; backlog = f.backlog - size })
      (record {
        flying = t.flying + 1;
        marked = t.marked;
        marked_bytes = t.marked_bytes;
        backlog = t.backlog - size;
        in_flight = z;
      }) s
      ≡ push_of time size (ledger f t r)
  unfolding push_of
  push_is t time size i next z s ei en ez es = rw (en, ez, es, put_behind i ei (new_packet time size))

  -- the packets of the longer flow
  pub longer_packets : (size : ℕ) (x : Packet) → packets (longer size) (laid (cap_of r) f.low (packets f r ++ (x ∷ []))) ≡ packets f r
      ++ (x ∷ [])
  longer_packets size x =
      packets_laid (cap_of r) (longer size) (packets f r ++ (x ∷ [])) F.cap (longer_long size x)
      (omega (arith, packets_long f r, length-append (packets f r) (x ∷ []), room))

  pub push_sum : (size : ℕ) (x : Packet) (adds : Packet → ℕ)
      → sum_of adds (packets (longer size) (laid (cap_of r) f.low (packets f r ++ (x ∷ [])))) ≡ sum_of adds (packets f r) + adds x
  push_sum size x adds =
      ap (sum_of adds) (longer_packets size x) ∙ sum_append adds (packets f r) (x ∷ [])
      ∙ ap (λ (n : ℕ). sum_of adds (packets f r) + n) (sum_one adds x)

  -- a live packet that is not done may stand behind the others
  pub push_stands : (time size : ℕ) (x : Packet) → clock ≤ time → Live mtu time x → is_done x ≡ false
      → stands mtu time (longer size) (laid (cap_of r) f.low (packets f r ++ (x ∷ []))) ≡ true
  push_stands time size x later live out =
      let xs = packets f r in
      let n = packets_long f r in
      let m = length-append xs (x ∷ []) in
      stands_laid (cap_of r) (longer size) (xs ++ (x ∷ [])) F.cap mtu time (omega (arith, room))
      (λ j l. snoc_all (Live mtu time) xs x live j l (λ h. live_later later (F.live j (omega arith))))
      (λ l. snoc_all (λ (y : Packet). is_done y ≡ false) xs x out 0 l (λ h. F.head (omega arith)))
      (longer_long size x) F.low_psn (plus_lt f.next 1) F.held (omega (arith, F.backlog))
    where
      -- what holds of each packet of a queue and of the one behind it
      snoc_all : (P : Packet → Type 0) (xs : List Packet) (y : Packet) → P y → (j : ℕ) → j < length (xs ++ (y ∷ []))
          → (j < length xs → P (get_or xs j no_packet)) → P (get_or (xs ++ (y ∷ [])) j no_packet)
      snoc_all P xs y p j l q =
          by_cases (dec_lt j (length xs)) (λ h. rw (get_or-append xs (y ∷ []) no_packet j h) (q h))
          (λ g.
          let e : j ≡ length xs = omega (arith, length-append xs (y ∷ [])) in
          rw (e, get_or-append_seam xs y [] no_packet) p)

pub push_keeps : (mtu maxwnd clock time psn size : ℕ) (o : Others) (l : Ledger) → sound_ledger mtu maxwnd clock o l ≡ true
    → first_of (new_rows l.flow (cap_of l.slots) psn size) ≡ 0 → clock ≤ time → size_least ≤ size → size ≤ mtu
    → le_z (l.totals.in_flight +ℤ pos mtu) (pos maxwnd) ≡ true
    → sound_ledger mtu maxwnd time o (push_of time size l) ≡ true
unfolding push_of is_done
push_keeps mtu maxwnd clock time psn size o l co rows later least most under =
    let f = l.flow in
    let r = l.slots in
    let p = sound_ledger_parts mtu maxwnd clock o l co in
    let F = stands_facts mtu clock f r p.0 in
    let T = p.1 in
    let fit = (new_room mtu clock f r F psn size rows).0 in
    let room = (new_room mtu clock f r F psn size rows).1 in
    let x = new_packet time size in
    let a = flying_adds x refl in
    let live : Live mtu time x =
    record {
      status_least = omega arith;
      status_most = omega arith;
      size_least_lem = least;
      size_most = most;
      sent_most = omega arith;
      resent_most_lem = omega arith;
    } in
    let sum = push_sum mtu clock f r F room size x in
    sound_ledger_whole mtu maxwnd time o (push_of time size l) (push_stands mtu clock f r F room time size x later live refl)
    (record {
      flying = omega (arith, sum flying_one, a.0, T.flying);
      marked = omega (arith, sum marked_one, a.1, T.marked);
      bytes = omega (arith, sum marked_size, a.2, T.bytes);
      backlog = omega (arith, fit, T.backlog);
      flown = flown_more maxwnd mtu l.totals.in_flight size T.flown under most;
    })

-- ---- a resend

-- a packet that is sent again is live
resent_live : (mtu clock time : ℕ) (x : Packet) → Live mtu clock x → Live mtu time (resent_packet time x)
resent_live mtu clock time x l =
    record {
      status_least = omega arith;
      status_most = omega arith;
      size_least_lem = l.size_least_lem;
      size_most = l.size_most;
      sent_most = omega arith;
      resent_most_lem = omega arith;
    }

pub resend_keeps : (mtu maxwnd clock time psn size : ℕ) (o : Others) (l : Ledger) → sound_ledger mtu maxwnd clock o l ≡ true
    → first_of (resend_rows l.flow l.slots psn size) ≡ 0 → clock ≤ time → le_z (l.totals.in_flight +ℤ pos mtu) (pos maxwnd) ≡ true
    → sound_ledger mtu maxwnd time o (resend_of time psn l) ≡ true
unfolding resend_of is_done
resend_keeps mtu maxwnd clock time psn size o l co rows later under =
    let f = l.flow in
    let r = l.slots in
    let x = packet_of f r psn in
    let k = sound_ledger_tells mtu maxwnd clock o l co in
    let w : x.status ≡ marked_status = waits x (resend_facts f r psn size rows).0 in
    let h : offset_of f psn < long_of f = packet_some f r psn (omega arith) in
    let live = packet_live mtu clock f r k.0 psn h in
    let a = marked_adds x w in
    let b = flying_adds (resent_packet time x) refl in
    change_keeps mtu maxwnd clock time psn o l co later h (resent_packet time x) (resent_live mtu clock time x live) refl
    (resend_of time psn l).totals
    (λ s e. omega (arith, a.0, b.0)) (λ s e. omega (arith, a.1, b.1)) (λ s e. omega (arith, a.2, b.2))
    refl
    (flown_more maxwnd mtu l.totals.in_flight x.size k.1 under live.size_most)

-- what the code asks of the packet that it finds
pub record Resendable (l : Ledger) (x : Packet) : Type 0 where
  pub resent : x.resent ≤ resent_most
  pub one : 1 ≤ l.totals.marked
  pub bytes : x.size ≤ l.totals.marked_bytes
  pub small : x.size < size_end

pub resend_some : (l : Ledger) (psn : ℕ) → is_marked (packet_of l.flow l.slots psn) ≡ true → (x : Packet)
    → x ≡ packet_of l.flow l.slots psn → 0 < x.status
resend_some l psn m x e = rw e (omega (arith, waits (packet_of l.flow l.slots psn) m))

module _ (l : Ledger) (c : SoundLedger l) (psn : ℕ) (m : is_marked (packet_of l.flow l.slots psn) ≡ true) (x : Packet)
    (e : x ≡ packet_of l.flow l.slots psn) where
  there : offset_of l.flow psn < long_of l.flow
  there = packet_some l.flow l.slots psn (omega (arith, waits (packet_of l.flow l.slots psn) m))

  pub resend_ready : Resendable l x
  resend_ready =
      let F = sound_ledger_facts c in
      let le = found_le c.mtu c.clock l.flow l.slots F psn there in
      let a = marked_adds (packet_of l.flow l.slots psn) (waits (packet_of l.flow l.slots psn) m) in
      let live = packet_live c.mtu c.clock l.flow l.slots F psn there in
      rw e
      (record {
        resent = live.resent_most_lem;
        one = omega (arith, le marked_one, a.1, c.marked_least);
        bytes = omega (arith, le marked_size, a.2, c.bytes_least);
        small = omega (arith, live.size_most, c.mtu_high);
      })

  -- what the code leaves
  pub resend_is : psn < psns → (time i again : ℕ) (z : ℤ) (s : Ring) → i ≡ psn % cap_of l.slots → again ≡ min (x.resent + 1) resent_most
      → z ≡ l.totals.in_flight +ℤ pos x.size
      → s ≡ put_at l.slots i (record { status = flying_status; size = x.size; sent = time; resent = again })
      → ledger l.flow
      (record {
        flying = l.totals.flying + 1;
        marked = l.totals.marked - 1;
        marked_bytes = l.totals.marked_bytes - x.size;
        backlog = l.totals.backlog;
        in_flight = z;
      }) s
      ≡ resend_of time psn l
  unfolding resend_of
  resend_is fits time i again z s ei ea ez es =
      let p = put_changed c.mtu c.clock l.flow l.slots (sound_ledger_facts c) psn there fits i ei (resent_packet time x) in
      rw (ez, es, ea, p, e)
