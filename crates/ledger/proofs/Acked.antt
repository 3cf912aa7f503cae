-- An ACK's ledger step: what its two halves ask holds, together they give the definition, and the ledger that is left holds together. By
-- the laws of queues, the facts of a ledger that holds together, and the one theorem that keeps them.
-- Assumes nothing.
use Rattle.std.proofs.Common.{◌≡◌, ℕ, ◌+◌, ◌-◌, ◌^◌, ◌<◌, ◌≤◌, Bool, true, ◌&&◌, List, length, get_or, drop, ℤ, pos, ◌-ℤ◌, sym, ap, ◌∙◌, add-zero, arith, length-drop, get_or-drop, w64, to_z, of_z}
use lib.ListN.{get_or-eq_default}
use Rattle.rules.specs.Branch.{so_both}
use Rattle.rules.specs.Rows.{first_of}
use Rattle.bits.specs.Bits.{bit_at}
use Rattle.serial.specs.Psn.{plus, covered, back_of, span_of}
use Rattle.serial.specs.Count.{counts, is_old}
use Rattle.serial.proofs.Cover.{plus_lt, minus_step, sent_facts}
use Rattle.ledger.specs.Packets.{done_status, no_packet, with_status, is_done, is_out, flying_one, marked_one, marked_size, sum_of, cover_one}
use Rattle.ledger.specs.Packets.{cover_all, covered_sum, done_run}
use Rattle.ledger.specs.Bounds.{Flown}
use Rattle.ledger.specs.Ring.{Ring, Ledger, ledger, cap_of, packet_at, place_of, laid, queue_of, long_of, packets}
use Rattle.ledger.specs.Memory.{Memory, shown, ledger_shown, kept, kept_of, Words}
use Rattle.ledger.specs.Sound.{SoundLedger, stands, Others, sound_ledger, Lengths}
use Rattle.ledger.specs.Steps.{held_of, newly_of, acknowledge_of}
use Rattle.ledger.specs.Rows.{ack_rows}
use Rattle.ledger.specs.Delivery.{slots, Standing, Reached, Covered, Retired}
use Rattle.ledger.specs.declared.Flow.{Flow}
use Rattle.ledger.specs.declared.Totals.{Totals}
use Rattle.ledger.specs.declared.Packet.{Packet}
use Rattle.ledger.proofs.Geometry.{cap_facts, laid_cap, laid_at, queue_laid}
use Rattle.ledger.proofs.Facts.{Live, live_later, Facts, packets_long, stands_facts, stands_laid, packets_laid}
use Rattle.ledger.proofs.Facts.{sound_ledger_parts, sound_ledger_whole, sound_ledger_facts}
use Rattle.ledger.proofs.Queues.{OfOut, flying_out, marked_out, bytes_out, cover_long, cover_each, cover_sum, run_adds, run_le}
use Rattle.ledger.proofs.Queues.{cover_no, cover_at, run_next, run_first}
use Rattle.ledger.proofs.Signs.{word, flown_word, flown_less, sound_ledger_flown}
use Rattle.ledger.proofs.Judging.{ack_facts}
use Rattle.ledger.proofs.Shows.{stands_lengths, stands_words, kept_is}
use Rattle.ledger.proofs.WordsShown.{even_cap, live_bits, live_packet, caps, mark_out}
use Rattle.ledger.proofs.WordsReached.{beyond_next, near_or_far}

-- covering keeps the number of packets
covered_long : (cov : ℕ → Bool) (f : Flow) (r : Ring) → length (cover_all cov f.low (packets f r)) ≡ long_of f
covered_long cov f r = cover_long cov f.low (packets f r) ∙ packets_long f r

-- ---- what the two halves of the step ask

-- a sound ledger's memory stands
standing : (f : Flow) (t : Totals) (m : Memory) → SoundLedger (ledger_shown f t m) → Standing m f
unfolding packet_at
standing f t m K =
    let F : Facts K.mtu K.clock f (shown f.low f.next m) = sound_ledger_facts K in
    let L = stands_lengths K.mtu K.clock f m K.stands_so in
    let W = stands_words K.mtu K.clock f m K.stands_so in
    let c : cap_of (shown f.low f.next m) ≡ slots m = even_cap f.low f.next L in
    let fit : long_of f ≤ slots m = omega (arith, F.fits) in
    record {
      lengths = L;
      words = W;
      fits = fit;
      marks =
          λ k h.
          let i : ℕ = place_of (slots m) f.low k in
          let e = ap (λ (x : Packet). x.status) (live_packet f L k h ∙ live_bits f L k h W fit) in
          mark_out (bit_at m.outstanding i) (bit_at m.marked i) (omega (arith, (F.live k h).status_most, e));
      empty =
          λ k h l.
          let r : Ring = shown f.low f.next m in
          let xs : List Packet = packets f r in
          ap (λ (s : Ring). packet_at s (place_of (slots m) f.low k))
          (F.laid_so ∙ ap (λ (n : ℕ). laid n f.low xs) c)
          ∙ laid_at (slots m) (cap_facts (slots m) L.cap) f.low xs k l
          ∙ get_or-eq_default xs no_packet (omega (arith, packets_long f r));
    }

-- n is the number of packets that the code computes
module _ {f : Flow} {t : Totals} {n : ℕ} (m : Memory) (K : SoundLedger (ledger_shown f t m)) (is-long : n ≡ long_of f) where
  stood : Standing m f
  stood = standing f t m K

  few : n ≤ 4096
  few = omega (arith, stood.fits, (caps stood).most)

  pub reach_asks : (map : ℕ) {span : ℕ} → span ≡ span_of map → (n ≤ 4096) × (span ≤ 64)
  unfolding span_of
  reach_asks map e = (few, omega arith)

  -- what the first half asks; `far` is how far the code looks
  pub cover_asks : (count : ℕ) {cum map back span far : ℕ} → first_of (ack_rows f t.in_flight cum map count) ≡ 0
      → back ≡ back_of f.next cum → span ≡ span_of map → far ≡ n + span - back → Standing m f × Reached m f t far cum map
  unfolding long_of
  cover_asks count {cum} {map} accepted eb es ef =
      let sent = (ack_facts f t.in_flight cum map count accepted).0 in
      let s = sent_facts f.next cum map sent in (
        stood,
        record {
          within = omega (arith, is-long, s.1);
          beyond = λ j lo hi. beyond_next f.low f.next cum map j sent (omega (arith, few, is-long)) hi (omega (arith, is-long, s.1));
          near = λ k h. near_or_far f.low f.next cum k (omega (arith, few, is-long)) (omega (arith, is-long, s.1)) s.0;
          flying = K.flying_least;
          marked = K.marked_least;
          bytes = K.bytes_least;
        },
      )

  module _ {cum map : ℕ} {u : Totals} {r : Ring} (D : Covered (ledger_shown f t m) cum map u r) where
    -- in-flight, as the machine's word reads, is in its bounds
    flown : Flown (2 ^ 26) u.in_flight
    flown = rw D.in_flight (sound_ledger_flown K)

    pub less_asks : Flown (2 ^ 26) (to_z w64 (of_z w64 u.in_flight))
    less_asks = flown_word u.in_flight flown

    after : List Packet
    after = cover_all (covered cum map) f.low (packets f (shown f.low f.next m))

    after_long : length after ≡ n
    unfolding after
    after_long = covered_long (covered cum map) f (shown f.low f.next m) ∙ sym is-long

    -- the packets of the ring that the covering leaves
    queue_after : queue_of r f.low n ≡ after
    unfolding after
    queue_after =
        let ring : Ring = shown f.low f.next m in
        let cap : cap_of ring ≡ slots m = even_cap f.low f.next stood.lengths in
        ap (λ (x : Ring). queue_of x f.low n) D.ring_is
        ∙ queue_laid (cap_of ring) (rw cap (caps stood)) f.low after n after_long (omega (arith, stood.fits, is-long))

    -- an ACK that reaches no packet leaves low as it was, not done
    pub none_done : {far : ℕ} → Reached m f t far cum map → far ≡ 0 → done_run (queue_of r f.low n) ≡ 0
    unfolding after
    none_done A z =
        let F = sound_ledger_facts K in
        let xs : List Packet = packets f (shown f.low f.next m) in
        ap done_run queue_after
        ∙ run_first after
        (λ h.
        let some : 0 < long_of f = omega (arith, after_long, is-long) in
        ap is_done
        (cover_at (covered cum map) f.low 0 xs F.low_psn (omega (arith, packets_long f (shown f.low f.next m)))
        ∙ ap (λ (hit : Bool). cover_one hit (get_or xs 0 no_packet)) (A.beyond 0 (omega arith) (omega arith))
        ∙ cover_no (get_or xs 0 no_packet))
        ∙ F.head some)

    -- together they give the definition
    stepped : (count : ℕ) {gone low held bytes : ℕ} {z : ℤ} {s : Ring} → Retired r f.low n gone s
        → low ≡ plus f.low gone
        → held ≡ held_of count f.held → bytes ≡ newly_of count f.held → z ≡ to_z w64 (of_z w64 u.in_flight) -ℤ pos bytes
        → ledger (record { low = low; next = f.next; held = held; backlog = f.backlog })
        (record { flying = u.flying; marked = u.marked; marked_bytes = u.marked_bytes; backlog = u.backlog; in_flight = z }) s
        ≡ acknowledge_of cum map count (ledger_shown f t m)
    unfolding after acknowledge_of
    stepped count {gone} R el eh eb ez =
        let ring : Ring = shown f.low f.next m in
        let q : queue_of r f.low n ≡ after = queue_after in
        let g : gone ≡ done_run after = R.run ∙ ap done_run q in
        let c : cap_of r ≡ cap_of ring = ap cap_of D.ring_is ∙ laid_cap (cap_of ring) f.low after in
        rw (el, eh, ez, word u.in_flight flown, eb, D.flying, D.marked, D.bytes, D.backlog, D.in_flight, R.ring_is, c, q, g)

    -- and what is kept is what is kept of it
    pub acked : (count : ℕ) {gone low held bytes : ℕ} {z : ℤ} (k : Memory) → Lengths k → Words k
        → Retired r f.low n gone (shown (plus f.low gone) f.next k)
        → low ≡ plus f.low gone
        → held ≡ held_of count f.held → bytes ≡ newly_of count f.held → z ≡ to_z w64 (of_z w64 u.in_flight) -ℤ pos bytes
        → kept (record { low = low; next = f.next; held = held; backlog = f.backlog })
        (record { flying = u.flying; marked = u.marked; marked_bytes = u.marked_bytes; backlog = u.backlog; in_flight = z }) k
        ≡ kept_of (acknowledge_of cum map count (ledger_shown f t m))
    acked count k L W R el eh eb ez =
        kept_is (record { low = _; next = f.next; held = _; backlog = f.backlog })
        (record { flying = u.flying; marked = u.marked; marked_bytes = u.marked_bytes; backlog = u.backlog; in_flight = _ }) k
        (acknowledge_of cum map count (ledger_shown f t m)) L W
        (stepped count (rw el R) el eh eb ez)

-- ---- the ledger that is left holds together

cover_live : {mtu clock : ℕ} {x : Packet} (hit : Bool) → Live mtu clock x → Live mtu clock (cover_one hit x)
unfolding cover_one
cover_live {mtu} {clock} {x} hit v =
    so_both (Live mtu clock) (hit && is_out x) (with_status done_status x) x
    (λ e.
    record {
      status_least = omega arith;
      status_most = omega arith;
      size_least_lem = v.size_least_lem;
      size_most = v.size_most;
      sent_most = v.sent_most;
      resent_most_lem = v.resent_most_lem;
    })
    (λ e. v)

held_lt : (count held : ℕ) → count < counts → held < counts → held_of count held < counts
unfolding held_of
held_lt count held c h = so_both (λ (x : ℕ). x < counts) (is_old count held) held count (λ e. h) (λ e. c)

module _ (cum map count mtu clock : ℕ) (l : Ledger) (e : stands mtu clock l.flow l.slots ≡ true) where
  S : Facts mtu clock l.flow l.slots
  S = stands_facts mtu clock l.flow l.slots e

  abbrev xs : List Packet
  xs = packets l.flow l.slots

  abbrev ys : List Packet
  ys = cover_all (covered cum map) l.flow.low xs

  ys_long : length ys ≡ long_of l.flow
  ys_long = covered_long (covered cum map) l.flow l.slots

  -- packet k of those left was packet gone + k
  left_at : (k : ℕ) → get_or (drop (done_run ys) ys) k no_packet ≡ get_or ys (done_run ys + k) no_packet
  left_at k = get_or-drop (done_run ys) ys k no_packet

  left_long : length (drop (done_run ys) ys) + done_run ys ≡ long_of l.flow
  left_long = omega (arith, length-drop (done_run ys) ys, ys_long, run_le ys)

  -- the flow counts them
  counts_left : long_of (acknowledge_of cum map count l).flow ≡ length (drop (done_run ys) ys)
  unfolding acknowledge_of long_of
  counts_left = omega (arith, left_long, minus_step l.flow.low l.flow.next (done_run ys) (omega (arith, run_le ys, ys_long)))

  -- the flow and its ring
  pub acked_stands : (time : ℕ) → count < counts → clock ≤ time
      → stands mtu time (acknowledge_of cum map count l).flow (acknowledge_of cum map count l).slots ≡ true
  unfolding acknowledge_of
  acked_stands time hc ht =
      stands_laid (cap_of l.slots) (acknowledge_of cum map count l).flow (drop (done_run ys) ys) S.cap mtu time
      (omega (arith, left_long, S.fits))
      (λ k h.
      rw (left_at k)
      (cover_each (covered cum map) (Live mtu time) (λ hit x. cover_live hit) l.flow.low (done_run ys + k) xs
      (live_later ht (S.live (done_run ys + k) (omega (arith, left_long))))))
      (λ h. rw (left_at 0, add-zero (done_run ys)) (run_next ys (omega (arith, left_long, ys_long))))
      counts_left
      (plus_lt l.flow.low (done_run ys))
      S.next_psn
      (held_lt count l.flow.held hc S.held)
      S.backlog

  -- what the packets that are left add up to, and what has left
  pub acked_sum : (adds : Packet → ℕ) → OfOut adds
      → sum_of adds (packets (acknowledge_of cum map count l).flow (acknowledge_of cum map count l).slots)
      + covered_sum adds (covered cum map) l.flow.low (packets l.flow l.slots)
      ≡ sum_of adds (packets l.flow l.slots)
  unfolding acknowledge_of
  acked_sum adds z =
      rw (packets_laid (cap_of l.slots) (acknowledge_of cum map count l).flow (drop (done_run ys) ys) S.cap counts_left
      (omega (arith, left_long, S.fits)))
      (omega (arith, run_adds adds z ys, cover_sum adds z (covered cum map) l.flow.low xs))

-- the whole ledger
pub ack_keeps : (cum map count mtu maxwnd clock time : ℕ) (o : Others) (l : Ledger) → sound_ledger mtu maxwnd clock o l ≡ true
    → count < counts → first_of (ack_rows l.flow l.totals.in_flight cum map count) ≡ 0 → clock ≤ time
    → sound_ledger mtu maxwnd time o (acknowledge_of cum map count l) ≡ true
unfolding acknowledge_of
ack_keeps cum map count mtu maxwnd clock time o l co hc none_refuses ht =
    let p = sound_ledger_parts mtu maxwnd clock o l co in
    let T = p.1 in
    let left = acked_sum cum map count mtu clock l p.0 in
    let m = acknowledge_of cum map count l in
    sound_ledger_whole mtu maxwnd time o m (acked_stands cum map count mtu clock l p.0 time hc ht)
    (record {
      flying = omega (arith, T.flying, left flying_one flying_out);
      marked = omega (arith, T.marked, left marked_one marked_out);
      bytes = omega (arith, T.bytes, left marked_size bytes_out);
      backlog = T.backlog;
      flown =
          flown_less maxwnd l.totals.in_flight (newly_of count l.flow.held) T.flown
          (ack_facts l.flow l.totals.in_flight cum map count none_refuses).1;
    })
