-- ACKs past number 2 and the ledger: when one is accepted, told by the clock and the ledger alone (`Fine`), and what a list of them leaves
-- of a flow among others: the ledger that one ACK would leave which covers whatever an accepted one of them covers (`deliver_settles`). By
-- the union law of queues (`settle_twice`). For a flow by itself the list is the same as with the tests of number 2 (`past_deliver_lem`,
-- `past_covered_lem`).
-- Assumes nothing.
use mathlib.Core.Path.{◌≡◌, refl, sym, ap, ap₂, ◌∙◌}
use mathlib.Core.Bool.{Bool, true, false, not, ◌&&◌, ◌||◌}
use mathlib.Core.Logic.{by_cases}
use mathlib.Core.List.{List, [], ◌∷◌}
use Prim.Native.Nat.{ℕ, suc, ◌+◌, ◌-◌, ◌≤◌, ◌<◌, suc-le-suc, zero-le}
use native.Mathlib.Omega.{arith}
use native.Mathlib.Decide.{dec_lt}
use lib.Dec.{leb, eqb}
use lib.IntN.{ℤ}
use lib.ListN.{length, get_or, drop, length-drop}
use borrow.Author.Tests.{le-ltb, lt-leb, leb-false, ne_eqb, eqb-false}
use Rattle.rules.specs.Test.{neither}
use Rattle.rules.specs.Rows.{first_of, first_later, none_here}
use Rattle.serial.specs.Psn.{psns, plus, covered, unsent_or_old}
use Rattle.serial.specs.Count.{counts}
use Rattle.serial.proofs.Cover.{plus_lt, plus_plus, minus_step}
use Rattle.ledger.specs.Packets.{done_status, no_packet, is_out, is_done, flying_one, marked_one, marked_size, sum_of, cover_one, cover_all}
use Rattle.ledger.specs.Packets.{covered_sum, done_run}
use Rattle.ledger.specs.Bounds.{fallen, sinks}
use Rattle.ledger.specs.Ring.{Ledger, ledger, cap_of, laid, long_of, packets}
use Rattle.ledger.specs.Sound.{Others}
use Rattle.ledger.specs.Steps.{held_of, newly_of, acknowledge_of}
use Rattle.ledger.specs.declared.Packet.{Packet}
use Rattle.ledger.proofs.Geometry.{laid_cap}
use Rattle.ledger.proofs.Facts.{Facts, packets_long, packets_laid}
use Rattle.ledger.proofs.Queues.{plus_none, plus_next, cover_no, cover_stays, cover_long, OfOut, flying_out, marked_out, bytes_out}
use Rattle.ledger.proofs.Queues.{cover_sum, run_le, run_stop, run_end, either, gone_of, left_of, settle_twice, covered_twice}
use Rattle.ledger.proofs.Judging.{ack_0, ack_facts}
use Rattle.window.specs.Limits.{time_end}
use Rattle.sender.specs.World.{World, view_of, Answered, ledger_of}
use Rattle.sender.specs.Sound.{sound_among, sound}
use Rattle.sender.specs.Rows.{ack_all_rows}
use Rattle.sender.specs.Events.{on_ack, past_ack}
use Rattle.sender.specs.declared.Ack.{Ack}
use Rattle.sender.proofs.Rowing.{decided_yes}
use Rattle.sender.proofs.Stepping.{time_facts}
use Rattle.demands.specs.Events.{ack, step_of}
use Rattle.demands.specs.Burst.{Arrival, deliver, covers_psn, was_covered}
use Rattle.demands.specs.Past.{past_deliver, past_covered}
use Rattle.demands.proofs.Runs.{past_cases, past_answer_lem}
use Rattle.demands.proofs.Sounded.{ledger_facts, step_sound, step_ledger, answer_sound}

-- ---- queues

-- what covers nothing changes no packet
cover_none : (p : ℕ) (ys : List Packet) → cover_all (λ psn. false) p ys ≡ ys
unfolding cover_all
cover_none p [] = refl
cover_none p (y ∷ ys) = ap₂ (λ (x : Packet) (zs : List Packet). x ∷ zs) (cover_no y) (cover_none (plus p 1) ys)

-- only what is covered of the packets that are out matters
pub cover_agree : (c d : ℕ → Bool) (p : ℕ) (ys : List Packet) → p < psns
    → ((k : ℕ) → k < length ys → is_out (get_or ys k no_packet) ≡ true → c (plus p k) ≡ d (plus p k)) → cover_all c p ys ≡ cover_all d p ys
unfolding cover_all
cover_agree c d p [] b h = refl
cover_agree c d p (y ∷ ys) b h =
    ap₂ (λ (x : Packet) (zs : List Packet). x ∷ zs) (one (is_out y) refl)
    (cover_agree c d (plus p 1) ys (plus_lt p 1) (λ k l o. rw (plus_next p k) (h (suc k) (suc-le-suc l) o)))
  where
    one : (o : Bool) → is_out y ≡ o → cover_one (c p) y ≡ cover_one (d p) y
    one true e = ap (λ (t : Bool). cover_one t y) (rw (plus_none p b) at (h 0 (suc-le-suc zero-le) e))
    one false e = cover_stays (c p) y e ∙ sym (cover_stays (d p) y e)

-- nothing leaves a queue that does not begin with a done packet
run_zero : (ys : List Packet) → (0 < length ys → is_done (get_or ys 0 no_packet) ≡ false) → done_run ys ≡ 0
unfolding is_done
run_zero ys h =
    by_cases (dec_lt 0 (length ys))
    (λ l. run_stop ys 0 l (eqb-false (get_or ys 0 no_packet).status done_status (h l)))
    (λ n. run_end ys 0 (omega arith))

-- ---- the ledger settled: what `cov` covers is done, low moves on, the totals fall; the held count and in-flight are given

unfoldable pub settled_by : (ℕ → Bool) → ℕ → ℤ → Ledger → Ledger
settled_by cov held z l =
    let f = l.flow in
    let t = l.totals in
    let xs = packets f l.slots in
    ledger
    (record { low = plus f.low (gone_of cov f.low xs); next = f.next; held = held; backlog = f.backlog })
    (record {
      flying = t.flying - covered_sum flying_one cov f.low xs;
      marked = t.marked - covered_sum marked_one cov f.low xs;
      marked_bytes = t.marked_bytes - covered_sum marked_size cov f.low xs;
      backlog = t.backlog;
      in_flight = z;
    })
    (laid (cap_of l.slots) (plus f.low (gone_of cov f.low xs)) (left_of cov f.low xs))

-- an ACK's step is of this form
pub acked_settled : (cum map count : ℕ) (l : Ledger)
    → acknowledge_of cum map count l
    ≡ settled_by (covered cum map) (held_of count l.flow.held) (fallen l.totals.in_flight (newly_of count l.flow.held)) l
unfolding acknowledge_of settled_by
acked_settled cum map count l = refl

-- two ledgers of this form are equal where their parts are
same : (next held backlog all : ℕ) (z : ℤ) {low low' fl fl' mk mk' by by' cap cap' : ℕ} {xs ys : List Packet}
    → low ≡ low' → fl ≡ fl' → mk ≡ mk' → by ≡ by' → cap ≡ cap' → xs ≡ ys
    → ledger (record { low = low; next = next; held = held; backlog = backlog })
    (record { flying = fl; marked = mk; marked_bytes = by; backlog = all; in_flight = z }) (laid cap low xs)
    ≡ ledger (record { low = low'; next = next; held = held; backlog = backlog })
    (record { flying = fl'; marked = mk'; marked_bytes = by'; backlog = all; in_flight = z }) (laid cap' low' ys)
same next held backlog all z a b c d e f = rw (a, b, c, d, e, f)

module _ (mtu clock : ℕ) (l : Ledger) (F : Facts mtu clock l.flow l.slots) where
  abbrev xs : List Packet
  xs = packets l.flow l.slots

  abbrev low : ℕ
  low = l.flow.low

  -- it does not matter how the same packets come to be covered
  module _ (c d : ℕ → Bool) (e : cover_all c low xs ≡ cover_all d low xs) where
    sums : (adds : Packet → ℕ) → OfOut adds → covered_sum adds c low xs ≡ covered_sum adds d low xs
    sums adds z = omega (arith, cover_sum adds z c low xs, cover_sum adds z d low xs, ap (sum_of adds) e)

    pub settled_same : (held : ℕ) (z : ℤ) → settled_by c held z l ≡ settled_by d held z l
    unfolding settled_by
    settled_same held z =
        same l.flow.next held l.flow.backlog l.totals.backlog z (ap (λ (ys : List Packet). plus low (done_run ys)) e)
        (ap (λ (n : ℕ). l.totals.flying - n) (sums flying_one flying_out))
        (ap (λ (n : ℕ). l.totals.marked - n) (sums marked_one marked_out))
        (ap (λ (n : ℕ). l.totals.marked_bytes - n) (sums marked_size bytes_out))
        refl (ap (λ (ys : List Packet). drop (done_run ys) ys) e)

  -- the packets of a settled ledger
  module _ (c : ℕ → Bool) (held : ℕ) (z : ℤ) where
    pub left_long : length (left_of c low xs) + gone_of c low xs ≡ long_of l.flow
    left_long =
        omega (
          arith,
          length-drop (gone_of c low xs) (cover_all c low xs),
          cover_long c low xs,
          packets_long l.flow l.slots,
          run_le (cover_all c low xs),
        )

    pub settled_long : long_of (settled_by c held z l).flow ≡ length (left_of c low xs)
    unfolding settled_by long_of
    settled_long = omega (arith, left_long, minus_step low l.flow.next (gone_of c low xs) (omega (arith, left_long)))

    pub settled_packets : packets (settled_by c held z l).flow (settled_by c held z l).slots ≡ left_of c low xs
    unfolding settled_by
    settled_packets =
        packets_laid (cap_of l.slots) (settled_by c held z l).flow (left_of c low xs) F.cap settled_long
        (omega (arith, left_long, F.fits))

    -- settled by one and then by another is settled by either
    pub settled_twice : (d : ℕ → Bool) (held' : ℕ) (z' : ℤ) → settled_by d held' z' (settled_by c held z l)
        ≡ settled_by (either c d) held' z' l
    unfolding settled_by
    settled_twice d held' z' =
        let q = plus low (gone_of c low xs) in
        let t = settle_twice c d low xs F.low_psn in
        rw settled_packets
        (same l.flow.next held' l.flow.backlog l.totals.backlog z'
        (plus_plus low (gone_of c low xs) (gone_of d q (left_of c low xs)) ∙ ap (plus low) t.0)
        (omega (arith, covered_twice c d flying_one flying_out low xs F.low_psn))
        (omega (arith, covered_twice c d marked_one marked_out low xs F.low_psn))
        (omega (arith, covered_twice c d marked_size bytes_out low xs F.low_psn))
        (laid_cap (cap_of l.slots) q (left_of c low xs))
        t.1)

  -- what covers nothing leaves the ledger as it is
  pub settled_none : settled_by (λ psn. false) l.flow.held l.totals.in_flight l ≡ l
  unfolding settled_by
  settled_none =
      let e = cover_none low xs in
      let n = packets_long l.flow l.slots in
      let g : gone_of (λ psn. false) low xs ≡ 0 = ap done_run e ∙ run_zero xs (λ h. F.head (omega arith)) in
      let sums : (adds : Packet → ℕ) → OfOut adds → covered_sum adds (λ psn. false) low xs ≡ 0 =
      λ adds z. omega (arith, cover_sum adds z (λ psn. false) low xs, ap (sum_of adds) e) in
      same l.flow.next l.flow.held l.flow.backlog l.totals.backlog l.totals.in_flight
      (ap (plus low) g ∙ plus_none low F.low_psn)
      (omega (arith, sums flying_one flying_out))
      (omega (arith, sums marked_one marked_out))
      (omega (arith, sums marked_size bytes_out))
      refl
      (ap₂ (λ (k : ℕ) (ys : List Packet). drop k ys) g e)
      ∙ ap (ledger l.flow l.totals) (sym F.laid_so)

-- ---- one ACK

-- the tests of the rows for an ACK's fields, 21, 23 and 24, of so many EVs
abbrev pub bad_fields : ℕ → Ack → Bool
bad_fields evs a = leb counts a.count || leb evs a.ev || not (covered a.cum a.map a.trigger)

pub fields_count : (evs : ℕ) (a : Ack) → bad_fields evs a ≡ false → a.count < counts
fields_count evs a e =
    leb-false counts a.count (neither (leb counts a.count) (leb evs a.ev)
    (neither (leb counts a.count || leb evs a.ev) _ e).0).0

-- When an ACK is accepted past number 2: told by the number of EVs, the clock and the ledger alone
pub record Fine (time : ℕ) (a : Ack) (evs clock : ℕ) (l : Ledger) : Type 0 where
  pub later : clock ≤ time
  pub early : time < time_end
  pub fields : bad_fields evs a ≡ false
  pub sent : unsent_or_old l.flow.next a.cum a.map ≡ false
  pub afloat : sinks l.totals.in_flight (newly_of a.count l.flow.held) ≡ false

module _ (time : ℕ) (a : Ack) (w : World) where
  pub accepted_fine : (past_ack time a w).number ≡ 0 → Fine time a w.state.settings.ev_count w.state.clock (ledger_of w)
  accepted_fine =
      past_cases (λ x. x.number ≡ 0 → Fine time a w.state.settings.ev_count w.state.clock (ledger_of w)) (ack time a) w
      (λ rows e.
      let t = time_facts time w.state _ rows in
      let k = none_here 21 _ _ (omega arith) t.1 in
      let v = none_here 23 _ _ (omega arith) k.1 in
      let g = none_here 24 _ _ (omega arith) v.1 in
      let s = ack_facts w.state.flow w.state.totals.in_flight a.cum a.map a.count g.1 in
      record { later = t.0.later; early = t.0.early; fields = rw (k.0, v.0, g.0); sent = s.0; afloat = s.1 })
      (λ n h e. absurd (h e))

  module _ (f : Fine time a w.state.settings.ev_count w.state.clock (ledger_of w)) where
    pub fine_rows : first_of (ack_all_rows time a w.state) ≡ 0
    fine_rows =
        sym (first_later 0 3 _ _ (ap₂ ◌||◌ (le-ltb time w.state.clock f.later) (lt-leb time_end time f.early))
        (first_later 0 21 _ _ both_ok.0
        (first_later 0 23 _ _ both_ok.1
        (first_later 0 24 _ _ ok.1 (ack_0 w.state.flow w.state.totals.in_flight a.cum a.map a.count f.sent
        f.afloat)))))
      where
        ok : ((leb counts a.count || leb w.state.settings.ev_count a.ev) ≡ false)
            × (not (covered a.cum a.map a.trigger) ≡ false)
        ok = neither (leb counts a.count || leb w.state.settings.ev_count a.ev) _ f.fields

        both_ok : (leb counts a.count ≡ false) × (leb w.state.settings.ev_count a.ev ≡ false)
        both_ok = neither (leb counts a.count) (leb w.state.settings.ev_count a.ev) ok.0

    pub fine_accepted : past_ack time a w ≡ record { number = 0; after = step_of (ack time a) w }
    unfolding past_ack
    fine_accepted = sym (decided_yes (first_of (ack_all_rows time a w.state)) w (step_of (ack time a) w) fine_rows)

-- ---- a list of ACKs

abbrev pub held_in : World → ℕ
held_in w = w.state.flow.held

abbrev pub in_flight_in : World → ℤ
in_flight_in w = w.state.totals.in_flight

-- the ledger that is left is that of one ACK which covers what the accepted ones cover
abbrev Settles : World → (ℕ → Bool) → Ledger → Type 0
Settles v cov l = ledger_of v ≡ settled_by cov (held_in v) (in_flight_in v) l

-- the same of the first ACK's answer, and the others
abbrev SettlesOn : World → Ack → List Arrival → Answered → Type 0
SettlesOn w a ds x =
    Settles (past_deliver x.after ds) (λ psn. (eqb x.number 0 && covers_psn a psn) || past_covered x.after ds psn) (ledger_of w)

pub deliver_settles : (o : Others) (ds : List Arrival) (w : World) → sound_among o (view_of w) ≡ true
    → Settles (past_deliver w ds) (past_covered w ds) (ledger_of w)
deliver_settles o [] w h = sym (settled_none w.state.settings.mtu w.state.clock (ledger_of w) (ledger_facts o w h))
deliver_settles o (d ∷ ds) w h = go (λ v K. deliver_settles o ds v K)
  where
    go : ((v : World) → sound_among o (view_of v) ≡ true → Settles (past_deliver v ds) (past_covered v ds) (ledger_of v))
        → SettlesOn w d.ack ds (past_ack d.time d.ack w)
    go ih =
        let a = d.ack in
        past_cases (SettlesOn w a ds) (ack d.time a) w
        (λ rows.
        let v = step_of (ack d.time a) w in
        let u = past_deliver v ds in
        ih v (step_sound o (ack d.time a) w h rows)
        ∙ ap (settled_by (past_covered v ds) (held_in u) (in_flight_in u))
        (step_ledger o (ack d.time a) w h rows ∙ acked_settled a.cum a.map a.count (ledger_of w))
        ∙ settled_twice w.state.settings.mtu w.state.clock (ledger_of w) (ledger_facts o w h)
        (covered a.cum a.map) _ _ (past_covered v ds) (held_in u) (in_flight_in u))
        (λ n z.
        let u = past_deliver w ds in
        ih w h
        ∙ ap (λ (b : Bool). settled_by (λ psn. (b && covers_psn a psn) || past_covered w ds psn) (held_in u) (in_flight_in u) (ledger_of w))
        (sym (ne_eqb n 0 z)))

-- ---- a flow by itself: with the tests of number 2

module _ (d : Arrival) (w : World) (h : sound w ≡ true) where
  past_first : past_ack d.time d.ack w ≡ on_ack d.time d.ack w
  past_first = past_answer_lem (ack d.time d.ack) w h

  first_sound : sound (on_ack d.time d.ack w).after ≡ true
  first_sound = answer_sound (ack d.time d.ack) w h

pub past_deliver_lem : (ds : List Arrival) (w : World) → sound w ≡ true → past_deliver w ds ≡ deliver w ds
past_deliver_lem [] w h = refl
past_deliver_lem (d ∷ ds) w h =
    ap (λ (x : Answered). past_deliver x.after ds) (past_first d w h) ∙ past_deliver_lem ds _ (first_sound d w h)

pub past_covered_lem : (ds : List Arrival) (w : World) → sound w ≡ true → (psn : ℕ) → past_covered w ds psn ≡ was_covered w ds psn
past_covered_lem [] w h psn = refl
past_covered_lem (d ∷ ds) w h psn =
    ap (λ (x : Answered). (eqb x.number 0 && covers_psn d.ack psn) || past_covered x.after ds psn) (past_first d w h)
    ∙ ap (λ (b : Bool). (eqb (on_ack d.time d.ack w).number 0 && covers_psn d.ack psn) || b)
    (past_covered_lem ds _ (first_sound d w h) psn)
