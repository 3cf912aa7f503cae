-- `burst_among`: the ledger after a burst of one flow among others is the one that the newest alone leaves; `burst`: so of a flow by
-- itself. Over a burst, in-flight less 256 bytes for each unit that the held count lies behind the newest's stays the same, so the newest
-- is never refused and its count is held in the end; and the packets that are out at the start are covered by an accepted member exactly
-- where the newest covers them. Both lists, the burst and the newest alone, then settle one ledger alike.
-- Assumes nothing.
use mathlib.Core.Path.{◌≡◌, refl, sym, ap, ap₂, ◌∙◌}
use mathlib.Core.Logic.{inl, ⊎_elim, by_cases}
use mathlib.Core.Bool.{Bool, true, false, ◌&&◌, ◌||◌, or-true, false≢true}
use mathlib.Core.List.Memᴰ
use mathlib.Core.List.{List, [], ◌∷◌, Memᴰ}
use Prim.Native.Nat.{ℕ, suc, ◌+◌, ◌-◌, ◌*◌, ◌^◌, ◌≤◌, ◌<◌}
use native.Mathlib.Omega.{arith}
use native.Mathlib.Decide.{dec_le}
use lib.Dec.{ltb, eqb}
use lib.IntN.{ℤ, pos, negsuc, neg_ℤ, sub_ℕ, ◌+ℤ◌, +ℤ_assoc, +ℤ_idr, neg_ℤ-+ℤ, -ℤ-+ℤ_cancel}
use lib.Signed.{lt_z}
use borrow.Author.Tests.{ltb-false, le-ltb, lt-ltb}
use Rattle.rules.specs.Branch.{if_so}
use Rattle.rules.specs.Rows.{first_of}
use Rattle.serial.specs.Wrap.{minus}
use Rattle.serial.specs.Psn.{unsent_or_old}
use Rattle.serial.specs.Count.{counts, half, is_old, forward_of}
use Rattle.serial.proofs.Wraps.{minus_none, minus_self}
use Rattle.serial.proofs.Counts.{old_zero, old_behind, took}
use Rattle.window.specs.declared.Settings.{Settings}
use Rattle.ledger.specs.Packets.{cover_all}
use Rattle.ledger.specs.Bounds.{unit, in_flight_least, fallen, sinks}
use Rattle.ledger.specs.Ring.{Ledger, packets}
use Rattle.ledger.specs.Sound.{Others, alone}
use Rattle.ledger.specs.Steps.{held_of, newly_of, acknowledge_of}
use Rattle.ledger.proofs.Facts.{packets_long}
use Rattle.window.specs.Limits.{time_end}
use Rattle.sender.specs.World.{World, ring_of, view_of, Answered, ledger_of}
use Rattle.sender.specs.Sound.{sound_among}
use Rattle.sender.specs.Rows.{ack_all_rows}
use Rattle.sender.specs.Events.{past_ack}
use Rattle.sender.specs.declared.Ack.{Ack}
use Rattle.demands.specs.Events.{ack, step_of}
use Rattle.demands.specs.Burst.{Arrival, Timely, Of, Arrives, covers_psn, psn_of}
use Rattle.demands.specs.Past.{past_deliver, past_covered, NewestPast, BurstAmong}
use Rattle.demands.specs.Demands.{Burst}
use Rattle.demands.proofs.Runs.{past_cases, past_answer_lem, accepted, step_clock, step_settings}
use Rattle.demands.proofs.Sounded.{ledger_facts, step_sound, step_ledger}
use Rattle.demands.proofs.Ledgers.{cover_agree, settled_by, settled_same, bad_fields, fields_count, Fine, accepted_fine}
use Rattle.demands.proofs.Ledgers.{fine_rows, fine_accepted, held_in, in_flight_in, deliver_settles, past_deliver_lem}

-- ---- signed in-flight

fall_none : (z : ℤ) → fallen z 0 ≡ z
fall_none z = +ℤ_idr z

fall_fall : (z : ℤ) (a b : ℕ) → fallen (fallen z a) b ≡ fallen z (a + b)
fall_fall z a b = +ℤ_assoc z (neg_ℤ (pos a)) (neg_ℤ (pos b)) ∙ ap (λ (k : ℤ). z +ℤ k) (sym (neg_ℤ-+ℤ (pos a) (pos b)))

-- more is no lower
rise : (z : ℤ) (c : ℕ) → lt_z z in_flight_least ≡ false → lt_z (z +ℤ pos c) in_flight_least ≡ false
rise (pos a) c e = refl
rise (negsuc a) c e = go (ltb c (suc a)) refl
  where
    go : (b : Bool) → ltb c (suc a) ≡ b → lt_z (sub_ℕ c (suc a)) in_flight_least ≡ false
    go true q = rw q (le-ltb (2 ^ 24 - 1) (suc a - suc c) (omega (arith, ltb-false (2 ^ 24 - 1) a e)))
    go false q = rw q

-- what does not sink by b bytes does not by fewer
sinks_less : (z : ℤ) (a b : ℕ) → a ≤ b → sinks z b ≡ false → sinks z a ≡ false
unfolding sinks
sinks_less z a b le e =
    let q : a + (b - a) ≡ b = omega arith in
    let p : fallen z b +ℤ pos (b - a) ≡ fallen z a =
    ap (λ (k : ℤ). k +ℤ pos (b - a)) (ap (fallen z) (sym q) ∙ sym (fall_fall z a (b - a))) ∙ -ℤ-+ℤ_cancel (fallen z a) (pos (b - a)) in
    rw p at (rise (fallen z b) (b - a) e)

-- ---- counts

-- how far a count lies behind the newest's
abbrev lag : ℕ → ℕ → ℕ
lag n h = minus counts n h

-- what a count c does where h is held: it comes no farther behind n, and pays for what it comes nearer
record Took (n h c : ℕ) : Type 0 where
  less : lag n (held_of c h) ≤ lag n h
  caught : lag n (held_of c h) ≤ lag n c
  paid : forward_of c h + lag n (held_of c h) ≡ lag n h

module _ (n h c : ℕ) (near : lag n h < half) (close : lag n c < half) where
  taken : Took n h c
  unfolding held_of if_so
  taken =
      by_cases (dec_le (lag n c) (lag n h))
      (λ le.
      let o : is_old c h ≡ false = old_behind n h c near close ∙ le-ltb (lag n h) (lag n c) le in
      let held : held_of c h ≡ c = ap (λ (b : Bool). if_so b h c) o in
      record {
        less = rw held le;
        caught = rw held (omega arith);
        paid = rw held (took n h c near close le);
      })
      (λ gt.
      let o : is_old c h ≡ true = old_behind n h c near close ∙ lt-ltb (lag n h) (lag n c) (omega arith) in
      let held : held_of c h ≡ h = ap (λ (b : Bool). if_so b h c) o in
      record {
        less = rw held (omega arith);
        caught = rw held (omega arith);
        paid = rw (held, old_zero c h o) (omega arith);
      })

  -- what is left of in-flight once the newest is taken in stays the same
  left_same : (z : ℤ) → fallen (fallen z (newly_of c h)) (unit * lag n (held_of c h)) ≡ fallen z (unit * lag n h)
  unfolding newly_of
  left_same z =
      let e : unit * forward_of c h + unit * lag n (held_of c h) ≡ unit * lag n h = omega (arith, taken.paid) in
      fall_fall z (unit * forward_of c h) (unit * lag n (held_of c h)) ∙ ap (fallen z) e

  -- so the count does not sink in-flight
  no_sink : (z : ℤ) → sinks z (unit * lag n h) ≡ false → sinks z (newly_of c h) ≡ false
  unfolding newly_of
  no_sink z e = sinks_less z (unit * forward_of c h) (unit * lag n h) (omega (arith, taken.paid)) e

lag_self : (n : ℕ) → lag n n ≡ 0
lag_self n = minus_self counts n (omega arith)

-- ---- a burst

-- a world of a burst whose newest is n: `rest` is what is left of in-flight once n is taken in
record Good (o : Others) (n : Ack) (evs next : ℕ) (rest : ℤ) (w : World) : Type 0 where
  holds : sound_among o (view_of w) ≡ true
  evs_is : w.state.settings.ev_count ≡ evs
  next_is : w.state.flow.next ≡ next
  near : lag n.count (held_in w) < half
  left : fallen (in_flight_in w) (unit * lag n.count (held_in w)) ≡ rest

-- after a member that came at the time t
record Went (o : Others) (n : Ack) (evs next : ℕ) (rest : ℤ) (before t : ℕ) (w : World) : Type 0 where
  good : Good o n evs next rest w
  nearer : lag n.count (held_in w) ≤ before
  clocked : w.state.clock ≤ t

timely_from : (ds : List Arrival) (c t : ℕ) → c ≤ t → Timely t ds → Timely c ds
timely_from [] c t le h = tt
timely_from (d ∷ ds) c t le h = (omega arith, h.1, h.2)

module _ (o : Others) (n : Ack) (evs next : ℕ) (rest : ℤ) (fields : bad_fields evs n ≡ false)
    (sent : unsent_or_old next n.cum n.map ≡ false) (afloat : lt_z rest in_flight_least ≡ false) where
  -- a member that is accepted
  module _ (w : World) (t : ℕ) (a : Ack) (g : Good o n evs next rest w) (close : lag n.count a.count < half)
      (rows : first_of (ack_all_rows t a w.state) ≡ 0) where
    took_a : Took n.count (held_in w) a.count
    took_a = taken n.count (held_in w) a.count g.near close

    held_is : held_in (step_of (ack t a) w) ≡ held_of a.count (held_in w)
    unfolding acknowledge_of
    held_is = ap (λ (l : Ledger). l.flow.held) (step_ledger o (ack t a) w g.holds rows)

    in_flight_is : in_flight_in (step_of (ack t a) w) ≡ fallen (in_flight_in w) (newly_of a.count (held_in w))
    unfolding acknowledge_of
    in_flight_is = ap (λ (l : Ledger). l.totals.in_flight) (step_ledger o (ack t a) w g.holds rows)

    next_same : (step_of (ack t a) w).state.flow.next ≡ w.state.flow.next
    unfolding acknowledge_of
    next_same = ap (λ (l : Ledger). l.flow.next) (step_ledger o (ack t a) w g.holds rows)

    member : Went o n evs next rest (lag n.count (held_in w)) t (step_of (ack t a) w)
    member =
        record {
          good =
              record {
                holds = step_sound o (ack t a) w g.holds rows;
                evs_is = ap (λ (x : Settings). x.ev_count) (step_settings (ack t a) w) ∙ g.evs_is;
                next_is = next_same ∙ g.next_is;
                near = rw held_is (omega (arith, took_a.less, g.near));
                left =
                    ap₂ (λ (z : ℤ) (h : ℕ). fallen z (unit * lag n.count h)) in_flight_is held_is
                    ∙ left_same n.count (held_in w) a.count g.near close (in_flight_in w)
                    ∙ g.left;
              };
          nearer = rw held_is took_a.less;
          clocked = omega (arith, step_clock (ack t a) w);
        }

    caught_up : lag n.count (held_in (step_of (ack t a) w)) ≤ lag n.count a.count
    caught_up = rw held_is took_a.caught

  -- any member
  went : (w : World) (t : ℕ) (a : Ack) → Good o n evs next rest w → lag n.count a.count < half → w.state.clock ≤ t
      → Went o n evs next rest (lag n.count (held_in w)) t (past_ack t a w).after
  went w t a g close h =
      past_cases (λ x. Went o n evs next rest (lag n.count (held_in w)) t x.after) (ack t a) w (member w t a g close)
      (λ k z. record { good = g; nearer = omega arith; clocked = h })

  -- the newest is never refused
  newest_fine : (w : World) (t : ℕ) → Good o n evs next rest w → w.state.clock ≤ t → t < time_end
      → Fine t n w.state.settings.ev_count w.state.clock (ledger_of w)
  unfolding sinks
  newest_fine w t g h k =
      record {
        later = h;
        early = k;
        fields = rw g.evs_is fields;
        sent = rw g.next_is sent;
        afloat = no_sink n.count (held_in w) n.count g.near (omega (arith, lag_self n.count)) (in_flight_in w)
            (rw g.left afloat);
      }

  abbrev Close : List Arrival → Type 0
  Close ds = (d : Arrival) → Memᴰ d ds → lag n.count d.ack.count < half

  -- a run of members
  goes : (ds : List Arrival) (w : World) → Good o n evs next rest w → Close ds → Timely w.state.clock ds
      → Good o n evs next rest (past_deliver w ds) × (lag n.count (held_in (past_deliver w ds)) ≤ lag n.count (held_in w))
  goes [] w g c h = (g, omega arith)
  goes (d ∷ ds) w g c h =
      let v = (past_ack d.time d.ack w).after in
      let s = went w d.time d.ack g (c d (Memᴰ.head refl)) h.0 in
      let r = goes ds v s.good (λ e m. c e (Memᴰ.tail m)) (timely_from ds v.state.clock d.time s.clocked h.2) in
      (r.0, omega (arith, r.1, s.nearer))

  -- a run in which the newest is: its count is held in the end, and what it covers was covered
  abbrev Ends : World → List Arrival → Type 0
  Ends w ds = (lag n.count (held_in (past_deliver w ds)) ≤ 0) × ((p : ℕ) → covers_psn n p ≡ true → past_covered w ds p ≡ true)

  ends : (ds : List Arrival) (w : World) → Good o n evs next rest w → Close ds → Timely w.state.clock ds → Arrives n ds → Ends w ds
  ends [] w g c h x = absurd (Memᴰ.not-nil x.1)
  ends (d ∷ ds) w g c h x = ⊎_elim first (λ m. later (ends ds v s.good c' h' (x.0, m, x.2))) (Memᴰ.cases_cons x.1)
    where
      v : World
      v = (past_ack d.time d.ack w).after

      s : Went o n evs next rest (lag n.count (held_in w)) d.time v
      s = went w d.time d.ack g (c d (Memᴰ.head refl)) h.0

      c' : Close ds
      c' e m = c e (Memᴰ.tail m)

      h' : Timely v.state.clock ds
      h' = timely_from ds v.state.clock d.time s.clocked h.2

      first : x.0 ≡ d → Ends w (d ∷ ds)
      first q =
          let is-n : d.ack ≡ n = ap (λ (y : Arrival). y.ack) (sym q) ∙ x.2 in
          let fine = newest_fine w d.time g h.0 h.1 in
          let e : past_ack d.time d.ack w ≡ record { number = 0; after = step_of (ack d.time n) w } =
          ap (λ (a : Ack). past_ack d.time a w) is-n ∙ fine_accepted d.time n w fine in
          let z : lag n.count (held_in v) ≤ 0 =
          rw (ap (λ (y : Answered). y.after) e)
          (omega (
            arith,
            caught_up w d.time n g (omega (arith, lag_self n.count)) (fine_rows d.time n w fine),
            lag_self
                n.count,
          )) in
          (omega (arith, (goes ds v s.good c' h').1), λ p k. rw (ap (λ (y : Answered). y.number) e, is-n, k))

      later : Ends v ds → Ends w (d ∷ ds)
      later r = (r.0, λ p k. rw (r.1 p k) (or-true (eqb (past_ack d.time d.ack w).number 0 && covers_psn d.ack p)))

-- ---- what is covered

-- what an accepted member covers, the newest covers
covered_too : (n : Ack) (others : List Ack) (p : ℕ) → ((a : Ack) → Memᴰ a others → covers_psn a p ≡ true → covers_psn n p ≡ true)
    → (ds : List Arrival) (w : World) → Of n others ds → past_covered w ds p ≡ true → covers_psn n p ≡ true
covered_too n others p sub [] w of e = absurd (false≢true e)
covered_too n others p sub (d ∷ ds) w of e =
    go (eqb (past_ack d.time d.ack w).number 0) (covers_psn d.ack p) refl
    (covered_too n others p sub ds v (λ y m. of y (Memᴰ.tail m))) e
  where
    v : World
    v = (past_ack d.time d.ack w).after

    hit : covers_psn d.ack p ≡ true → covers_psn n p ≡ true
    hit k = ⊎_elim (λ q. rw (← q) k) (λ m. sub d.ack m k) (of d (Memᴰ.head refl))

    go : (b k : Bool) → covers_psn d.ack p ≡ k → (past_covered v ds p ≡ true → covers_psn n p ≡ true)
        → ((b && k) || past_covered v ds p) ≡ true → covers_psn n p ≡ true
    go true true q ih h = hit q
    go true false q ih h = ih h
    go false k q ih h = ih h

bool_same : (a b : Bool) → (a ≡ true → b ≡ true) → (b ≡ true → a ≡ true) → a ≡ b
bool_same true b f g = sym (f refl)
bool_same false true f g = g refl
bool_same false false f g = refl

-- ---- the theorem

module _ (o : Others) (w : World) (holds : sound_among o (view_of w) ≡ true) (at : ℕ) (n : Ack) (others : List Ack)
    (nw : NewestPast w at n others) where
  fine : Fine at n w.state.settings.ev_count w.state.clock (ledger_of w)
  fine = accepted_fine at n w nw.accepted

  rest : ℤ
  rest = fallen (in_flight_in w) (unit * lag n.count (held_in w))

  start : Good o n w.state.settings.ev_count w.state.flow.next rest w
  unfolding rest
  start = record { holds = holds; evs_is = refl; next_is = refl; near = nw.not_behind; left = refl }

  rest_afloat : lt_z rest in_flight_least ≡ false
  unfolding rest newly_of sinks
  rest_afloat =
      let k = lag_self n.count in
      let e : forward_of n.count (held_in w) ≡ lag n.count (held_in w) =
      omega (arith, took n.count (held_in w) n.count nw.not_behind (omega arith) (omega arith)) in
      rw e at fine.afloat

  -- every run in which the newest is leaves this ledger
  leaves : (ds : List Arrival) → Of n others ds → Arrives n ds → Timely w.state.clock ds
      → ledger_of (past_deliver w ds) ≡ settled_by (covers_psn n) n.count rest (ledger_of w)
  leaves ds of ar tm =
      deliver_settles o ds w holds
      ∙ ap₂ (λ (h : ℕ) (z : ℤ). settled_by (past_covered w ds) h z (ledger_of w)) held_n in_flight_n
      ∙ settled_same w.state.settings.mtu w.state.clock (ledger_of w) (ledger_facts o w holds) (past_covered w ds) (covers_psn n)
      agree n.count rest
    where
      close : (d : Arrival) → Memᴰ d ds → lag n.count d.ack.count < half
      close d m = ⊎_elim (λ q. rw q (omega (arith, lag_self n.count))) (λ k. nw.others_behind d.ack k) (of d m)

      evs : ℕ
      evs = w.state.settings.ev_count

      next : ℕ
      next = w.state.flow.next

      g : Good o n evs next rest (past_deliver w ds)
      g = (goes o n evs next rest fine.fields fine.sent rest_afloat ds w start close tm).0

      e : Ends o n evs next rest fine.fields fine.sent rest_afloat w ds
      e = ends o n evs next rest fine.fields fine.sent rest_afloat ds w start close tm ar

      none_left : lag n.count (held_in (past_deliver w ds)) ≡ 0
      none_left = omega (arith, e.0)

      held_n : held_in (past_deliver w ds) ≡ n.count
      held_n = minus_none counts n.count (held_in (past_deliver w ds)) (fields_count evs n fine.fields)
          (ledger_facts o (past_deliver w ds) g.holds).held none_left

      in_flight_n : in_flight_in (past_deliver w ds) ≡ rest
      in_flight_n = sym (fall_none (in_flight_in (past_deliver w ds))) ∙ (rw none_left at g.left)

      agree : cover_all (past_covered w ds) w.state.flow.low (packets w.state.flow (ring_of w))
          ≡ cover_all (covers_psn n) w.state.flow.low (packets w.state.flow (ring_of w))
      agree =
          cover_agree (past_covered w ds) (covers_psn n) w.state.flow.low (packets w.state.flow (ring_of w))
          (ledger_facts o w holds).low_psn
          (λ k hk out.
          bool_same (past_covered w ds (psn_of w k)) (covers_psn n (psn_of w k))
          (covered_too n others (psn_of w k)
          (λ a m. nw.covers_too a m k (record { within = omega (arith, packets_long w.state.flow (ring_of w)); out = out })) ds w of)
          (e.1 (psn_of w k)))

pub burst_among : BurstAmong
burst_among o w at n others ds h nw of ar tm =
    let f = fine o w h at n others nw in
    let single : Arrival = record { time = at; ack = n } in
    leaves o w h at n others nw ds of ar tm
    ∙ sym (leaves o w h at n others nw (single ∷ [])
    (λ d m. inl (ap (λ (y : Arrival). y.ack) (Memᴰ.eq_of_singleton m)))
    (single, Memᴰ.head refl, refl)
    (f.later, f.early, tt))

-- a flow by itself: the newest is accepted, so the start is sound
pub burst : Burst
burst w at n others ds nw of ar tm =
    let h = (accepted (ack at n) w nw.accepted).sound_so in
    let same = past_answer_lem (ack at n) w h in
    ap ledger_of (sym (past_deliver_lem ds w h))
    ∙ burst_among alone w at n others ds h
    (record {
      accepted = ap (λ (x : Answered). x.number) same ∙ nw.accepted;
      not_behind = nw.not_behind;
      others_behind = nw.others_behind;
      covers_too = nw.covers_too;
    })
    of ar tm
    ∙ ap (λ (x : Answered). ledger_of x.after) same
