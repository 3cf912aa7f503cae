-- What the steps rely on: what holds of an event that no row refuses, and what its ledger's step leaves to the window's
-- rules and to the state's name.
-- Assumes nothing.
use mathlib.Core.Path.{◌≡◌, refl, ap, ◌∙◌}
use mathlib.Core.Bool.{Bool, true, false, ◌||◌}
use mathlib.Core.List.{List, [], ◌∷◌, ◌++◌}
use Prim.Native.Nat.{ℕ, ◌+◌, ◌≤◌, ◌<◌, ◌^◌}
use native.Mathlib.Omega.{arith}
use lib.Dec.{ltb, leb, eqb}
use lib.ListN.{length}
use lib.IntN.{ℤ, pos, negsuc, ◌+ℤ◌}
use lib.Signed.{le_z}
use mir.Syntax.{w64}
use mir.Val.{to_z, of_z}
use borrow.Author.Tests.{ltb-false, leb-false, leb-true, le-leb, not-false}
use Rattle.rules.specs.Branch.{if_so, if_eq, so_both, eq_both}
use Rattle.rules.specs.Rows.{Row, row, first_of, none_here}
use Rattle.rules.specs.Test.{inside_tells, neither}
use Rattle.serial.specs.Count.{counts}
use Rattle.window.specs.Range.{InRange}
use Rattle.window.specs.Sound.{SoundWindow}
use Rattle.window.specs.Delays.{sample_of, sampling_of, sample_in, Sampled}
use Rattle.window.specs.Quick.{above_zero}
use Rattle.window.specs.Events.{ack_of, nack_of, loss_of}
use Rattle.window.specs.declared.Settings.{Settings}
use Rattle.window.specs.declared.Window.{Window}
use Rattle.window.specs.Sample.{Sample}
use Rattle.window.specs.declared.Sampling.{Sampling}
use Rattle.window.proofs.Tests.{window_later, sample_bounds, same_sample}
use Rattle.window.proofs.Keeps.{cwnd_most}
use Rattle.window.proofs.MaxWnd.{max_wnd_high}
use Rattle.paths.specs.Path.{choice}
use Rattle.paths.specs.declared.Choice.{Choice}
use Rattle.paths.proofs.Chosen.{choice_inside}
use Rattle.ledger.specs.Packets.{is_flying, is_marked, is_out}
use Rattle.ledger.specs.Bounds.{size_least, backlog_most, Flown}
use Rattle.ledger.specs.Ring.{Ring, Ledger, cap_of, long_of, packet_of}
use Rattle.ledger.specs.Memory.{Memory, size_end, stored, Kept, kept, kept_of}
use Rattle.ledger.specs.Sound.{Others, sound_ledger}
use Rattle.ledger.specs.Rows.{send_rows, ack_rows, mark_rows}
use Rattle.ledger.specs.Steps.{supply_of, push_of, resend_of, mark_of, acknowledge_of, newly_of}
use Rattle.ledger.specs.declared.Flow.{Flow}
use Rattle.ledger.specs.declared.Totals.{Totals}
use Rattle.ledger.specs.declared.Packet.{Packet}
use Rattle.ledger.proofs.Facts.{sound_ledger_parts, sound_ledger_whole, stands_facts, stands_later, packet_live, packet_some}
use Rattle.ledger.proofs.Signs.{flown_wide, word}
use Rattle.ledger.proofs.Judging.{resend_facts, mark_facts}
use Rattle.ledger.proofs.Sends.{supply_keeps, new_room, push_keeps, resend_keeps, flies}
use Rattle.ledger.proofs.Marks.{mark_keeps}
use Rattle.ledger.proofs.Acked.{ack_keeps}
use Rattle.window.specs.Limits.{time_end}
use Rattle.sender.specs.World.{world, View, world_of, ledger_in}
use Rattle.sender.specs.Named.{has_room}
use Rattle.sender.specs.Rows.{time_row, new_data_rows, send_all_rows, ack_all_rows, nack_all_rows, loss_all_rows}
use Rattle.sender.specs.Steps.{state_of, settled, avoided_in, ack_sample, ack_sampling, ack_step, nack_sample, nack_sampling, nack_step}
use Rattle.sender.specs.Steps.{loss_step}
use Rattle.sender.specs.declared.Controller.{Controller}
use Rattle.sender.specs.declared.Send.{Send}
use Rattle.sender.specs.declared.Ack.{Ack}
use Rattle.sender.specs.declared.Nack.{Nack}
use Rattle.sender.specs.declared.Loss.{Loss}
use Rattle.sender.proofs.Sounds.{SoundFacts}
use Rattle.sender.proofs.Rowing.{first_append, send_numbered}

-- ---- what holds where no row refuses

-- row 3: the time is not before the clock, and below 2^48
pub record Timely (time : ℕ) (c : Controller) : Type 0 where
  pub later : c.clock ≤ time
  pub early : time < time_end

pub time_facts : (time : ℕ) (c : Controller) (rows : List Row) → first_of (time_row time c ∷ rows) ≡ 0 → Timely time c × (first_of rows ≡ 0)
time_facts time c rows e =
    let a = none_here 3 _ rows (omega arith) e in
    let n = neither (ltb time c.clock) (leb time_end time) a.0 in
    (record { later = ltb-false time c.clock n.0; early = leb-false time_end time n.1 }, a.1)

pub new_data_facts : (time bytes : ℕ) (c : Controller) → first_of (new_data_rows time bytes c) ≡ 0
    → Timely time c × (c.flow.backlog + bytes ≤ backlog_most)
new_data_facts time bytes c e =
    let a = time_facts time c _ e in
    let b = none_here 20 _ [] (omega arith) a.1 in
    let n = neither (eqb bytes 0) (ltb backlog_most (c.flow.backlog + bytes)) b.0 in
    (a.0, ltb-false backlog_most (c.flow.backlog + bytes) n.1)

pub record Sendable (time : ℕ) (a : Send) (c : Controller) (r : Ring) : Type 0 where
  pub timely : Timely time c
  pub least : size_least ≤ a.size
  pub most : a.size ≤ c.settings.mtu
  pub rows : first_of (send_rows c.flow r a.psn a.size a.resend) ≡ 0
  pub room : has_room c.settings.mtu c.window.cwnd c.totals.in_flight ≡ true

-- the ledger's rows, and row 6 behind them
send_rows_lem : (f : Flow) (r : Ring) (psn size : ℕ) (resend t : Bool) → first_of (send_rows f r psn size resend ++ (row t 6 ∷ [])) ≡ 0
    → (first_of (send_rows f r psn size resend) ≡ 0) × (t ≡ false)
send_rows_lem f r psn size resend t e =
    let d = split (first_of (send_rows f r psn size resend)) (first_of (row t 6 ∷ []))
    (first_append _ _ (send_numbered f r psn size resend) ∙ e) in
    (d.0, (none_here 6 t [] (omega arith) d.1).0)
  where
    split : (n m : ℕ) → if_eq n 0 m n ≡ 0 → (n ≡ 0) × (m ≡ 0)
    split n m = eq_both (λ (k : ℕ). k ≡ 0 → (n ≡ 0) × (m ≡ 0)) n 0 m n (λ z e. (z, e)) (λ z e. absurd (z e))

pub send_facts : (time : ℕ) (a : Send) (c : Controller) (r : Ring) → first_of (send_all_rows time a c r) ≡ 0 → Sendable time a c r
send_facts time a c r e =
    let t = time_facts time c _ e in
    let b = none_here 4 _ _ (omega arith) t.1 in
    let s = inside_tells size_least a.size c.settings.mtu (not-false _ b.0) in
    let d = send_rows_lem c.flow r a.psn a.size a.resend _ b.1 in
    record { timely = t.0; least = s.0; most = s.1; rows = d.0; room = not-false _ d.1 }

pub record Ackable (time : ℕ) (a : Ack) (c : Controller) : Type 0 where
  pub timely : Timely time c
  pub count_ok : a.count < counts
  pub ev_ok : a.ev < c.settings.ev_count
  pub rows : first_of (ack_rows c.flow c.totals.in_flight a.cum a.map a.count) ≡ 0

pub ack_facts : (time : ℕ) (a : Ack) (c : Controller) → first_of (ack_all_rows time a c) ≡ 0 → Ackable time a c
ack_facts time a c e =
    let t = time_facts time c _ e in
    let k = none_here 21 _ _ (omega arith) t.1 in
    let v = none_here 23 _ _ (omega arith) k.1 in
    let g = none_here 24 _ _ (omega arith) v.1 in
    record {
      timely = t.0;
      count_ok = leb-false counts a.count k.0;
      ev_ok = leb-false c.settings.ev_count a.ev v.0;
      rows = g.1;
    }

-- a NACK or a loss
pub record Markable (time psn ev : ℕ) (c : Controller) (r : Ring) : Type 0 where
  pub timely : Timely time c
  pub ev_ok : ev < c.settings.ev_count
  pub rows : first_of (mark_rows c.flow c.totals.in_flight r psn) ≡ 0

pub nack_facts : (time : ℕ) (a : Nack) (c : Controller) (r : Ring) → first_of (nack_all_rows time a c r) ≡ 0
    → Markable time a.psn a.ev c r
nack_facts time a c r e =
    let t = time_facts time c _ e in
    let k = none_here 22 _ _ (omega arith) t.1 in
    let v = none_here 23 _ _ (omega arith) k.1 in
    record { timely = t.0; ev_ok = leb-false c.settings.ev_count a.ev v.0; rows = v.1 }

pub loss_facts : (time : ℕ) (a : Loss) (c : Controller) (r : Ring) → first_of (loss_all_rows time a c r) ≡ 0
    → Markable time a.psn a.ev c r
loss_facts time a c r e =
    let t = time_facts time c _ e in
    let v = none_here 23 _ _ (omega arith) t.1 in
    record { timely = t.0; ev_ok = leb-false c.settings.ev_count a.ev v.0; rows = v.1 }

-- ---- after the ledger's step: what the window's rules and the state's name ask

pub record Ready (o : Others) (s : Settings) (time : ℕ) (v : Window) (l : Ledger) : Type 0 where
  pub range : InRange s
  pub sound_window_lem : SoundWindow s time v
  pub early : time < time_end
  pub sound_ledger_lem : sound_ledger s.mtu s.maxwnd time o l ≡ true
  pub flown : Flown s.maxwnd l.totals.in_flight

-- what is kept of a ledger, part by part
module _ {f : Flow} {t : Totals} {m : Memory} (l : Ledger) (e : kept f t m ≡ kept_of l) where
  pub kept_flow : f ≡ l.flow
  unfolding kept_of
  kept_flow = ap (λ (k : Kept). k.flow) e

  pub kept_totals : t ≡ l.totals
  unfolding kept_of
  kept_totals = ap (λ (k : Kept). k.totals) e

  pub kept_slots : m ≡ stored l.slots
  unfolding kept_of
  kept_slots = ap (λ (k : Kept). k.slots) e

-- of what the code keeps of that ledger
module _ {o : Others} {s : Settings} {time : ℕ} {v : Window} {l : Ledger} (R : Ready o s time v l) {f : Flow} {t : Totals} {m : Memory}
    (e : kept f t m ≡ kept_of l) where
  -- in-flight fits the machine's signed word
  pub ready_flown : Flown (2 ^ 26) t.in_flight
  ready_flown =
      rw (kept_totals l e) (flown_wide l.totals.in_flight (omega (arith, R.range)) R.flown)

  pub ready_word : to_z w64 (of_z w64 t.in_flight) ≡ t.in_flight
  ready_word = word t.in_flight ready_flown

  pub ready_above : above_zero (to_z w64 (of_z w64 t.in_flight)) ≤ s.maxwnd
  ready_above = rw (ready_word, kept_totals l e) R.flown.high

  pub state_asks : {u : Window} → SoundWindow s time u → Flown (2 ^ 26) t.in_flight × ((s.mtu ≤ 2 ^ 14) × (u.cwnd ≤ 2 ^ 26))
  state_asks H = (ready_flown, (omega (arith, R.range), cwnd_most R.range H))

-- what is at most m is at most n
under : (z : ℤ) (m n : ℕ) → le_z z (pos m) ≡ true → m ≤ n → le_z z (pos n) ≡ true
under (pos a) m n e l = le-leb a n (omega (arith, leb-true a m e))
under (negsuc a) m n e l = refl

module _ {o : Others} {v : View} (S : SoundFacts o v) where
  ready_of : {time : ℕ} (l : Ledger) → Timely time v.state
      → sound_ledger v.state.settings.mtu v.state.settings.maxwnd time o l ≡ true
      → Ready o v.state.settings time v.state.window l
  ready_of {time} l t co =
      let s = v.state.settings in
      let p = sound_ledger_parts s.mtu s.maxwnd time o l co in
      record {
        range = S.range;
        sound_window_lem = window_later S.sound_window_lem t.later;
        early = t.early;
        sound_ledger_lem = co;
        flown = p.1.flown;
      }

  -- "in-flight + MTU is at most cwnd", which is at most MaxWnd
  room_under : has_room v.state.settings.mtu v.state.window.cwnd v.state.totals.in_flight ≡ true
      → le_z (v.state.totals.in_flight +ℤ pos v.state.settings.mtu) (pos v.state.settings.maxwnd) ≡ true
  unfolding has_room
  room_under e =
      under (v.state.totals.in_flight +ℤ pos v.state.settings.mtu) v.state.window.cwnd v.state.settings.maxwnd e
      (omega (arith, S.sound_window_lem.cwnd_high, max_wnd_high S.range v.state.window.base S.sound_window_lem.base_high))

  -- the EV and the base of an event that changes an EV's time
  pub avoid_asks : {time ev : ℕ} → Timely time v.state → ev < v.state.settings.ev_count
      → (ev < length v.times) × (time < 2 ^ 48) × (v.state.window.base ≤ 2 ^ 14)
  avoid_asks t h = (omega (arith, S.times_long), t.early, omega (arith, S.sound_window_lem.base_high, S.range.rtt_high))

  -- new data
  pub supply_ready : {time : ℕ} (bytes : ℕ) → Timely time v.state → v.state.flow.backlog + bytes ≤ backlog_most
      → Ready o v.state.settings time v.state.window (supply_of bytes (ledger_in v))
  supply_ready {time} bytes t h = ready_of _ t (supply_keeps _ _ _ time bytes o (ledger_in v) S.sound_ledger_lem t.later h)

  -- a path choice
  pub path_ready : {time : ℕ} → Timely time v.state → Ready o v.state.settings time v.state.window (ledger_in v)
  path_ready {time} t =
      let s = v.state.settings in
      let p = sound_ledger_parts s.mtu s.maxwnd v.state.clock o (ledger_in v) S.sound_ledger_lem in
      ready_of (ledger_in v) t
      (sound_ledger_whole s.mtu s.maxwnd time o (ledger_in v) (stands_later s.mtu v.state.clock time _ _ p.0 t.later)
      p.1)

  -- a send
  module _ {time : ℕ} {a : Send} (A : Sendable time a v.state v.slots) where
    pub push_asks : a.resend ≡ false
        → ((a.size ≤ v.state.flow.backlog) × (a.size < size_end)) × (long_of v.state.flow < cap_of v.slots)
    push_asks e =
        let c = v.state in
        let p =
        new_room c.settings.mtu c.clock c.flow v.slots
        (stands_facts _ _ _ _ (sound_ledger_parts _ _ _ o (ledger_in v) S.sound_ledger_lem).0) a.psn a.size (rw e at A.rows) in
        ((p.0, omega (arith, A.most, S.range.mtu_high)), p.1)

    pub resend_asks : a.resend ≡ true → is_marked (packet_of v.state.flow v.slots a.psn) ≡ true
    resend_asks e = (resend_facts v.state.flow v.slots a.psn a.size (rw e at A.rows)).0

    pub send_ready : Ready o v.state.settings time v.state.window
        (if_so a.resend (resend_of time a.psn (ledger_in v)) (push_of time a.size (ledger_in v)))
    send_ready =
        let s = v.state.settings in
        let under = room_under A.room in
        ready_of _ A.timely
        (so_both (λ (l : Ledger). sound_ledger s.mtu s.maxwnd time o l ≡ true) a.resend _ _
        (λ e. resend_keeps s.mtu s.maxwnd v.state.clock time a.psn a.size o (ledger_in v) S.sound_ledger_lem
        (rw e at A.rows) A.timely.later under)
        (λ e.
        push_keeps s.mtu s.maxwnd v.state.clock time a.psn a.size o (ledger_in v) S.sound_ledger_lem (rw e at A.rows)
        A.timely.later
        A.least A.most under))

  -- an ACK
  pub ack_ready : {time : ℕ} {a : Ack} → Ackable time a v.state
      → Ready o v.state.settings time v.state.window (acknowledge_of a.cum a.map a.count (ledger_in v))
  ack_ready {time} {a} A =
      let s = v.state.settings in
      ready_of _ A.timely
      (ack_keeps a.cum a.map a.count s.mtu s.maxwnd v.state.clock time o (ledger_in v) S.sound_ledger_lem A.count_ok
      A.rows
      A.timely.later)

  -- a NACK or a loss
  module _ {time psn ev : ℕ} (A : Markable time psn ev v.state v.slots) where
    pub mark_flies : is_flying (packet_of v.state.flow v.slots psn) ≡ true
    mark_flies = (mark_facts v.state.flow v.state.totals.in_flight v.slots psn A.rows).0

    pub mark_size : (packet_of v.state.flow v.slots psn).size ≤ v.state.settings.mtu
    mark_size =
        let c = v.state in
        let F = stands_facts c.settings.mtu c.clock c.flow v.slots
        (sound_ledger_parts _ _ _ o (ledger_in v) S.sound_ledger_lem).0 in
        let h = packet_some c.flow v.slots psn (omega (arith, flies (packet_of c.flow v.slots psn) mark_flies)) in
        (packet_live c.settings.mtu c.clock c.flow v.slots F psn h).size_most

    pub marked_ready : Ready o v.state.settings time v.state.window (mark_of psn (ledger_in v))
    marked_ready =
        let s = v.state.settings in
        ready_of _ A.timely
        (mark_keeps s.mtu s.maxwnd v.state.clock time psn o (ledger_in v) S.sound_ledger_lem A.rows A.timely.later)

-- ---- what the code leaves is the definition's world

pub settles : (time : ℕ) (c : Controller) (l : Ledger) {v u : Window} {times evs : List ℕ} {d : Controller} {f : Flow} {t : Totals}
    {m : Memory}
    → kept f t m ≡ kept_of l → u ≡ v → evs ≡ times → d ≡ state_of c.settings f t u time c.cursor
    → world d m evs ≡ world_of (settled time c l v times)
unfolding settled
settles time c l e ev et ed = rw (← kept_flow l e, ← kept_totals l e, ← kept_slots l e, ← ev, ← et, ed)

-- the window and the EV times of each event are the definition's, from what the calls before them gave
module _ (time : ℕ) (v : View) {x : Packet} {z : ℤ} {u : Window} {evs : List ℕ} {d : Controller} {f : Flow} {t : Totals} {m : Memory}
    (ez : z ≡ t.in_flight) (ed : d ≡ state_of v.state.settings f t u time v.state.cursor) where
  pub ack_is : (a : Ack) {newly : ℕ} {p : Sample} → newly ≡ newly_of a.count v.state.flow.held
      → x ≡ packet_of v.state.flow v.slots a.trigger
      → p ≡ sample_of (is_out x) x.resent a.retx time x.sent a.service
      → kept f t m ≡ kept_of (acknowledge_of a.cum a.map a.count (ledger_in v))
      → u ≡ ack_of v.state.settings time newly a.marked p z v.state.window
      → evs ≡ avoided_in a.marked a.ev time v.state.window.base v.times
      → world d m evs ≡ world_of (ack_step time a v)
  unfolding ack_step ack_sample
  ack_is a en ex ep el eu ee =
      let c = v.state in
      settles time c _ el
      (rw (eu, en, ep, ex, ez)
      (ap
      (λ (t : Totals). ack_of c.settings time (newly_of a.count c.flow.held) a.marked (ack_sample time a v)
      t.in_flight c.window)
      (kept_totals _ el)))
      ee ed

  pub nack_is : (a : Nack) {p : Sample} → x ≡ packet_of v.state.flow v.slots a.psn
      → p ≡ sample_of (is_out x) x.resent a.retx time x.sent 0
      → kept f t m ≡ kept_of (mark_of a.psn (ledger_in v))
      → u ≡ nack_of v.state.settings time x.size a.reason p z v.state.window
      → evs ≡ avoided_in (a.marked || eqb a.reason 0) a.ev time v.state.window.base v.times
      → world d m evs ≡ world_of (nack_step time a v)
  unfolding nack_step nack_sample
  nack_is a ex ep el eu ee =
      let c = v.state in
      settles time c _ el
      (rw (eu, ep, ex, ez)
      (ap
      (λ (t : Totals).
      nack_of c.settings time (packet_of c.flow v.slots a.psn).size a.reason (nack_sample time a v)
      t.in_flight c.window)
      (kept_totals _ el)))
      ee ed

  pub loss_is : (a : Loss) → x ≡ packet_of v.state.flow v.slots a.psn
      → kept f t m ≡ kept_of (mark_of a.psn (ledger_in v))
      → u ≡ loss_of v.state.settings time x.size z v.state.window
      → evs ≡ avoided_in true a.ev time v.state.window.base v.times
      → world d m evs ≡ world_of (loss_step time a v)
  unfolding loss_step
  loss_is a ex el eu ee =
      let c = v.state in
      settles time c _ el
      (rw (eu, ex, ez)
      (ap (λ (t : Totals). loss_of c.settings time (packet_of c.flow v.slots a.psn).size t.in_flight
      c.window) (kept_totals _ el)))
      ee ed

-- what the step says is the definition's
module _ (time : ℕ) (v : View) {x : Packet} {q : Sampling} where
  pub ack_says_lem : (a : Ack) → x ≡ packet_of v.state.flow v.slots a.trigger
      → q ≡ sampling_of (is_out x) x.resent a.retx time x.sent a.service → q ≡ ack_sampling time a v
  unfolding ack_sampling
  ack_says_lem a ex e = rw (e, ex)

  pub nack_says_lem : (a : Nack) → x ≡ packet_of v.state.flow v.slots a.psn
      → q ≡ sampling_of (is_out x) x.resent a.retx time x.sent 0 → q ≡ nack_sampling time a v
  unfolding nack_sampling
  nack_says_lem a ex e = rw (e, ex)

-- a sample that the code read: what the step says, and what the window's rules use of it
module _ (out : Bool) (resent : ℕ) (retx : Bool) (time sent service : ℕ) {p : Sample} {q : Sampling}
    (ep : p ≡ sample_in q) (eq : q ≡ sampling_of out resent retx time sent service) where
  pub sample_at : p ≡ sample_of out resent retx time sent service
  sample_at = ep ∙ ap sample_in eq ∙ same_sample out resent retx time sent service

  pub sampled_at : Sampled p
  sampled_at = rw sample_at (sample_bounds out resent retx time sent service)

-- ---- a path choice stays among the EVs

pub taken_inside : (time cursor : ℕ) (evs : List ℕ) {n : ℕ} {x : Choice} → x ≡ choice time cursor evs → length evs ≡ n → cursor < n
    → (x.ev < n) × (x.cursor < n)
taken_inside time cursor evs e long at =
    let i = choice_inside time cursor evs (omega arith) in
    rw e (omega (arith, i.ev_inside), omega (arith, i.cursor_inside))
