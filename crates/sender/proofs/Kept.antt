-- Each event keeps state and buffers together: a sound view, stepped by an event that no row refuses, is sound (..-kept), and so what an
-- event leaves of a sound world is sound whatever it answers (..-lasts). From what the ledger's step and the window's rules keep (Stepping)
-- and what makes a world sound (Sounds).
-- Assumes nothing.
use mathlib.Core.Path.{◌≡◌, refl, sym, ap, ◌∙◌}
use mathlib.Core.Bool.{Bool, true, ◌||◌}
use mathlib.Core.List.{List}
use Prim.Native.Nat.{ℕ}
use native.Mathlib.Omega.{arith}
use lib.Dec.{eqb}
use Rattle.rules.specs.Branch.{if_eq, eq_both}
use Rattle.rules.specs.Rows.{Row, first_of}
use Rattle.window.specs.Sound.{SoundWindow}
use Rattle.window.specs.declared.Window.{Window}
use Rattle.window.proofs.Tests.{sample_bounds}
use Rattle.window.proofs.Keeps.{sound_ack, sound_nack, sound_loss}
use Rattle.ledger.specs.Packets.{is_out}
use Rattle.ledger.specs.Ring.{Ledger, packet_of}
use Rattle.ledger.specs.Sound.{Others, alone}
use Rattle.ledger.specs.Steps.{supplied, supplied_totals, newly_of}
use Rattle.sender.specs.World.{World, View, Answered, Routing, view_of, world_of}
use Rattle.sender.specs.Sound.{sound_among, sound}
use Rattle.sender.specs.Rows.{new_data_rows, send_all_rows, ack_all_rows, nack_all_rows, loss_all_rows, path_rows}
use Rattle.sender.specs.Steps.{settled, avoided_in, new_data_state, new_data_step, send_step, ack_sample, ack_step, nack_sample, nack_step}
use Rattle.sender.specs.Steps.{loss_step, route_of, path_state, path_step}
use Rattle.sender.specs.Events.{decided, on_new_data, on_send, on_ack, on_nack, on_loss, on_path}
use Rattle.sender.specs.Events.{past_new_data, past_send, past_ack, past_nack, past_loss, past_path}
use Rattle.sender.specs.declared.Send.{Send}
use Rattle.sender.specs.declared.Ack.{Ack}
use Rattle.sender.specs.declared.Nack.{Nack}
use Rattle.sender.specs.declared.Loss.{Loss}
use Rattle.sender.proofs.Sounds.{SoundFacts, among_facts, stated_sound, settled_sound, avoided_long, avoided_ok}
use Rattle.sender.proofs.Views.{world_sound}
use Rattle.sender.proofs.Rowing.{past_new_data_lem, past_send_lem, past_ack_lem, past_nack_lem, past_loss_lem, past_path_lem}
use Rattle.sender.proofs.Stepping.{Ready, time_facts, new_data_facts, send_facts, ack_facts, nack_facts, loss_facts, supply_ready}
use Rattle.sender.proofs.Stepping.{send_ready, ack_ready, marked_ready, path_ready, taken_inside}

-- after a ledger's step and the window's rules, with one EV's time changed or none
kept_of : {o : Others} {v : View} (S : SoundFacts o v) {time : ℕ} {l : Ledger}
    (R : Ready o v.state.settings time v.state.window l) {u : Window}
    → SoundWindow v.state.settings time u → (on : Bool) (ev : ℕ)
    → sound_among o (settled time v.state l u (avoided_in on ev time v.state.window.base v.times)) ≡ true
kept_of {o} {v} S {time} {l} R {u} H on ev =
    settled_sound _ time v.state l u (avoided_in on ev time v.state.window.base v.times) R.range H R.sound_ledger_lem R.early
    (omega (arith, avoided_long on ev time v.state.window.base v.times, S.times_long))
    (avoided_ok on ev time v.state.window.base v.times R.early
    (omega (arith, S.sound_window_lem.base_high, S.range.rtt_high)) S.times_ok_lem)
    S.cursor_ok

pub new_data_kept : (o : Others) (time bytes : ℕ) (v : View) → sound_among o v ≡ true → first_of (new_data_rows time bytes v.state) ≡ 0
    → sound_among o (new_data_step time bytes v) ≡ true
unfolding new_data_step new_data_state
new_data_kept o time bytes v e rows =
    let c = v.state in
    let S = among_facts o v e in
    let N = new_data_facts time bytes c rows in
    let R = supply_ready S bytes N.0 N.1 in
    stated_sound _ c.settings (supplied bytes c.flow) (supplied_totals bytes c.totals) c.window time c.cursor v.slots
    v.times
    R.range R.sound_window_lem R.sound_ledger_lem R.early S.times_long S.times_ok_lem S.cursor_ok

pub send_kept : (o : Others) (time : ℕ) (a : Send) (v : View) → sound_among o v ≡ true
    → first_of (send_all_rows time a v.state v.slots) ≡ 0
    → sound_among o (send_step time a v) ≡ true
unfolding send_step
send_kept o time a v e rows =
    let S = among_facts o v e in
    let R = send_ready S (send_facts time a v.state v.slots rows) in
    settled_sound _ time v.state _ v.state.window v.times R.range R.sound_window_lem R.sound_ledger_lem R.early
    S.times_long S.times_ok_lem S.cursor_ok

pub ack_kept : (o : Others) (time : ℕ) (a : Ack) (v : View) → sound_among o v ≡ true → first_of (ack_all_rows time a v.state) ≡ 0
    → sound_among o (ack_step time a v) ≡ true
unfolding ack_step ack_sample
ack_kept o time a v e rows =
    let c = v.state in
    let S = among_facts o v e in
    let R = ack_ready S (ack_facts time a c rows) in
    let x = packet_of c.flow v.slots a.trigger in
    kept_of S R
    (sound_ack R.range _ R.early R.flown.high (newly_of a.count c.flow.held) a.marked
    (sample_bounds (is_out x) x.resent a.retx time x.sent a.service) R.sound_window_lem)
    a.marked a.ev

pub nack_kept : (o : Others) (time : ℕ) (a : Nack) (v : View) → sound_among o v ≡ true
    → first_of (nack_all_rows time a v.state v.slots) ≡ 0
    → sound_among o (nack_step time a v) ≡ true
unfolding nack_step nack_sample
nack_kept o time a v e rows =
    let c = v.state in
    let S = among_facts o v e in
    let R = marked_ready S (nack_facts time a c v.slots rows) in
    let x = packet_of c.flow v.slots a.psn in
    kept_of S R
    (sound_nack R.range _ R.early R.flown.high x.size a.reason
    (sample_bounds (is_out x) x.resent a.retx time x.sent 0) R.sound_window_lem)
    (a.marked || eqb a.reason 0) a.ev

pub loss_kept : (o : Others) (time : ℕ) (a : Loss) (v : View) → sound_among o v ≡ true
    → first_of (loss_all_rows time a v.state v.slots) ≡ 0
    → sound_among o (loss_step time a v) ≡ true
unfolding loss_step
loss_kept o time a v e rows =
    let c = v.state in
    let S = among_facts o v e in
    let R = marked_ready S (loss_facts time a c v.slots rows) in
    kept_of S R (sound_loss R.range _ R.early R.flown.high (packet_of c.flow v.slots a.psn).size R.sound_window_lem)
    true a.ev

pub path_kept : (o : Others) (time : ℕ) (v : View) → sound_among o v ≡ true → first_of (path_rows time v.state) ≡ 0
    → sound_among o (path_step time v) ≡ true
unfolding path_step path_state
path_kept o time v e rows =
    let c = v.state in
    let S = among_facts o v e in
    let R = path_ready S (time_facts time c _ rows).0 in
    stated_sound _ c.settings c.flow c.totals c.window time (route_of time v).cursor v.slots v.times
    R.range R.sound_window_lem R.sound_ledger_lem R.early S.times_long S.times_ok_lem
    (taken_inside time c.cursor v.times {x = route_of time v} refl S.times_long S.cursor_ok).1

-- ---- whatever is answered

-- of two answers by the rows' number, the one leaves a sound world where no row refuses, the other the world as it was
lasts : {A : Type 0} (o : Others) (leaves : A → World) (w : World) (xs : List Row) (done refused : A) → sound_among o (view_of w) ≡ true
    → (first_of xs ≡ 0 → sound_among o (view_of (leaves done)) ≡ true)
    → leaves refused ≡ w → sound_among o (view_of (leaves (if_eq (first_of xs) 0 done refused))) ≡ true
lasts {A} o leaves w xs done refused e kept same =
    eq_both (λ (a : A). sound_among o (view_of (leaves a)) ≡ true) (first_of xs) 0 done refused kept
    (λ z. ap (λ (x : World). sound_among o (view_of x)) same ∙ e)

decided_lasts : (o : Others) (w : World) (after : View) (xs : List Row) → sound_among o (view_of w) ≡ true
    → (first_of xs ≡ 0 → sound_among o after ≡ true) → sound_among o (view_of (decided (first_of xs) w (world_of after)).after) ≡ true
unfolding decided
decided_lasts o w after xs e kept = lasts o (λ (a : Answered). a.after) w xs _ _ e (λ z. world_sound o after (kept z)) refl

-- past number 2, among any others
module _ (o : Others) (time : ℕ) (w : World) (e : sound_among o (view_of w) ≡ true) where
  pub past_new_data_lasts : (bytes : ℕ) → sound_among o (view_of (past_new_data time bytes w).after) ≡ true
  unfolding past_new_data
  past_new_data_lasts bytes = decided_lasts o w _ _ e (new_data_kept o time bytes (view_of w) e)

  pub past_send_lasts : (a : Send) → sound_among o (view_of (past_send time a w).after) ≡ true
  unfolding past_send
  past_send_lasts a = decided_lasts o w _ _ e (send_kept o time a (view_of w) e)

  pub past_ack_lasts : (a : Ack) → sound_among o (view_of (past_ack time a w).after) ≡ true
  unfolding past_ack
  past_ack_lasts a = decided_lasts o w _ _ e (ack_kept o time a (view_of w) e)

  pub past_nack_lasts : (a : Nack) → sound_among o (view_of (past_nack time a w).after) ≡ true
  unfolding past_nack
  past_nack_lasts a = decided_lasts o w _ _ e (nack_kept o time a (view_of w) e)

  pub past_loss_lasts : (a : Loss) → sound_among o (view_of (past_loss time a w).after) ≡ true
  unfolding past_loss
  past_loss_lasts a = decided_lasts o w _ _ e (loss_kept o time a (view_of w) e)

  pub past_path_lasts : sound_among o (view_of (past_path time w).after) ≡ true
  unfolding past_path
  past_path_lasts =
      lasts o (λ (a : Routing). a.after) w (path_rows time w.state) _ _ e (λ z. world_sound o _ (path_kept o time (view_of w) e z)) refl

-- with the test of number 2, of a flow by itself
pub new_data_lasts : (time bytes : ℕ) (w : World) → sound w ≡ true → sound (on_new_data time bytes w).after ≡ true
new_data_lasts time bytes w e =
    ap (λ (x : Answered). sound x.after) (sym (past_new_data_lem w e time bytes)) ∙ past_new_data_lasts alone time w e bytes

pub send_lasts : (time : ℕ) (a : Send) (w : World) → sound w ≡ true → sound (on_send time a w).after ≡ true
send_lasts time a w e = ap (λ (x : Answered). sound x.after) (sym (past_send_lem w e time a)) ∙ past_send_lasts alone time w e a

pub ack_lasts : (time : ℕ) (a : Ack) (w : World) → sound w ≡ true → sound (on_ack time a w).after ≡ true
ack_lasts time a w e = ap (λ (x : Answered). sound x.after) (sym (past_ack_lem w e time a)) ∙ past_ack_lasts alone time w e a

pub nack_lasts : (time : ℕ) (a : Nack) (w : World) → sound w ≡ true → sound (on_nack time a w).after ≡ true
nack_lasts time a w e = ap (λ (x : Answered). sound x.after) (sym (past_nack_lem w e time a)) ∙ past_nack_lasts alone time w e a

pub loss_lasts : (time : ℕ) (a : Loss) (w : World) → sound w ≡ true → sound (on_loss time a w).after ≡ true
loss_lasts time a w e = ap (λ (x : Answered). sound x.after) (sym (past_loss_lem w e time a)) ∙ past_loss_lasts alone time w e a

pub path_lasts : (time : ℕ) (w : World) → sound w ≡ true → sound (on_path time w).after ≡ true
path_lasts time w e = ap (λ (x : Routing). sound x.after) (sym (past_path_lem w e time)) ∙ past_path_lasts alone time w e
