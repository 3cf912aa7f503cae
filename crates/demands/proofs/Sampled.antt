-- `ack_sampled`, `nack_sampled`: a sample is taken exactly when document 01 says one exists. `base_stays`, `ack_lowered`, `nack_lowered`:
-- without one no event changes the base round trip, with one an accepted event takes the lesser. By the window's laws of its sample, and
-- rule by rule over its definitions.
-- Assumes nothing.
use mathlib.Core.Path.{◌≡◌, refl, sym, ap, ◌∙◌}
use mathlib.Core.Logic.{◌⊎◌, inl, inr, ◌↔◌}
use mathlib.Core.Bool.{Bool, true, false, ◌||◌}
use Prim.Native.Nat.{ℕ, min}
use lib.Dec.{eqb}
use borrow.Author.Tests.{eqb-true, eq-eqb}
use Rattle.std.specs.Prelude.{Some, None}
use Rattle.rules.specs.Branch.{so_both, eq_both}
use Rattle.window.specs.Delays.{sample_of, update_base_rtt_of, measure_of}
use Rattle.window.specs.Events.{feed_trimmed_of, is_trimmed}
use Rattle.window.specs.Sample.{Sample}
use Rattle.window.specs.declared.Settings.{Settings}
use Rattle.window.specs.declared.Window.{Window}
use Rattle.window.proofs.Tests.{sample_exists, exists_sample}
use Rattle.ledger.specs.Packets.{flying_status, marked_status, is_flying, is_marked, is_out}
use Rattle.ledger.specs.Ring.{packet_of}
use Rattle.ledger.specs.declared.Packet.{Packet}
use Rattle.sender.specs.World.{World, ring_of, view_of, world_of, Answered, Routing}
use Rattle.sender.specs.Steps.{state_of, settled, new_data_state, new_data_step, send_step, ack_sample, ack_step, nack_sample, nack_step, loss_step}
use Rattle.sender.specs.Steps.{path_state, path_step}
use Rattle.sender.specs.Events.{decided, on_new_data, on_send, on_ack, on_nack, on_loss, on_path}
use Rattle.sender.specs.declared.Ack.{Ack}
use Rattle.sender.specs.declared.Nack.{Nack}
use Rattle.demands.specs.Events.{Event, new_data, send, ack, nack, loss, path, step_of}
use Rattle.demands.specs.Samples.{SampleIs, NoSample}
use Rattle.demands.specs.Demands.{AckSampled, NackSampled, BaseStays}
use Rattle.demands.proofs.Steady.{Delays, ack_delays, loss_delays, nack_delays}

-- ---- a sample exists, and is taken

-- "flying or marked"
either : (a b : ℕ) (n : ℕ) → (eqb n a || eqb n b) ≡ true → (n ≡ a) ⊎ (n ≡ b)
either a b n e = go (eqb n a) refl e
  where
    go : (t : Bool) → eqb n a ≡ t → (t || eqb n b) ≡ true → (n ≡ a) ⊎ (n ≡ b)
    go true f g = inl (eqb-true n a f)
    go false f g = inr (eqb-true n b g)

or_true : (b : Bool) → (b || true) ≡ true
or_true true = refl
or_true false = refl

out_is : (x : Packet) → is_out x ≡ true → (x.status ≡ flying_status) ⊎ (x.status ≡ marked_status)
unfolding is_out is_flying is_marked
out_is x = either flying_status marked_status x.status

is_out_lem : (x : Packet) → (x.status ≡ flying_status) ⊎ (x.status ≡ marked_status) → is_out x ≡ true
unfolding is_out is_flying is_marked
is_out_lem x (inl e) = rw (eq-eqb x.status flying_status e)
is_out_lem x (inr e) = rw (eq-eqb x.status marked_status e, or_true)

-- of any packet, by the window's laws: the sample is `Some ticks` exactly under 01's conditions
sampled : (w : World) (psn : ℕ) (retx : Bool) (time service ticks : ℕ) →
    let x = packet_of w.state.flow (ring_of w) psn in
    (sample_of (is_out x) x.resent retx time x.sent service ≡ Some ticks) ↔ SampleIs w psn retx time service ticks
sampled w psn retx time service ticks =
    let x = packet_of w.state.flow (ring_of w) psn in (
      λ e.
          let s = exists_sample (is_out x) x.resent retx time x.sent service ticks e in
          record { outstanding = out_is x s.0.known; copy = s.0.copy; positive = s.0.late; ticks_is = s.1 },
      λ s.
          sample_exists (is_out x) x.resent retx time x.sent service
          (record { known = is_out_lem x s.outstanding; copy = s.copy; late = s.positive })
          ∙ ap Some (sym s.ticks_is),
    )

pub ack_sampled : AckSampled
unfolding ack_sample
ack_sampled time ticks a w = sampled w a.trigger a.retx time a.service ticks

pub nack_sampled : NackSampled
unfolding nack_sample
nack_sampled time ticks a w = sampled w a.psn a.retx time 0 ticks

-- where 01 has no sample there is none
absent : (sample : Sample) → ((ticks : ℕ) → sample ≡ Some ticks → ⊥) → sample ≡ None
absent (Some t) none = absurd (none t refl)
absent None none = refl

pub ack_absent : (time : ℕ) (a : Ack) (w : World) → NoSample (ack time a) w → ack_sample time a (view_of w) ≡ None
ack_absent time a w none = absent (ack_sample time a (view_of w)) (λ t e. none t ((ack_sampled time t a w).0 e))

pub nack_absent : (time : ℕ) (a : Nack) (w : World) → NoSample (nack time a) w → nack_sample time a (view_of w) ≡ None
nack_absent time a w none = absent (nack_sample time a (view_of w)) (λ t e. none t ((nack_sampled time t a w).0 e))

-- ---- the base round trip: a sample lowers it

-- a step leaves the base that a sample gives
abbrev pub Lowers : Sample → World → World → Type 0
Lowers sample w v = v.state.window.base ≡ (update_base_rtt_of w.state.settings sample w.state.window).base

measure_base :
    (s : Settings) (marked : Bool) (sample : Sample) (w : Window) →
    (measure_of s marked sample w).window.base ≡ (update_base_rtt_of s sample w).base
unfolding update_base_rtt_of measure_of
measure_base s marked (Some t) w = refl
measure_base s marked None w = refl

module _ (w : World) (time : ℕ) where
  pub ack_lowers : (a : Ack) → Lowers (ack_sample time a (view_of w)) w (world_of (ack_step time a (view_of w)))
  unfolding ack_step settled state_of
  ack_lowers a =
      ap (λ (d : Delays). d.base) (ack_delays w.state.settings time _ a.marked (ack_sample time a (view_of w)) _ w.state.window)
      ∙ measure_base w.state.settings a.marked (ack_sample time a (view_of w)) w.state.window

  pub nack_lowers : (a : Nack) → Lowers (nack_sample time a (view_of w)) w (world_of (nack_step time a (view_of w)))
  unfolding nack_step settled state_of feed_trimmed_of
  nack_lowers a =
      let v = update_base_rtt_of w.state.settings (nack_sample time a (view_of w)) w.state.window in
      ap (λ (d : Delays). d.base) (nack_delays w.state.settings time _ a.reason (nack_sample time a (view_of w)) _ w.state.window)
      ∙ so_both (λ (x : Window). x.base ≡ v.base) (is_trimmed a.reason) _ _ (λ e. refl) (λ e. refl)

-- ---- .. without a sample

-- the step of an event for which 01 has no sample
pub step_stays : (e : Event) (w : World) → NoSample e w → Lowers None w (step_of e w)
unfolding new_data_step new_data_state send_step loss_step path_step path_state settled state_of update_base_rtt_of
step_stays (new_data time bytes) w none = refl
step_stays (send time a) w none = refl
step_stays (ack time a) w none = rw (ack_absent time a w none) at (ack_lowers w time a)
step_stays (nack time a) w none = rw (nack_absent time a w none) at (nack_lowers w time a)
step_stays (loss time a) w none = ap (λ (d : Delays). d.base) (loss_delays w.state.settings time _ _ w.state.window)
step_stays (path time) w none = refl

-- an answer's world is the given one or the one after the step
decided_base : (n : ℕ) (w after : World) → Lowers None w after → Lowers None w (decided n w after).after
unfolding decided update_base_rtt_of
decided_base n w after e = eq_both (λ (x : Answered). Lowers None w x.after) n 0 _ _ (λ _. e) (λ _. refl)

pub base_stays : BaseStays
unfolding on_new_data on_send on_ack on_nack on_loss on_path new_data_step new_data_state send_step loss_step path_step path_state settled state_of
    update_base_rtt_of
base_stays (new_data time bytes) w of-ack of-nack = decided_base _ w _ refl
base_stays (send time a) w of-ack of-nack = decided_base _ w _ refl
base_stays (ack time a) w of-ack of-nack = decided_base _ w _ (rw (of-ack time a refl) at (ack_lowers w time a))
base_stays (nack time a) w of-ack of-nack = decided_base _ w _ (rw (of-nack time a refl) at (nack_lowers w time a))
base_stays (loss time a) w of-ack of-nack = decided_base _ w _
    (ap (λ (d : Delays). d.base) (loss_delays w.state.settings time _ _ w.state.window))
base_stays (path time) w of-ack of-nack = eq_both (λ (x : Routing). Lowers None w x.after) _ 0 _ _ (λ _. refl) (λ _. refl)

-- ---- .. and falls by one: "base = min(base, sample)"

-- an accepted event's world is the one after the step
decided_lowered : (n : ℕ) (w after : World) (ticks : ℕ) → Lowers (Some ticks) w after → (decided n w after).number ≡ 0
    → (decided n w after).after.state.window.base ≡ min w.state.window.base ticks
unfolding decided update_base_rtt_of
decided_lowered n w after ticks e =
    eq_both (λ (x : Answered). x.number ≡ 0 → x.after.state.window.base ≡ min w.state.window.base ticks) n 0 _ _
    (λ _ _. e) (λ refused zero. absurd (refused zero))

pub ack_lowered : (time ticks : ℕ) (a : Ack) (w : World) → SampleIs w a.trigger a.retx time a.service ticks
    → (on_ack time a w).number ≡ 0
    → (on_ack time a w).after.state.window.base ≡ min w.state.window.base ticks
unfolding on_ack
ack_lowered time ticks a w s = decided_lowered _ w _ ticks (rw ((ack_sampled time ticks a w).1 s) at (ack_lowers w time a))

pub nack_lowered : (time ticks : ℕ) (a : Nack) (w : World) → SampleIs w a.psn a.retx time 0 ticks → (on_nack time a w).number ≡ 0
    → (on_nack time a w).after.state.window.base ≡ min w.state.window.base ticks
unfolding on_nack
nack_lowered time ticks a w s = decided_lowered _ w _ ticks (rw ((nack_sampled time ticks a w).1 s) at (nack_lowers w time a))
