-- `average_fed`: the delay average after an accepted event is as document 01 says, in the words of specs/Samples. The window's filter and
-- feed are the same numbers (`feeds_same`); which of them a step takes is told by the sample and the reason, by the laws of `Steady`.
-- Assumes nothing.
use mathlib.Core.Path.{◌≡◌, refl, sym, ap, ◌∙◌}
use mathlib.Core.Logic.{⊎_elim}
use mathlib.Core.Bool.{Bool}
use Prim.Native.Nat.{ℕ, ◌≤◌, ◌<◌}
use native.Mathlib.Omega.{arith}
use borrow.Author.Tests.{le-leb, lt-leb}
use Rattle.std.specs.Prelude.{Some, None}
use Rattle.rules.specs.Branch.{if_so, so_yes, so_no}
use Rattle.window.specs.Limits.{trimmed_last_hop}
use Rattle.window.specs.Delays.{update_delay_of, feed_of, update_base_rtt_of, measure_of}
use Rattle.window.specs.Events.{feed_trimmed_of, is_trimmed}
use Rattle.window.specs.Sample.{Sample}
use Rattle.window.specs.declared.Settings.{Settings}
use Rattle.window.specs.declared.Window.{Window}
use Rattle.sender.specs.World.{World, view_of}
use Rattle.sender.specs.Steps.{state_of, settled, new_data_state, new_data_step, send_step, ack_sample, ack_step, nack_sample, nack_step, loss_step}
use Rattle.sender.specs.Steps.{path_state, path_step}
use Rattle.sender.specs.declared.Ack.{Ack}
use Rattle.sender.specs.declared.Nack.{Nack}
use Rattle.demands.specs.Events.{Event, new_data, send, ack, nack, loss, path, step_of}
use Rattle.demands.specs.Samples.{fed, ack_feed, fed_sample, AverageIs}
use Rattle.demands.specs.Demands.{AverageFed}
use Rattle.demands.proofs.Runs.{rules_hold}
use Rattle.demands.proofs.Steady.{Delays, ack_delays, loss_delays, nack_delays}
use Rattle.demands.proofs.Sampled.{ack_sampled, ack_absent}

-- the window's feed is 01's
feeds_same : (target base : ℕ) (marked : Bool) (delay : ℕ) → feed_of target base marked delay ≡ ack_feed target base marked delay
unfolding feed_of
feeds_same target base marked delay = refl

-- ---- an ACK

-- with a sample the average is fed, without one it stays
measure_average : World → Bool → Sample → ℕ
measure_average w marked sample = (measure_of w.state.settings marked sample w.state.window).window.avg

measure_ticks : (w : World) (marked : Bool) (ticks : ℕ) → measure_average w marked (Some ticks) ≡ fed_sample w marked ticks
unfolding measure_average measure_of update_base_rtt_of update_delay_of
measure_ticks w marked ticks = ap (fed w.state.window.avg) (feeds_same w.state.settings.target_qdelay _ marked _)

measure_none : (w : World) (marked : Bool) → measure_average w marked None ≡ w.state.window.avg
unfolding measure_average measure_of
measure_none w marked = refl

module _ (time : ℕ) (a : Ack) (w : World) where
  -- the step's average is that of its sample
  ack_average : (ack_step time a (view_of w)).state.window.avg ≡ measure_average w a.marked (ack_sample time a (view_of w))
  unfolding ack_step settled state_of measure_average
  ack_average =
      ap (λ (d : Delays). d.avg)
      (ack_delays w.state.settings time _ a.marked (ack_sample time a (view_of w)) _ w.state.window)

-- ---- a NACK

update_base_rtt_average : (s : Settings) (sample : Sample) (w : Window) → (update_base_rtt_of s sample w).avg ≡ w.avg
unfolding update_base_rtt_of
update_base_rtt_average s (Some t) w = refl
update_base_rtt_average s None w = refl

module _ (time : ℕ) (a : Nack) (w : World) where
  abbrev lowered : Window
  lowered = update_base_rtt_of w.state.settings (nack_sample time a (view_of w)) w.state.window

  abbrev average : ℕ
  average = (nack_step time a (view_of w)).state.window.avg

  nack_average : average ≡ (if_so (is_trimmed a.reason) (feed_trimmed_of w.state.settings lowered) lowered).avg
  unfolding nack_step settled state_of
  nack_average = ap (λ (d : Delays). d.avg) (nack_delays w.state.settings time _ a.reason (nack_sample time a (view_of w)) _
      w.state.window)

  lowered_same : lowered.avg ≡ w.state.window.avg
  lowered_same = update_base_rtt_average w.state.settings (nack_sample time a (view_of w)) w.state.window

  trimmed : a.reason ≤ 1 → average ≡ fed w.state.window.avg w.state.settings.config_base_rtt
  unfolding is_trimmed feed_trimmed_of update_delay_of
  trimmed h =
      let fed-window = feed_trimmed_of w.state.settings lowered in
      nack_average
      ∙ sym (ap (λ (v : Window). v.avg) (so_yes _ fed-window _ lowered (le-leb a.reason trimmed_last_hop h) refl))
      ∙ ap (λ (n : ℕ). fed n w.state.settings.config_base_rtt) lowered_same

  other : 1 < a.reason → average ≡ w.state.window.avg
  unfolding is_trimmed
  other h =
      nack_average
      ∙ sym (ap (λ (v : Window). v.avg) (so_no _ lowered _ lowered (lt-leb a.reason trimmed_last_hop h) refl))
      ∙ lowered_same

-- ---- every event

-- the average after the step is as 01 says, whatever tested the event
pub step_average : (e : Event) (w : World) → AverageIs e w (step_of e w).state.window.avg
unfolding new_data_step new_data_state send_step loss_step path_step path_state settled state_of
step_average (new_data time bytes) w = refl
step_average (send time a) w = refl
step_average (ack time a) w = (
  λ ticks s.
      ack_average time a w ∙ ap (measure_average w a.marked) ((ack_sampled time ticks a w).1 s) ∙ measure_ticks w a.marked ticks,
  λ none. ack_average time a w ∙ ap (measure_average w a.marked) (ack_absent time a w none) ∙ measure_none w a.marked,
)
step_average (nack time a) w = (
  ⊎_elim (λ zero. trimmed time a w (omega arith)) (λ one. trimmed time a w (omega arith)),
  λ two. other time a w (omega arith),
)
step_average (loss time a) w = ap (λ (d : Delays). d.avg) (loss_delays w.state.settings time _ _ w.state.window)
step_average (path time) w = refl

-- DEMAND 2: the delay average is fed exactly as 01 says
pub average_fed : AverageFed
average_fed e w n = rw (rules_hold e w n) (step_average e w)
