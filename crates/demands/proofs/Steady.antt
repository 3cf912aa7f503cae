-- What the window holds of delays, the base round trip and the average, rule by rule over the window's definitions: quick adapt, the
-- four cases, the adjustment and a loss leave both as they are (`loss_delays`), so that an ACK leaves those of its sample
-- (`ack_delays`), and a NACK its own (`nack_delays`).
-- Assumes nothing.
use mathlib.Core.Path.{◌≡◌, refl, ap, ◌∙◌}
use mathlib.Core.Bool.{Bool, true, false, not, ◌||◌}
use Prim.Native.Nat.{ℕ}
use lib.Dec.{ltb}
use lib.IntN.{ℤ}
use Rattle.std.specs.Prelude.{Some, None}
use Rattle.rules.specs.Branch.{if_so, so_both, lt_both, so_yes, so_no}
use Rattle.rules.specs.Mode.{on, is_on}
use Rattle.window.specs.Delays.{update_base_rtt_of, measure_of}
use Rattle.window.specs.Quick.{fire_of, restart_of, quick_adapt_of}
use Rattle.window.specs.Fields.{with_ignored, with_trigger}
use Rattle.window.specs.Cases.{add_to_tally_of, count_newly_of, leave_fast_mode_of, raise_cwnd_of, is_near, fast_increase_of, add_inc_bytes_of}
use Rattle.window.specs.Cases.{proportional_increase_of, fair_increase_of, may_decrease, multiplicative_decrease_of, respond_of}
use Rattle.window.specs.Adjust.{enough_received, period_passed, fulfill_adjustment_of, adjust_of}
use Rattle.window.specs.Events.{go_on_of, react_of, ack_of, shrink_of, loss_of, feed_trimmed_of, is_trimmed, nack_of}
use Rattle.window.specs.Sample.{Sample}
use Rattle.window.specs.declared.Settings.{Settings}
use Rattle.window.specs.declared.Window.{Window}
use Rattle.window.specs.declared.Adapted.{Adapted}

-- what a window holds of delays
pub record Delays : Type 0 where
  pub base : ℕ
  pub avg : ℕ

abbrev pub delays_of : Window → Delays
delays_of w = record { base = w.base; avg = w.avg }

-- a window that holds what another does
abbrev Same : Window → Window → Type 0
Same w v = delays_of v ≡ delays_of w

module _ (s : Settings) (w : Window) where
  quick_adapt_delays : (time : ℕ) (lost marked : Bool) (delay : ℕ) (in_flight : ℤ)
      → Same w (quick_adapt_of s time lost marked delay in_flight w).window
  unfolding quick_adapt_of restart_of fire_of
  quick_adapt_delays time lost marked delay in_flight =
      let P : Adapted → Type 0 = λ a. Same w a.window in
      so_both P (is_on s.quick_adapt_off || ltb time w.qa_end) _ _ (λ e. refl) (λ e. so_both P _ _ _ (λ e. refl) (λ e. refl))

  fast_increase_delays : (newly delay : ℕ) → Same w (fast_increase_of s newly delay w)
  unfolding fast_increase_of leave_fast_mode_of raise_cwnd_of
  fast_increase_delays newly delay =
      so_both (Same w) (is_near delay w.base) _ _
      (λ e. so_both (Same w) (is_on w.fast) _ _ (λ e. refl) (λ e. lt_both (Same w) w.cwnd _ _ _ (λ e. refl) (λ e. refl)))
      (λ e. refl)

  proportional_increase_delays : (newly delay : ℕ) → Same w (proportional_increase_of s newly delay w)
  unfolding proportional_increase_of add_inc_bytes_of
  proportional_increase_delays newly delay =
      let same = fast_increase_delays newly delay in
      so_both (Same w) (is_on (fast_increase_of s newly delay w).fast) _ _ (λ e. same) (λ e. same)

  multiplicative_decrease_delays : (time : ℕ) → Same w (multiplicative_decrease_of s time w)
  unfolding multiplicative_decrease_of leave_fast_mode_of
  multiplicative_decrease_delays time = so_both (Same w) (may_decrease s time w) _ _ (λ e. refl) (λ e. refl)

  adjust_delays : (time : ℕ) → Same w (adjust_of s time w)
  unfolding adjust_of fulfill_adjustment_of
  adjust_delays time =
      so_both (Same w) (enough_received s w || period_passed s time w) _ _
      (λ e. so_both (Same w) (period_passed s time w) _ _ (λ e. refl) (λ e. refl)) (λ e. refl)

module _ (s : Settings) (time : ℕ) where
  respond_delays : (newly : ℕ) (marked : Bool) (delay : ℕ) (w : Window) → Same w (respond_of s time newly marked delay w)
  unfolding respond_of fair_increase_of leave_fast_mode_of add_inc_bytes_of
  respond_delays newly marked delay w =
      so_both (Same w) (not marked) _ _
      (λ e. lt_both (Same w) delay _ _ _ (λ e. proportional_increase_delays s w newly delay) (λ e. refl))
      (λ e. lt_both (Same w) delay _ _ _ (λ e. refl) (λ e. multiplicative_decrease_delays s w time))

  go_on_delays : (newly : ℕ) (marked : Bool) (delay : ℕ) (a : Adapted) → Same a.window (go_on_of s time newly marked delay a)
  unfolding go_on_of
  go_on_delays newly marked delay a =
      so_both (Same a.window) a.fired _ _ (λ e. refl)
      (λ e. adjust_delays s (respond_of s time newly marked delay a.window) time ∙ respond_delays newly marked delay a.window)

  -- what a sample leaves does not hang on the tallies
  count_newly_delays : (newly : ℕ) (marked : Bool) (sample : Sample) (w : Window)
      → delays_of (measure_of s marked sample (count_newly_of newly w)).window ≡ delays_of (measure_of s marked sample w).window
  unfolding measure_of update_base_rtt_of count_newly_of
  count_newly_delays newly marked (Some t) w = refl
  count_newly_delays newly marked None w = refl

  -- an ACK
  pub ack_delays : (newly : ℕ) (marked : Bool) (sample : Sample) (in_flight : ℤ) (w : Window)
      → delays_of (ack_of s time newly marked sample in_flight w) ≡ delays_of (measure_of s marked sample w).window
  unfolding ack_of react_of
  ack_delays newly marked sample in_flight w =
      let d = measure_of s marked sample (count_newly_of newly w) in
      go_on_delays newly marked d.delay _
      ∙ quick_adapt_delays s d.window time false marked d.delay in_flight
      ∙ count_newly_delays newly marked sample w

  -- a loss
  pub loss_delays : (size : ℕ) (in_flight : ℤ) (w : Window) → Same w (loss_of s time size in_flight w)
  unfolding loss_of shrink_of
  loss_delays size in_flight w =
      let v = with_trigger on (with_ignored (add_to_tally_of w.ignored size) w) in
      let a = quick_adapt_of s time true true 0 in_flight v in
      so_both (Same a.window) a.fired _ _ (λ e. refl) (λ e. refl) ∙ quick_adapt_delays s v time true true 0 in_flight

  -- a NACK: its sample, and the feed of a trimmed packet
  pub nack_delays : (size reason : ℕ) (sample : Sample) (in_flight : ℤ) (w : Window)
      → delays_of (nack_of s time size reason sample in_flight w)
      ≡ delays_of (if_so (is_trimmed reason) (feed_trimmed_of s (update_base_rtt_of s sample w)) (update_base_rtt_of s sample w))
  unfolding nack_of
  nack_delays size reason sample in_flight w =
      let v = update_base_rtt_of s sample w in
      let trimmed = is_trimmed reason in
      so_both (λ (x : Window). delays_of x ≡ delays_of (if_so trimmed (feed_trimmed_of s v) v)) trimmed _ _
      (λ e. loss_delays size in_flight (feed_trimmed_of s v) ∙ ap delays_of (so_yes trimmed (feed_trimmed_of s v) _ v e refl))
      (λ e. ap delays_of (so_no trimmed v (feed_trimmed_of s v) _ e refl))
