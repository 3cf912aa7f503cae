-- Every step of the window keeps it sound at the event's time: one law a definition, in the order of the definitions.
-- Assumes nothing.
use mathlib.Core.Path.{◌≡◌, refl, ap}
use mathlib.Core.Bool.{Bool, true, false, not, ◌&&◌, ◌||◌}
use Prim.Native.Nat.{ℕ, ◌-◌, ◌≤◌, ◌<◌, min}
use lib.Dec.{ltb, eqb}
use lib.IntN.{ℤ}
use borrow.Author.Tests.{ltb-true}
use native.Mathlib.Omega.{arith}
use Rattle.rules.specs.Branch.{so_both, lt_both}
use Rattle.rules.specs.Test.{both}
use Rattle.rules.specs.Mode.{on, is_on}
use Rattle.window.specs.Limits.{parts, window_most, sample_most, avg_most, time_end}
use Rattle.window.specs.Range.{InRange}
use Rattle.window.specs.Sound.{SoundWindow, Kept}
use Rattle.window.specs.Fields.{with_ignored, with_trigger}
use Rattle.window.specs.Delays.{Sampled, avg_delay_of, update_delay_of, update_base_rtt_of, measure_of}
use Rattle.window.specs.Quick.{above_zero, fires_of, fire_of, restart_of, quick_adapt_of}
use Rattle.window.specs.Cases.{add_to_tally_of, count_newly_of, leave_fast_mode_of, raise_cwnd_of, is_near, fast_increase_of}
use Rattle.window.specs.Cases.{add_inc_bytes_of, proportional_increase_of, fair_increase_of, factor_of, may_decrease}
use Rattle.window.specs.Cases.{multiplicative_decrease_of, respond_of}
use Rattle.window.specs.Adjust.{enough_received, period_passed, fulfill_adjustment_of, adjust_of}
use Rattle.window.specs.Events.{go_on_of, react_of, ack_of, shrink_of, loss_of, feed_trimmed_of, is_trimmed, nack_of}
use Rattle.window.specs.declared.Settings.{Settings}
use Rattle.window.specs.declared.Window.{Window}
use Rattle.window.specs.declared.Delayed.{Delayed}
use Rattle.window.specs.declared.Adapted.{Adapted}
use Rattle.window.specs.Sample.{Sample}
use Rattle.std.specs.Prelude.{Some, None}
use Rattle.window.proofs.Numbers.{share}
use Rattle.window.proofs.Steps.{feed_under}
use Rattle.window.proofs.MaxWnd.{max_wnd_low, max_wnd_high}

-- what is equal to a sound window is sound
pub sound_at : {s : Settings} {time : ℕ} {v w : Window} → v ≡ w → SoundWindow s time w → SoundWindow s time v
sound_at e H = rw e H

pub kept : {s : Settings} {time : ℕ} {v r : Window} → r ≡ v → SoundWindow s time v → Kept s time v r
kept e H = record { is = e; sound = sound_at e H }

-- a fed average stays in its bound
update_delay_high : (avg x : ℕ) → avg ≤ avg_most → x ≤ sample_most → update_delay_of avg x ≤ avg_most
unfolding update_delay_of
update_delay_high avg x h g = omega arith

-- quick adapt fires only where less was achieved than the window holds
fires_room :
    (s : Settings) (loss marked : Bool) (delay : ℕ) (w : Window) →
    fires_of s loss marked delay w ≡ true → w.achieved < w.cwnd
unfolding fires_of
fires_room s loss marked delay w e =
    let rest = not (eqb w.qa_end 0) && marked && (is_on w.trigger || loss || ltb s.qa_threshold delay) in
    ltb-true w.achieved w.cwnd (both rest (ltb w.achieved w.cwnd) e).1

-- fast increase leaves inc_bytes as it is
pub fast_increase_inc_bytes : (s : Settings) (newly delay : ℕ) (w : Window) → (fast_increase_of s newly delay w).inc_bytes ≡ w.inc_bytes
unfolding fast_increase_of raise_cwnd_of leave_fast_mode_of
fast_increase_inc_bytes s newly delay w =
    let P : Window → Type 0 = λ v. v.inc_bytes ≡ w.inc_bytes in
    so_both P (is_near delay w.base) _ _
    (λ h. so_both P (is_on w.fast) _ _ (λ e. refl) (λ e. lt_both P w.cwnd _ _ _ (λ k. refl) (λ k. refl)))
    (λ h. refl)

-- a window that may decrease has an average above the target
pub may_decrease_above : (s : Settings) (time : ℕ) (w : Window) → may_decrease s time w ≡ true → s.target_qdelay < avg_delay_of w.avg
unfolding may_decrease
may_decrease_above s time w e =
    let above = ltb s.target_qdelay (avg_delay_of w.avg) in
    let heard = not (ltb w.ignored w.bytes_to_ignore) in
    ltb-true _ _ (both heard above (both (heard && above) _ e).0).1

-- a cut leaves no more than all
pub factor_high : {s : Settings} → InRange s → (avg : ℕ) → factor_of s avg ≤ parts
unfolding factor_of
factor_high R avg = omega arith

module _ {s : Settings} {time : ℕ} (R : InRange s) where
  pub cwnd_most : {w : Window} → SoundWindow s time w → w.cwnd ≤ window_most
  cwnd_most {w} H = omega (arith, max_wnd_high R w.base H.base_high)

  pub sound_count_newly : {w : Window} (newly : ℕ) → SoundWindow s time w → SoundWindow s time (count_newly_of newly w)
  unfolding count_newly_of
  sound_count_newly newly H = omega arith

  pub sound_leave_fast_mode : {w : Window} → SoundWindow s time w → SoundWindow s time (leave_fast_mode_of w)
  unfolding leave_fast_mode_of
  sound_leave_fast_mode H = omega arith

  pub sound_raise_cwnd : {w : Window} (newly : ℕ) → SoundWindow s time w → SoundWindow s time (raise_cwnd_of s newly w)
  unfolding raise_cwnd_of
  sound_raise_cwnd {w} newly H = omega (arith, max_wnd_low R w.base)

  pub sound_fast_increase : {w : Window} (newly delay : ℕ) → SoundWindow s time w → SoundWindow s time (fast_increase_of s newly delay w)
  unfolding fast_increase_of
  sound_fast_increase {w} newly delay H =
      let G = sound_raise_cwnd newly H in
      so_both (SoundWindow s time) (is_near delay w.base) _ _
      (λ h.
      so_both (SoundWindow s time) (is_on w.fast) _ _ (λ e. G)
      (λ e.
      lt_both (SoundWindow s time) w.cwnd (add_to_tally_of w.fi_count newly) _ _ (λ k. omega arith) (λ k. omega arith)))
      (λ h. sound_leave_fast_mode H)

  pub sound_add_inc_bytes : {w : Window} (n : ℕ) → SoundWindow s time w → SoundWindow s time (add_inc_bytes_of n w)
  unfolding add_inc_bytes_of
  sound_add_inc_bytes n H = omega arith

  pub sound_proportional_increase :
      {w : Window} (newly delay : ℕ) → SoundWindow s time w → SoundWindow s time (proportional_increase_of s newly delay w)
  unfolding proportional_increase_of
  sound_proportional_increase {w} newly delay H =
      let F = sound_fast_increase newly delay H in
      so_both (SoundWindow s time) (is_on (fast_increase_of s newly delay w).fast) _ _ (λ e. F) (λ e. sound_add_inc_bytes _ F)

  pub sound_fair_increase : {w : Window} (newly : ℕ) → SoundWindow s time w → SoundWindow s time (fair_increase_of s newly w)
  unfolding fair_increase_of
  sound_fair_increase newly H = sound_add_inc_bytes _ (sound_leave_fast_mode H)

  pub sound_multiplicative_decrease : {w : Window} → SoundWindow s time w → SoundWindow s time (multiplicative_decrease_of s time w)
  unfolding multiplicative_decrease_of leave_fast_mode_of
  sound_multiplicative_decrease {w} H =
      let avg = avg_delay_of w.avg in
      let left = share w.cwnd (factor_of s avg) parts (factor_high R avg) in
      so_both (SoundWindow s time) (may_decrease s time w) _ _ (λ h. omega (arith, max_wnd_low R w.base)) (λ h. omega arith)

  pub sound_respond :
      {w : Window} (newly : ℕ) (marked : Bool) (delay : ℕ) → SoundWindow s time w →
      SoundWindow s time (respond_of s time newly marked delay w)
  unfolding respond_of
  sound_respond newly marked delay H =
      so_both (SoundWindow s time) (not marked) _ _
      (λ m.
      lt_both (SoundWindow s time) delay s.target_qdelay _ _
      (λ h. sound_proportional_increase newly delay H)
      (λ h. sound_fair_increase newly H))
      (λ m.
      lt_both (SoundWindow s time) delay s.target_qdelay _ _
      (λ h. sound_leave_fast_mode H)
      (λ h. sound_multiplicative_decrease H))

  pub step_respond :
      {w v : Window} (newly : ℕ) (marked : Bool) (delay : ℕ) →
      v ≡ respond_of s time newly marked delay w → SoundWindow s time w → SoundWindow s time v
  step_respond newly marked delay e H = sound_at e (sound_respond newly marked delay H)

  pub sound_fulfill_adjustment : {w : Window} (extra : ℕ) → SoundWindow s time w → SoundWindow s time (fulfill_adjustment_of s extra w)
  unfolding fulfill_adjustment_of
  sound_fulfill_adjustment {w} extra H = omega (arith, max_wnd_low R w.base)

  pub sound_adjust : {w : Window} → SoundWindow s time w → SoundWindow s time (adjust_of s time w)
  unfolding adjust_of
  sound_adjust {w} H =
      let T = sound_fulfill_adjustment s.eta H in
      so_both (SoundWindow s time) (enough_received s w || period_passed s time w) _ _
      (λ h.
      so_both (SoundWindow s time) (period_passed s time w) _ _ (λ k. omega arith) (λ k. sound_fulfill_adjustment 0 H))
      (λ h. H)

  pub sound_update_base_rtt :
      {w : Window} (sample : Sample) → Sampled sample → SoundWindow s time w →
      SoundWindow s time (update_base_rtt_of s sample w)
  unfolding update_base_rtt_of
  sound_update_base_rtt {w} (Some t) S H = omega (arith, S.low t refl, max_wnd_low R (min w.base t))
  sound_update_base_rtt None S H = H

  pub sound_measure :
      {w : Window} (marked : Bool) (sample : Sample) → Sampled sample → SoundWindow s time w →
      SoundWindow s time (measure_of s marked sample w).window
  unfolding measure_of update_base_rtt_of
  sound_measure {w} marked (Some t) S H =
      let high = S.high t refl in
      let base = min w.base t in
      let x = feed_under s.target_qdelay base marked (t - base) sample_most (omega arith) (omega arith) in
      let avg = update_delay_high w.avg _ H.avg_high x in
      omega (arith, S.low t refl, max_wnd_low R base)
  sound_measure marked None S H = H

  pub step_measure :
      {w : Window} {d : Delayed} (marked : Bool) (sample : Sample) →
      d ≡ measure_of s marked sample w → Sampled sample → SoundWindow s time w → SoundWindow s time d.window
  step_measure marked sample e S H = sound_at (ap (λ (d : Delayed). d.window) e) (sound_measure marked sample S H)

  -- firing means that achieved, the new window, was under the old one
  pub sound_fire :
      {w : Window} (in_flight : ℤ) → w.achieved < w.cwnd → above_zero in_flight ≤ s.maxwnd → SoundWindow s time w →
      SoundWindow s time (fire_of s in_flight w)
  unfolding fire_of
  sound_fire {w} in_flight room flown H = omega (arith, max_wnd_low R w.base)

  pub sound_restart : {w : Window} → time < time_end → SoundWindow s time w → SoundWindow s time (restart_of s time w)
  unfolding restart_of
  sound_restart now H = omega arith

  pub sound_shrink : (a : Adapted) (size : ℕ) → SoundWindow s time a.window → SoundWindow s time (shrink_of s size a)
  unfolding shrink_of
  sound_shrink a size H =
      so_both (SoundWindow s time) a.fired _ _ (λ e. H) (λ e. omega (arith, max_wnd_low R a.window.base))

  pub sound_feed_trimmed : {w : Window} → SoundWindow s time w → SoundWindow s time (feed_trimmed_of s w)
  unfolding feed_trimmed_of
  sound_feed_trimmed {w} H = omega (arith, update_delay_high w.avg s.config_base_rtt H.avg_high (omega arith))

  pub sound_trimmed :
      {w : Window} (size : ℕ) → SoundWindow s time w →
      SoundWindow s time (with_trigger on (with_ignored (add_to_tally_of w.ignored size) w))
  sound_trimmed size H = omega arith

  module _ (in_flight : ℤ) (now : time < time_end) (flown : above_zero in_flight ≤ s.maxwnd) where
    pub sound_quick_adapt :
        {w : Window} (loss marked : Bool) (delay : ℕ) → SoundWindow s time w →
        SoundWindow s time (quick_adapt_of s time loss marked delay in_flight w).window
    unfolding quick_adapt_of
    sound_quick_adapt {w} loss marked delay H =
        let P : Adapted → Type 0 = λ a. SoundWindow s time a.window in
        so_both P (is_on s.quick_adapt_off || ltb time w.qa_end) _ _ (λ e. H)
        (λ e.
        so_both P (fires_of s loss marked delay w) _ _
        (λ k. sound_restart now (sound_fire in_flight (fires_room s loss marked delay w k) flown H))
        (λ k. sound_restart now H))

    pub step_quick_adapt :
        {w : Window} {a : Adapted} (loss marked : Bool) (delay : ℕ) →
        a ≡ quick_adapt_of s time loss marked delay in_flight w → SoundWindow s time w → SoundWindow s time a.window
    step_quick_adapt loss marked delay e H = sound_at (ap (λ (a : Adapted). a.window) e) (sound_quick_adapt loss marked delay H)

    pub sound_loss : {w : Window} (size : ℕ) → SoundWindow s time w → SoundWindow s time (loss_of s time size in_flight w)
    unfolding loss_of
    sound_loss size H = sound_shrink _ size (sound_quick_adapt true true 0 (sound_trimmed size H))

    pub sound_nack :
        {w : Window} {sample : Sample} (size reason : ℕ) → Sampled sample → SoundWindow s time w →
        SoundWindow s time (nack_of s time size reason sample in_flight w)
    unfolding nack_of
    sound_nack size reason S H =
        let L = sound_update_base_rtt _ S H in
        so_both (SoundWindow s time) (is_trimmed reason) _ _ (λ h. sound_loss size (sound_feed_trimmed L)) (λ h. L)

    -- inside an ACK: the window that quick adapt leaves
    pub ack_quick_adapt :
        {w v : Window} {d : Delayed} {a : Adapted} (newly : ℕ) (marked : Bool) (sample : Sample) →
        v ≡ count_newly_of newly w → d ≡ measure_of s marked sample v →
        a ≡ quick_adapt_of s time false marked d.delay in_flight d.window →
        Sampled sample → SoundWindow s time w → SoundWindow s time a.window
    ack_quick_adapt {d = d} newly marked sample e f g S H =
        step_quick_adapt false marked d.delay g (step_measure marked sample f S (sound_at e (sound_count_newly newly H)))

    pub sound_ack :
        {w : Window} {sample : Sample} (newly : ℕ) (marked : Bool) → Sampled sample → SoundWindow s time w →
        SoundWindow s time (ack_of s time newly marked sample in_flight w)
    unfolding ack_of react_of go_on_of
    sound_ack {w} {sample} newly marked S H =
        let d = measure_of s marked sample (count_newly_of newly w) in
        let a = quick_adapt_of s time false marked d.delay in_flight d.window in
        let A : SoundWindow s time a.window = ack_quick_adapt {w = w} {d = d} newly marked sample refl refl refl S H in
        so_both (SoundWindow s time) a.fired _ _ (λ e. A) (λ e. sound_adjust (sound_respond newly marked d.delay A))
