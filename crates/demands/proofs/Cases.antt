-- `cases_hold`: document 01's cases P1 to P6 agree with the definitions that the contracts cite, by computation.
-- Assumes nothing.
use mathlib.Core.Path.{◌≡◌, refl}
use mathlib.Core.Bool.{true}
use Rattle.rules.specs.Branch.{if_so, if_lt, if_eq}
use Rattle.rules.specs.Mode.{is_on}
use Rattle.serial.specs.Wrap.{minus}
use Rattle.serial.specs.Count.{ahead_of, is_old, forward_of}
use Rattle.window.specs.Limits.{max_wnd_of}
use Rattle.window.specs.Sound.{fresh_of}
use Rattle.window.specs.Delays.{one_send, sample_of, avg_delay_of, update_delay_of, feed_of, update_base_rtt_of, measure_of}
use Rattle.window.specs.Cases.{leave_fast_mode_of, is_near, fast_increase_of, add_inc_bytes_of, proportional_increase_of, factor_of, may_decrease}
use Rattle.window.specs.Cases.{multiplicative_decrease_of, respond_of}
use Rattle.window.specs.Adjust.{enough_received, period_passed, fulfill_adjustment_of, adjust_of}
use Rattle.ledger.specs.Steps.{held_of, newly_of}
use Rattle.demands.specs.Cases.{agree, same, cases, settings_e, window_of, ticks_of, measured_by}

pub cases_hold : agree cases ≡ true
unfolding agree same cases settings_e window_of ticks_of measured_by if_so if_lt if_eq minus ahead_of is_old forward_of max_wnd_of fresh_of one_send
    sample_of avg_delay_of update_delay_of feed_of update_base_rtt_of measure_of leave_fast_mode_of is_near fast_increase_of add_inc_bytes_of
    proportional_increase_of factor_of may_decrease multiplicative_decrease_of respond_of enough_received period_passed fulfill_adjustment_of adjust_of
    is_on held_of newly_of
cases_hold = refl
