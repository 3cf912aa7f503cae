-- Document 01, "The window, in order": what an ACK, a NACK and a loss do to the window, once the ledger's step is done.
-- Assumes nothing.
use Rattle.std.specs.Prelude.{Bool, true, false, ℕ, ◌-◌, max, leb, ℤ}
use Rattle.rules.specs.Branch.{if_so}
use Rattle.rules.specs.Mode.{on}
use Rattle.window.specs.Limits.{trimmed_last_hop}
use Rattle.window.specs.Fields.{with_cwnd, with_avg, with_ignored, with_trigger}
use Rattle.window.specs.Delays.{update_delay_of, update_base_rtt_of, measure_of}
use Rattle.window.specs.Quick.{quick_adapt_of}
use Rattle.window.specs.Cases.{add_to_tally_of, count_newly_of, respond_of}
use Rattle.window.specs.Adjust.{adjust_of}
use Rattle.window.specs.declared.Settings.{Settings}
use Rattle.window.specs.declared.Window.{Window}
use Rattle.window.specs.declared.Delayed.{Delayed}
use Rattle.window.specs.declared.Adapted.{Adapted}
use Rattle.window.specs.Sample.{Sample}

-- "if it fired, stop. Then by M flag and delay" one of the four cases, and the adjustment
unfoldable pub go_on_of : Settings → ℕ → ℕ → Bool → ℕ → Adapted → Window
go_on_of s time newly marked delay a =
    if_so a.fired a.window (adjust_of s time (respond_of s time newly marked delay a.window))

-- "quick adapt(loss no, the M flag, delay)", and on
unfoldable pub react_of : Settings → ℕ → ℕ → Bool → ℤ → Delayed → Window
react_of s time newly marked in_flight d =
    go_on_of s time newly marked d.delay (quick_adapt_of s time false marked d.delay in_flight d.window)

-- "ACK, ledger step first: add newly = 256·f to ignored, received, achieved; sample; filter; quick adapt"
unfoldable pub ack_of : Settings → ℕ → ℕ → Bool → Sample → ℤ → Window → Window
ack_of s time newly marked sample in_flight w =
    react_of s time newly marked in_flight (measure_of s marked sample (count_newly_of newly w))

-- "if not fired cwnd = max(cwnd - size, MTU)"
unfoldable pub shrink_of : Settings → ℕ → Adapted → Window
shrink_of s size a = if_so a.fired a.window (with_cwnd (max (a.window.cwnd - size) s.mtu) a.window)

-- "ignored += size, trigger on, quick adapt(loss yes, M set, 0)". "Loss (H): as trimmed, without sample or feed."
unfoldable pub loss_of : Settings → ℕ → ℕ → ℤ → Window → Window
loss_of s time size in_flight w =
    shrink_of s size (quick_adapt_of s time true true 0 in_flight (with_trigger on (with_ignored (add_to_tally_of w.ignored size) w)))

-- "feed config_base_rtt"
unfoldable pub feed_trimmed_of : Settings → Window → Window
feed_trimmed_of s w = with_avg (update_delay_of w.avg s.config_base_rtt) w

-- "0 trimmed, 1 trimmed at the last hop"
unfoldable pub is_trimmed : ℕ → Bool
is_trimmed reason = leb reason trimmed_last_hop

-- "NACK reasons: 0 trimmed, 1 trimmed at the last hop, 2 other. All: .. sample and base. 0 and 1 also: feed config_base_rtt, .."
unfoldable pub nack_of : Settings → ℕ → ℕ → ℕ → Sample → ℤ → Window → Window
nack_of s time size reason sample in_flight w =
    let v = update_base_rtt_of s sample w in
    if_so (is_trimmed reason) (loss_of s time size in_flight (feed_trimmed_of s v)) v
