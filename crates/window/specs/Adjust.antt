-- Document 01, "The window, in order": the adjustment. UET 3.6.13.6, fulfill_adjustment, and the test before it in 3.6.13.5, OnACK.
-- Assumes nothing.
use Rattle.std.specs.Prelude.{Bool, ◌||◌, ℕ, ◌+◌, ◌-◌, ◌/◌, min, leb}
use Rattle.rules.specs.Branch.{if_so}
use Rattle.window.specs.Limits.{max_wnd_of}
use Rattle.window.specs.Fields.{with_cwnd, with_inc_bytes, with_received, with_last_adjust}
use Rattle.window.specs.declared.Settings.{Settings}
use Rattle.window.specs.declared.Window.{Window}

-- "received ≥ adjust_bytes"
unfoldable pub enough_received : Settings → Window → Bool
enough_received s w = leb s.adjust_bytes w.received

-- "now - last_adjust ≥ adjust_period"
unfoldable pub period_passed : Settings → ℕ → Window → Bool
period_passed s time w = leb s.adjust_period (time - w.last_adjust)

-- "cwnd += inc_bytes/cwnd; .. cwnd += eta; clamp to max_wnd; inc_bytes and received 0"; extra is eta where the period has passed
unfoldable pub fulfill_adjustment_of : Settings → ℕ → Window → Window
fulfill_adjustment_of s extra w =
    with_cwnd (min (w.cwnd + w.inc_bytes / w.cwnd + extra) (max_wnd_of s w.base)) (with_inc_bytes 0 (with_received 0 w))

-- "if received ≥ adjust_bytes or now - last_adjust ≥ adjust_period: ..; if the period has passed, last_adjust = now and cwnd += eta"
unfoldable pub adjust_of : Settings → ℕ → Window → Window
adjust_of s time w =
    if_so (enough_received s w || period_passed s time w)
    (if_so (period_passed s time w)
    (with_last_adjust time (fulfill_adjustment_of s s.eta w))
    (fulfill_adjustment_of s 0 w))
    w
