-- Document 01, "The window, in order": the four cases by M flag and delay, under the names that UET 3.6.13.6 gives their rules.
-- Assumes nothing.
use Rattle.std.specs.Prelude.{Bool, not, ◌&&◌, ℕ, ◌+◌, ◌-◌, ◌*◌, ◌/◌, min, max, ltb, leb}
use Rattle.rules.specs.Branch.{if_so, if_lt}
use Rattle.rules.specs.Mode.{off, on, is_on}
use Rattle.window.specs.Limits.{parts, tally_stop, inc_stop, near_part, max_wnd_of}
use Rattle.window.specs.Delays.{avg_delay_of}
use Rattle.window.specs.Fields.{with_cwnd, with_inc_bytes, with_received, with_achieved, with_ignored, with_fi_count}
use Rattle.window.specs.Fields.{with_fast, with_last_dec}
use Rattle.window.specs.declared.Settings.{Settings}
use Rattle.window.specs.declared.Window.{Window}

-- "received, achieved and ignored bytes and fi_count stop at 2^40"
abbrev pub add_to_tally_of : ℕ → ℕ → ℕ
add_to_tally_of x n = min (x + n) tally_stop

-- "add newly = 256·f to ignored, received, achieved"
unfoldable pub count_newly_of : ℕ → Window → Window
count_newly_of newly w =
    with_ignored (add_to_tally_of w.ignored newly)
    (with_received (add_to_tally_of w.received newly) (with_achieved (add_to_tally_of w.achieved newly) w))

-- "mode off, fi_count 0"
unfoldable pub leave_fast_mode_of : Window → Window
leave_fast_mode_of w = with_fast off (with_fi_count 0 w)

-- "cwnd += newly up to MaxWnd", which is max_wnd by request M-101: "every clamp, fast mode's too, uses it"
unfoldable pub raise_cwnd_of : Settings → ℕ → Window → Window
raise_cwnd_of s newly w = with_cwnd (min (w.cwnd + newly) (max_wnd_of s w.base)) w

-- "near means delay ≤ base/8"
unfoldable pub is_near : ℕ → ℕ → Bool
is_near delay base = leb delay (base / near_part)

-- "Near and fast mode on: cwnd += newly up to MaxWnd. Near and off: fi_count += newly; if above cwnd, mode on and cwnd += newly likewise.
-- Not near: mode off, fi_count 0."
unfoldable pub fast_increase_of : Settings → ℕ → ℕ → Window → Window
fast_increase_of s newly delay w =
    let more = add_to_tally_of w.fi_count newly in
    if_so (is_near delay w.base)
    (if_so (is_on w.fast) (raise_cwnd_of s newly w)
    (if_lt w.cwnd more
    (with_fast on (with_fi_count more (raise_cwnd_of s newly w)))
    (with_fi_count more w)))
    (leave_fast_mode_of w)

-- "inc_bytes stops at 2^60"
unfoldable pub add_inc_bytes_of : ℕ → Window → Window
add_inc_bytes_of n w = with_inc_bytes (min (w.inc_bytes + n) inc_stop) w

-- fast increase, then "If the mode is now off, inc_bytes += alpha·newly·(target - delay)."
unfoldable pub proportional_increase_of : Settings → ℕ → ℕ → Window → Window
proportional_increase_of s newly delay w =
    let v = fast_increase_of s newly delay w in
    if_so (is_on v.fast) v (add_inc_bytes_of (s.alpha * newly * (s.target_qdelay - delay)) v)

-- "mode off, fi_count 0, inc_bytes += fi·newly"
unfoldable pub fair_increase_of : Settings → ℕ → Window → Window
fair_increase_of s newly w = add_inc_bytes_of (s.fi * newly) (leave_fast_mode_of w)

-- "cut = gamma·(avg - target)/avg, factor = max(1,024 - cut, max_md_jump)"
unfoldable pub factor_of : Settings → ℕ → ℕ
factor_of s avg = max (parts - s.gamma * (avg - s.target_qdelay) / avg) s.max_md_jump

-- "unless ignored < bytes_to_ignore, if avg > target and now - last_dec > base"
unfoldable pub may_decrease : Settings → ℕ → Window → Bool
may_decrease s time w =
    not (ltb w.ignored w.bytes_to_ignore)
    && ltb s.target_qdelay (avg_delay_of w.avg)
    && ltb w.base (time - w.last_dec)

-- "mode off, fi_count 0; then, .. if ..: cwnd = max(cwnd·factor/1,024, MTU), last_dec = now"
unfoldable pub multiplicative_decrease_of : Settings → ℕ → Window → Window
multiplicative_decrease_of s time w =
    let v = leave_fast_mode_of w in
    if_so (may_decrease s time w)
    (with_cwnd (max (w.cwnd * factor_of s (avg_delay_of w.avg) / parts) s.mtu) (with_last_dec time v))
    v

-- "Then by M flag and delay": clear, and set; in each delay < target, and delay ≥ target
unfoldable pub respond_of : Settings → ℕ → ℕ → Bool → ℕ → Window → Window
respond_of s time newly marked delay w =
    if_so (not marked)
    (if_lt delay s.target_qdelay (proportional_increase_of s newly delay w) (fair_increase_of s newly w))
    (if_lt delay s.target_qdelay (leave_fast_mode_of w) (multiplicative_decrease_of s time w))
