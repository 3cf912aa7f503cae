-- Document 01, "Quick adapt (H)": UET 3.6.13.6, quick_adapt, as this house has it.
-- Assumes nothing.
use Rattle.std.specs.Prelude.{Bool, true, false, not, ◌&&◌, ◌||◌, ℕ, ◌+◌, max, ltb, eqb, ℤ, pos, negsuc}
use Rattle.rules.specs.Branch.{if_so}
use Rattle.rules.specs.Mode.{off, is_on}
use Rattle.window.specs.Fields.{with_cwnd, with_achieved, with_ignored, with_bytes_to_ignore, with_fi_count}
use Rattle.window.specs.Fields.{with_fast, with_trigger, with_qa_end}
use Rattle.window.specs.declared.Settings.{Settings}
use Rattle.window.specs.declared.Window.{Window}
use Rattle.window.specs.declared.Adapted.{Adapted}

-- max(in-flight, 0)
abbrev pub above_zero : ℤ → ℕ
above_zero (pos n) = n
above_zero (negsuc n) = 0

-- "fires if end is not 0, M set, (trigger or loss or delay > qa_threshold) and achieved < cwnd"
unfoldable pub fires_of : Settings → Bool → Bool → ℕ → Window → Bool
fires_of s loss marked delay w =
    not (eqb w.qa_end 0)
    && marked
    && (is_on w.trigger || loss || ltb s.qa_threshold delay)
    && ltb w.achieved w.cwnd

-- "cwnd = max(achieved, MTU), bytes_to_ignore = max(in-flight, 0), ignored 0, trigger off, mode off, fi_count 0"
unfoldable pub fire_of : Settings → ℤ → Window → Window
fire_of s in_flight w =
    with_cwnd (max w.achieved s.mtu)
    (with_bytes_to_ignore (above_zero in_flight) (with_ignored 0 (with_trigger off (with_fast off (with_fi_count 0 w)))))

-- "Fired or not: achieved 0, end = now + base + target."
unfoldable pub restart_of : Settings → ℕ → Window → Window
restart_of s time w = with_achieved 0 (with_qa_end (time + w.base + s.target_qdelay) w)

-- "nothing if disabled or now < end. Else fires if ..: .. Fired or not: .."
unfoldable pub quick_adapt_of : Settings → ℕ → Bool → Bool → ℕ → ℤ → Window → Adapted
quick_adapt_of s time loss marked delay in_flight w =
    if_so (is_on s.quick_adapt_off || ltb time w.qa_end) (record { window = w; fired = false })
    (if_so (fires_of s loss marked delay w)
    (record { window = restart_of s time (fire_of s in_flight w); fired = true })
    (record { window = restart_of s time w; fired = false }))
