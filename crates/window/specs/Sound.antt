-- The window's part of refusal 2: when a window is sound at a clock. And the fresh window.
-- Assumes nothing.
use Rattle.std.specs.Prelude.{◌≡◌, Bool, ◌&&◌, ℕ, ◌-◌, ◌≤◌, ◌<◌}
use Rattle.rules.specs.Test.{inside}
use Rattle.rules.specs.Mode.{off, on, is_mode}
use Rattle.window.specs.Limits.{avg_most, inc_stop, tally_stop, later_end, max_wnd_of}
use Rattle.window.specs.declared.Settings.{Settings}
use Rattle.window.specs.declared.Window.{Window}

-- "Number 2 is: .. numbers outside the bounds here; cwnd outside MTU..MaxWnd; base outside 1..config_base_rtt; .. delay average over
-- 2^30; .. quick-adapt end .. of 2^49 or more; a last-adjust or last-decrease time past the clock"; by request M-101 cwnd is tested
-- against max_wnd
unfoldable pub sound_window : Settings → ℕ → Window → Bool
sound_window s clock w =
    inside 1 w.base s.config_base_rtt
    && inside s.mtu w.cwnd (max_wnd_of s w.base)
    && inside 0 w.avg avg_most
    && inside 0 w.inc_bytes inc_stop
    && inside 0 w.received tally_stop
    && inside 0 w.achieved tally_stop
    && inside 0 w.ignored tally_stop
    && inside 0 w.bytes_to_ignore s.maxwnd
    && inside 0 w.fi_count tally_stop
    && inside 0 w.qa_end (later_end - 1)
    && inside 0 w.last_adjust clock
    && inside 0 w.last_dec clock
    && is_mode w.fast
    && is_mode w.trigger

-- the same as facts
pub record SoundWindow (s : Settings) (clock : ℕ) (w : Window) : Type 0 where
  pub cwnd_low : s.mtu ≤ w.cwnd
  pub cwnd_high : w.cwnd ≤ max_wnd_of s w.base
  pub base_low : 1 ≤ w.base
  pub base_high : w.base ≤ s.config_base_rtt
  pub avg_high : w.avg ≤ avg_most
  pub inc_high : w.inc_bytes ≤ inc_stop
  pub received_high : w.received ≤ tally_stop
  pub achieved_high : w.achieved ≤ tally_stop
  pub ignored_high : w.ignored ≤ tally_stop
  pub ignore_high : w.bytes_to_ignore ≤ s.maxwnd
  pub fi_high : w.fi_count ≤ tally_stop
  pub end_high : w.qa_end < later_end
  pub adjust_high : w.last_adjust ≤ clock
  pub dec_high : w.last_dec ≤ clock
  pub fast_high : w.fast ≤ on
  pub trigger_high : w.trigger ≤ on

-- a result: which window it is, and that it is sound
pub record Kept (s : Settings) (clock : ℕ) (v r : Window) : Type 0 where
  pub is : r ≡ v
  pub sound : SoundWindow s clock r

-- "A fresh state has .. all times and tallies 0, modes off, cwnd = MaxWnd, base = config_base_rtt"
unfoldable pub fresh_of : Settings → Window
fresh_of s =
    record {
      cwnd = s.maxwnd;
      base = s.config_base_rtt;
      avg = 0;
      inc_bytes = 0;
      received = 0;
      achieved = 0;
      ignored = 0;
      bytes_to_ignore = 0;
      fi_count = 0;
      fast = off;
      trigger = off;
      qa_end = 0;
      last_adjust = 0;
      last_dec = 0;
    }
