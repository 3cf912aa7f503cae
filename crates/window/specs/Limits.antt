-- Document 01, "Numbers and their bounds": the numbers that the window's rules name.
-- Assumes nothing.
use Rattle.std.specs.Prelude.{ℕ, ◌*◌, ◌/◌, ◌^◌, max}
use Rattle.window.specs.declared.Settings.{Settings}

-- "Settings: MTU 1,024..16,384"
abbrev pub mtu_least : ℕ
mtu_least = 1024

abbrev pub mtu_most : ℕ
mtu_most = 16384

-- "MaxWnd MTU..2^26", "adjust_bytes 1..2^26"
abbrev pub window_most : ℕ
window_most = 2 ^ 26

-- "config_base_rtt 1..2^14; target_qdelay 1..2^14"
abbrev pub delay_most : ℕ
delay_most = 2 ^ 14

-- "fi 0..2^20; eta 0..2^20"
abbrev pub gain_most : ℕ
gain_most = 2 ^ 20

-- "alpha 0..2^14"
abbrev pub alpha_most : ℕ
alpha_most = 2 ^ 14

-- "gamma and max_md_jump 0..1,024 (parts of 1,024)"; the average is held in 1/1,024 tick
abbrev pub parts : ℕ
parts = 1024

-- "adjust_period 1..2^20"
abbrev pub period_most : ℕ
period_most = 2 ^ 20

-- "qa_threshold 0..2^20"
abbrev pub threshold_most : ℕ
threshold_most = 2 ^ 20

-- "Time is in ticks of 128 ns, below 2^48"
abbrev pub time_end : ℕ
time_end = 2 ^ 48

-- "quick-adapt end or an EV time of 2^49 or more" does not hold together
abbrev pub later_end : ℕ
later_end = 2 ^ 49

-- "a sample above 2^20 counts as 2^20"
abbrev pub sample_most : ℕ
sample_most = 2 ^ 20

-- "delay average over 2^30" does not hold together
abbrev pub avg_most : ℕ
avg_most = 2 ^ 30

-- "received, achieved and ignored bytes and fi_count stop at 2^40"
abbrev pub tally_stop : ℕ
tally_stop = 2 ^ 40

-- "inc_bytes stops at 2^60"
abbrev pub inc_stop : ℕ
inc_stop = 2 ^ 60

-- newly = 256 · f, and f is below 2^23
abbrev pub newly_end : ℕ
newly_end = 2 ^ 31

-- "NACK reasons: 0 trimmed, 1 trimmed at the last hop, 2 other"
abbrev pub trimmed_last_hop : ℕ
trimmed_last_hop = 1

-- "near means delay ≤ base/8"
abbrev pub near_part : ℕ
near_part = 8

-- "Fed x: avg = (79·avg + 1,024·x) / 80": of 80 shares the old average keeps 79
abbrev pub avg_keeps : ℕ
avg_keeps = 79

abbrev pub avg_shares : ℕ
avg_shares = 80

-- "x = base/4 when unmarked and target < delay ≤ 5·base"
abbrev pub feed_part : ℕ
feed_part = 4

abbrev pub feed_reach : ℕ
feed_reach = 5

-- request M-101: "max_wnd = max(MTU, MaxWnd·base/config_base_rtt), rounded down", which every clamp of cwnd uses, for a base round trip
unfoldable pub max_wnd_of : Settings → ℕ → ℕ
max_wnd_of s base = max s.mtu (s.maxwnd * base / s.config_base_rtt)
