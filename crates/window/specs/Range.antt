-- Refusal 1: "a setting is outside its range". The ranges, row by row as document 01 gives them, and the number of EVs by request M-110.
-- Assumes nothing.
use Rattle.std.specs.Prelude.{◌≡◌, ℕ, ◌≤◌, ◌<◌, Bool, true, ◌&&◌, ◌||◌, ltb, eqb}
use Rattle.rules.specs.Test.{inside}
use Rattle.rules.specs.Mode.{on, is_mode}
use Rattle.serial.specs.Psn.{psns}
use Rattle.window.specs.Limits.{mtu_least, mtu_most, window_most, delay_most, gain_most, alpha_most, parts, period_most, threshold_most}
use Rattle.window.specs.declared.Settings.{Settings}

-- request M-110: "Allow any power of two from 256 to 4,096"
unfoldable pub is_ev_count : ℕ → Bool
is_ev_count n = eqb n 256 || eqb n 512 || eqb n 1024 || eqb n 2048 || eqb n 4096

-- behind the ranges are "the first PSN": "PSN: 32 bits", the flag of quick adapt, and the number of EVs
unfoldable pub in_range : Settings → Bool
in_range s =
    inside mtu_least s.mtu mtu_most
    && inside s.mtu s.maxwnd window_most
    && inside 1 s.config_base_rtt delay_most
    && inside 1 s.target_qdelay delay_most
    && inside 0 s.fi gain_most
    && inside 0 s.eta gain_most
    && inside 0 s.alpha alpha_most
    && inside 0 s.gamma parts
    && inside 0 s.max_md_jump parts
    && inside 1 s.adjust_period period_most
    && inside 1 s.adjust_bytes window_most
    && inside 0 s.qa_threshold threshold_most
    && ltb s.first_psn psns
    && is_mode s.quick_adapt_off
    && is_ev_count s.ev_count

-- the same as facts
pub record InRange (s : Settings) : Type 0 where
  pub mtu_low : mtu_least ≤ s.mtu
  pub mtu_high : s.mtu ≤ mtu_most
  pub maxwnd_low : s.mtu ≤ s.maxwnd
  pub maxwnd_high : s.maxwnd ≤ window_most
  pub rtt_low : 1 ≤ s.config_base_rtt
  pub rtt_high : s.config_base_rtt ≤ delay_most
  pub target_low : 1 ≤ s.target_qdelay
  pub target_high : s.target_qdelay ≤ delay_most
  pub fi_high : s.fi ≤ gain_most
  pub eta_high : s.eta ≤ gain_most
  pub alpha_high : s.alpha ≤ alpha_most
  pub gamma_high : s.gamma ≤ parts
  pub jump_high : s.max_md_jump ≤ parts
  pub period_low : 1 ≤ s.adjust_period
  pub period_high : s.adjust_period ≤ period_most
  pub bytes_low : 1 ≤ s.adjust_bytes
  pub bytes_high : s.adjust_bytes ≤ window_most
  pub threshold_high : s.qa_threshold ≤ threshold_most
  pub psn_high : s.first_psn < psns
  pub off_high : s.quick_adapt_off ≤ on
  pub evs_allowed : is_ev_count s.ev_count ≡ true
