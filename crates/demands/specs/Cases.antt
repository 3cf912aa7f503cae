-- Document 01, "Numbers to check by hand (settings E)": the cases P1 to P6, of the rules by themselves, as one list. Each has what the
-- definitions that the contracts cite give, and what 01 says. proofs/Cases shows that all agree. P7 to P10, which are events, stand in
-- `context_demands`.
-- Assumes nothing.
use Rattle.std.specs.Prelude.{Bool, true, false, ◌&&◌, List, [], ◌∷◌, ℕ, ◌+◌, ◌-◌, ◌*◌, eqb, Some, None}
use Rattle.rules.specs.Mode.{off}
use Rattle.window.specs.Limits.{parts}
use Rattle.window.specs.Fields.{with_cwnd, with_avg, with_inc_bytes, with_received}
use Rattle.window.specs.Sound.{fresh_of}
use Rattle.window.specs.Delays.{sample_of, measure_of}
use Rattle.window.specs.Cases.{factor_of, multiplicative_decrease_of, respond_of}
use Rattle.window.specs.Adjust.{adjust_of}
use Rattle.window.specs.Sample.{Sample}
use Rattle.window.specs.declared.Settings.{Settings}
use Rattle.window.specs.declared.Window.{Window}
use Rattle.window.specs.declared.Delayed.{Delayed}
use Rattle.ledger.specs.Steps.{held_of, newly_of}

-- what was got, and what is wanted
pub record Case : Type 0 where
  pub got : List ℕ
  pub wanted : List ℕ

abbrev pub case : List ℕ → List ℕ → Case
case got wanted = record { got = got; wanted = wanted }

unfoldable pub same : List ℕ → List ℕ → Bool
same [] [] = true
same [] (y ∷ ys) = false
same (x ∷ xs) [] = false
same (x ∷ xs) (y ∷ ys) = eqb x y && same xs ys

-- in each case what was got is what is wanted
unfoldable pub agree : List Case → Bool
agree [] = true
agree (c ∷ cs) = same c.got c.wanted && agree cs

-- "settings E = 4096, 614400, 96, 72, 4096, 1024, 224, 819, 512, 96, 32768, 288, PSN 0", and 256 EVs
unfoldable pub settings_e : Settings
settings_e =
    record {
      mtu = 4096;
      maxwnd = 614400;
      config_base_rtt = 96;
      target_qdelay = 72;
      fi = 4096;
      eta = 1024;
      alpha = 224;
      gamma = 819;
      max_md_jump = 512;
      adjust_period = 96;
      adjust_bytes = 32768;
      qa_threshold = 288;
      first_psn = 0;
      quick_adapt_off = off;
      ev_count = 256;
    }

-- a fresh window of these settings (base is 96), but for cwnd, the average in 1/1,024 tick, and inc_bytes
unfoldable pub window_of : ℕ → ℕ → ℕ → Window
window_of cwnd avg inc = with_cwnd cwnd (with_avg avg (with_inc_bytes inc (fresh_of settings_e)))

-- a sample as numbers: none where there is none
unfoldable pub ticks_of : Sample → List ℕ
ticks_of (Some t) = t ∷ []
ticks_of None = []

-- what a measured delay comes to: the delay, and the average afterwards
unfoldable pub measured_by : Delayed → List ℕ
measured_by d = d.delay ∷ d.window.avg ∷ []

unfoldable pub cases : List Case
cases =
    -- P1 "cwnd 307,200, inc_bytes 33,554,432: window 307,309 ..
    case ((adjust_of settings_e 95 (with_received 32768 (window_of 307200 0 33554432))).cwnd ∷ []) (307309 ∷ [])
    -- .. with the period passed 308,333"
    ∷ case ((adjust_of settings_e 96 (with_received 32768 (window_of 307200 0 33554432))).cwnd ∷ []) (308333 ∷ [])
    -- P2 "base 96, unmarked, delay 22, newly 8,192: inc_bytes +91,750,400"
    ∷ case (((respond_of settings_e 10 8192 false 22 (window_of 307200 0 33554432)).inc_bytes - 33554432) ∷ []) (91750400 ∷ [])
    -- P3 "cwnd 614,400, avg 144: cut 409, window 369,000 ..
    ∷ case
    ((parts - factor_of settings_e 144) ∷ (multiplicative_decrease_of settings_e 1000 (window_of 614400 (parts * 144) 0)).cwnd ∷ [])
    (409 ∷ 369000 ∷ [])
    -- .. avg 72: no cut"
    ∷ case ((multiplicative_decrease_of settings_e 1000 (window_of 614400 (parts * 72) 0)).cwnd ∷ []) (614400 ∷ [])
    -- P4 "held 16,777,214, count 3: 1,280 bytes" (and 3 is held) ..
    ∷ case (newly_of 3 16777214 ∷ held_of 3 16777214 ∷ []) (1280 ∷ 3 ∷ [])
    -- .. "Difference 8,388,608: old" (no bytes, and what was held stays)
    ∷ case (newly_of (7 + 8388608) 7 ∷ held_of (7 + 8388608) 7 ∷ []) (0 ∷ 7 ∷ [])
    -- P5 "avg 73,728, unmarked delay 100, base 96: 73,113" (a sample of 96 + 100)
    ∷ case (measured_by (measure_of settings_e false (Some 196) (window_of 614400 73728 0))) (100 ∷ 73113 ∷ [])
    -- P6 "sent 1,000, now 1,150, service 30, not resent: sample 120 ..
    ∷ case (ticks_of (sample_of true 0 false 1150 1000 30)) (120 ∷ [])
    -- .. Resent once, flag clear: none ..
    ∷ case (ticks_of (sample_of true 1 false 1150 1000 30)) []
    -- .. Resent twice, flag set: none."
    ∷ case (ticks_of (sample_of true 2 true 1150 1000 30)) []
    ∷ []
