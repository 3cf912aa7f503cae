-- What the rules use of max_wnd: the one file that opens its definition.
-- Assumes nothing.
use mathlib.Core.Path.{◌≡◌}
use Prim.Native.Nat.{ℕ, ◌*◌, ◌/◌, ◌^◌, ◌≤◌}
use native.Mathlib.Nat.{mul-div_cancel}
use native.Mathlib.Omega.{arith}
use Rattle.window.specs.Limits.{window_most, delay_most, max_wnd_of}
use Rattle.window.specs.Range.{InRange}
use Rattle.window.specs.declared.Settings.{Settings}
use Rattle.window.proofs.Numbers.{product, share}

module _ {s : Settings} (R : InRange s) where
  -- it leaves room for one packet
  pub max_wnd_low : (base : ℕ) → s.mtu ≤ max_wnd_of s base
  unfolding max_wnd_of
  max_wnd_low base = omega arith

  -- it is at most MaxWnd
  pub max_wnd_high : (base : ℕ) → base ≤ s.config_base_rtt → max_wnd_of s base ≤ s.maxwnd
  unfolding max_wnd_of
  max_wnd_high base h = omega (arith, R.maxwnd_low, share s.maxwnd base s.config_base_rtt h)

  -- at the base of a fresh state it is MaxWnd
  pub max_wnd_fresh : s.maxwnd ≤ max_wnd_of s s.config_base_rtt
  unfolding max_wnd_of
  max_wnd_fresh =
      let all : s.maxwnd * s.config_base_rtt / s.config_base_rtt ≡ s.maxwnd = mul-div_cancel s.maxwnd R.rtt_low in
      omega (arith, all)

  -- the product on the way to it
  pub max_wnd_fits : (base : ℕ) → base ≤ s.config_base_rtt → s.maxwnd * base ≤ 2 ^ 40
  max_wnd_fits base h = product window_most delay_most (2 ^ 40) R.maxwnd_high (omega (arith, R.rtt_high)) tt
