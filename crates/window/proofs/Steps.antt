-- What a step with a sample or without one comes to: the two cases of the enum, from the fact that the match leaves.
-- Assumes nothing.
use mathlib.Core.Path.{◌≡◌, refl}
use mathlib.Core.Bool.{Bool, not, ◌&&◌}
use Prim.Native.Nat.{ℕ, ◌-◌, ◌*◌, ◌≤◌, min}
use lib.Dec.{ltb, leb}
use native.Mathlib.Omega.{arith}
use Rattle.rules.specs.Branch.{so_both}
use Rattle.window.specs.Limits.{feed_reach, max_wnd_of}
use Rattle.window.specs.Fields.{with_cwnd, with_base, with_avg}
use Rattle.window.specs.Delays.{avg_delay_of, update_delay_of, feed_of, update_base_rtt_of, measure_of}
use Rattle.window.specs.declared.Settings.{Settings}
use Rattle.window.specs.declared.Window.{Window}
use Rattle.window.specs.Sample.{Sample}
use Rattle.std.specs.Prelude.{Some, None}

module _ (s : Settings) (sample : Sample) (w : Window) where
  pub update_base_rtt_none : sample ≡ None → w ≡ update_base_rtt_of s sample w
  unfolding update_base_rtt_of
  update_base_rtt_none e = simp e

  -- a sample that does not lower the base leaves the window as it was
  pub update_base_rtt_same :
      (t : ℕ) → sample ≡ Some t → w.base ≤ t → w.cwnd ≤ max_wnd_of s w.base → w ≡ update_base_rtt_of s sample w
  unfolding update_base_rtt_of
  update_base_rtt_same t e f g =
      let base : min w.base t ≡ w.base = omega arith in
      let cwnd : min w.cwnd (max_wnd_of s w.base) ≡ w.cwnd = omega arith in
      simp (e, base, cwnd)

  pub update_base_rtt_by :
      (t top cwnd : ℕ) → sample ≡ Some t → t ≤ w.base → top ≡ max_wnd_of s t → cwnd ≡ min w.cwnd top →
      with_cwnd cwnd (with_base t w) ≡ update_base_rtt_of s sample w
  unfolding update_base_rtt_of
  update_base_rtt_by t top cwnd e f g h =
      let base : min w.base t ≡ t = omega arith in
      simp (e, base, h, g)

  module _ (marked : Bool) where
    pub measure_none :
        (d : ℕ) → sample ≡ None → d ≡ avg_delay_of w.avg →
        record { window = w; delay = d } ≡ measure_of s marked sample w
    unfolding measure_of
    measure_none d e f = simp (e, f)

    pub measure_by :
        (t : ℕ) (v : Window) (x avg : ℕ) → sample ≡ Some t → v ≡ update_base_rtt_of s (Some t) w →
        x ≡ feed_of s.target_qdelay v.base marked (t - v.base) → avg ≡ update_delay_of w.avg x →
        record { window = with_avg avg v; delay = t - v.base } ≡ measure_of s marked sample w
    unfolding measure_of
    measure_by t v x avg e f g h = simp (e, h, g, f)

-- the base that a sample leaves
pub update_base_rtt_base : (s : Settings) (t : ℕ) (w : Window) → (update_base_rtt_of s (Some t) w).base ≡ min w.base t
unfolding update_base_rtt_of
update_base_rtt_base s t w = refl

-- what is fed is no more than both the base and the delay are
pub feed_under :
    (target base : ℕ) (marked : Bool) (delay k : ℕ) → base ≤ k → delay ≤ k →
    feed_of target base marked delay ≤ k
unfolding feed_of
feed_under target base marked delay k b d =
    so_both (λ x. x ≤ k) (not marked && ltb target delay && leb delay (feed_reach * base)) _ _ (λ e. omega arith) (λ e. d)
