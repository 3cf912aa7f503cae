-- Document 01, "Samples and delay". The names of the rules are those of UET 3.6.13.6.
-- Assumes nothing.
use Rattle.std.specs.Prelude.{◌≡◌, Bool, not, ◌&&◌, ℕ, ◌+◌, ◌-◌, ◌*◌, ◌/◌, ◌≤◌, min, ltb, leb, eqb}
use Rattle.rules.specs.Branch.{if_so, if_lt}
use Rattle.window.specs.Limits.{parts, sample_most, avg_keeps, avg_shares, feed_part, feed_reach, max_wnd_of}
use Rattle.window.specs.Fields.{with_cwnd, with_base, with_avg}
use Rattle.window.specs.declared.Settings.{Settings}
use Rattle.window.specs.declared.Window.{Window}
use Rattle.window.specs.declared.Delayed.{Delayed}
use Rattle.window.specs.Sample.{Sample}
use Rattle.std.specs.Prelude.{Some, None}
use Rattle.window.specs.declared.Sampling.{Sampling}
use Rattle.window.specs.declared.Sampling.TheVariants.{Taken, Cut, Gone, Ambiguous, NotPositive}

-- "its resend count is 0 with the retx flag clear, or 1 with it set"
unfoldable pub one_send : ℕ → Bool → Bool
one_send resent retx = if_so retx (eqb resent 1) (eqb resent 0)

-- calculate_rtt: "A sample exists if the trigger packet is flying or marked before the ACK, and its resend count .., and
-- now - sent - service is at least 1." "A sample above 2^20 counts as 2^20."
unfoldable pub sample_of : Bool → ℕ → Bool → ℕ → ℕ → ℕ → Sample
sample_of outstanding resent retx time sent service =
    if_so outstanding
    (if_so (one_send resent retx)
    (if_lt (sent + service) time (Some (min (time - (sent + service)) sample_most)) None)
    None)
    None

-- "A sample above 2^20 counts as 2^20", and by request M-103 it is told from one that is not cut
unfoldable pub take_sample_of : ℕ → Sampling
take_sample_of ticks = if_lt sample_most ticks Cut (Taken ticks)

-- request M-103: "a sample, a sample cut to 2^20, packet gone, ambiguous resend, not positive; tested in the order gone, ambiguous,
-- not positive"
unfoldable pub sampling_of : Bool → ℕ → Bool → ℕ → ℕ → ℕ → Sampling
sampling_of outstanding resent retx time sent service =
    if_so outstanding
    (if_so (one_send resent retx)
    (if_lt (sent + service) time (take_sample_of (time - (sent + service))) NotPositive)
    Ambiguous)
    Gone

-- what the window's rules use of it: 01's sample (`same_sample`), so "Window rules are unchanged"
unfoldable pub sample_in : Sampling → Sample
sample_in (Taken t) = Some t
sample_in Cut = Some sample_most
sample_in Gone = None
sample_in Ambiguous = None
sample_in NotPositive = None

-- get_avg_delay: "held in 1/1,024 tick, read by dividing by 1,024"
unfoldable pub avg_delay_of : ℕ → ℕ
avg_delay_of avg = avg / parts

-- "Fed x: avg = (79·avg + 1,024·x) / 80"
unfoldable pub update_delay_of : ℕ → ℕ → ℕ
update_delay_of avg x = (avg_keeps * avg + parts * x) / avg_shares

-- "For an ACK x = delay, but x = base/4 when unmarked and target < delay ≤ 5·base."
unfoldable pub feed_of : ℕ → ℕ → Bool → ℕ → ℕ
feed_of target base marked delay =
    if_so (not marked && ltb target delay && leb delay (feed_reach * base)) (base / feed_part) delay

-- "base = min(base, sample)"; request M-101: where base falls max_wnd is worked out anew, "and cwnd is clamped to it at that moment".
-- Where it does not, cwnd stands under it already
unfoldable pub update_base_rtt_of : Settings → Sample → Window → Window
update_base_rtt_of s (Some t) w =
    let base = min w.base t in
    with_cwnd (min w.cwnd (max_wnd_of s base)) (with_base base w)
update_base_rtt_of s None w = w

-- "delay = sample - base", and the filter is fed. "No sample on an ACK (H): delay is the average, the filter is not fed."
unfoldable pub measure_of : Settings → Bool → Sample → Window → Delayed
measure_of s marked (Some t) w =
    let v = update_base_rtt_of s (Some t) w in
    let delay = t - v.base in
    record {
      window = with_avg (update_delay_of w.avg (feed_of s.target_qdelay v.base marked delay)) v;
      delay = delay;
    }
measure_of s marked None w = record { window = w; delay = avg_delay_of w.avg }

-- a sample is at least 1 and at most 2^20
pub record Sampled (p : Sample) : Type 0 where
  pub low : (t : ℕ) → p ≡ Some t → 1 ≤ t
  pub high : (t : ℕ) → p ≡ Some t → t ≤ sample_most
