-- When 01 says that a round-trip sample exists, over the ring before the event, and what the delay average is after it. The filter is
-- written down here once more, in 01's words, and not taken from the window's rules: that both are the same is proved.
-- Assumes nothing.
use Rattle.std.specs.Prelude.{◌≡◌, ◌⊎◌, Bool, true, false, not, ◌&&◌, ℕ, ◌+◌, ◌-◌, ◌*◌, ◌/◌, ◌≤◌, min, leb, ltb}
use Rattle.rules.specs.Branch.{if_so}
use Rattle.window.specs.Limits.{sample_most}
use Rattle.ledger.specs.Packets.{flying_status, marked_status}
use Rattle.ledger.specs.Ring.{packet_of}
use Rattle.sender.specs.World.{World, ring_of}
use Rattle.demands.specs.Events.{Event, new_data, send, ack, nack, loss, path}

-- "its resend count is 0 with the retx flag clear, or 1 with it set"
abbrev pub OneCopy : ℕ → Bool → Type 0
OneCopy resent retx = ((resent ≡ 0) × (retx ≡ false)) ⊎ ((resent ≡ 1) × (retx ≡ true))

-- "A sample exists if the trigger packet is flying or marked before the ACK, and its resend count .., and now - sent - service is at least
-- 1." "A sample above 2^20 counts as 2^20."
pub record SampleIs (w : World) (psn : ℕ) (retx : Bool) (time service ticks : ℕ) : Type 0 where
  pub outstanding : ((packet_of w.state.flow (ring_of w) psn).status ≡ flying_status)
      ⊎ ((packet_of w.state.flow (ring_of w) psn).status ≡ marked_status)
  pub copy : OneCopy (packet_of w.state.flow (ring_of w) psn).resent retx
  pub positive : (packet_of w.state.flow (ring_of w) psn).sent + service + 1 ≤ time
  pub ticks_is : ticks ≡ min (time - (packet_of w.state.flow (ring_of w) psn).sent - service) sample_most

-- 01 has no sample: an ACK's is of its trigger packet, a NACK's of its own packet, with service 0
abbrev pub NoSample : Event → World → Type 0
NoSample (new_data time bytes) w = Unit {0}
NoSample (send time a) w = Unit {0}
NoSample (ack time a) w = (ticks : ℕ) → SampleIs w a.trigger a.retx time a.service ticks → ⊥
NoSample (nack time a) w = (ticks : ℕ) → SampleIs w a.psn a.retx time 0 ticks → ⊥
NoSample (loss time a) w = Unit {0}
NoSample (path time) w = Unit {0}

-- ---- the delay average

-- "Average (H): held in 1/1,024 tick .. Fed x: avg = (79·avg + 1,024·x) / 80."
abbrev pub fed : ℕ → ℕ → ℕ
fed avg x = (79 * avg + 1024 * x) / 80

-- "For an ACK x = delay, but x = base/4 when unmarked and target < delay ≤ 5·base."
abbrev pub ack_feed : ℕ → ℕ → Bool → ℕ → ℕ
ack_feed target base marked delay = if_so (not marked && ltb target delay && leb delay (5 * base)) (base / 4) delay

-- "base = min(base, sample); delay = sample - base", and the filter is fed
abbrev pub fed_sample : World → Bool → ℕ → ℕ
fed_sample w marked ticks =
    let base = min w.state.window.base ticks in
    fed w.state.window.avg (ack_feed w.state.settings.target_qdelay base marked (ticks - base))

-- what the average is after an accepted event in a world
abbrev pub AverageIs : Event → World → ℕ → Type 0
AverageIs (new_data time bytes) w avg = avg ≡ w.state.window.avg
AverageIs (send time a) w avg = avg ≡ w.state.window.avg
-- an ACK with a sample feeds it; "No sample on an ACK (H): delay is the average, the filter is not fed."
AverageIs (ack time a) w avg =
    ((ticks : ℕ) → SampleIs w a.trigger a.retx time a.service ticks → avg ≡ fed_sample w a.marked ticks)
    × (((ticks : ℕ) → SampleIs w a.trigger a.retx time a.service ticks → ⊥) → avg ≡ w.state.window.avg)
-- "NACK reasons: 0 trimmed, 1 trimmed at the last hop, 2 other. .. 0 and 1 also: feed config_base_rtt", whatever the sample
AverageIs (nack time a) w avg =
    ((a.reason ≡ 0) ⊎ (a.reason ≡ 1) → avg ≡ fed w.state.window.avg w.state.settings.config_base_rtt)
    × (a.reason ≡ 2 → avg ≡ w.state.window.avg)
-- "Loss (H): as trimmed, without sample or feed."
AverageIs (loss time a) w avg = avg ≡ w.state.window.avg
AverageIs (path time) w avg = avg ≡ w.state.window.avg
