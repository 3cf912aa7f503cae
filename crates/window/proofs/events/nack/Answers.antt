-- `nack` gives the window after a NACK and keeps it sound: trimmed ones by `loss`, and other reasons.
use mir.Facts.{to_z-of_z}
use native.Mathlib.Omega.{arith}
use Rattle.rules.specs.Branch.{branches}
use Rattle.window.specs.Events.{feed_trimmed_of, nack_of}
use Rattle.window.proofs.Keeps.{sound_at, kept, sound_update_base_rtt, sound_feed_trimmed, sound_nack}
use Rattle.window.proofs.events.nack.Goals as goal

pub update_delay-requires : goal.update_delay-requires
update_delay-requires c =
    let q = c.requires in
    let L = sound_at c.update_base_rtt-v.ensures (sound_update_base_rtt q.in_range _ q.sampled q.sound_window) in
    omega arith

pub loss-requires : goal.loss-requires
unfolding feed_trimmed_of
loss-requires c =
    let q = c.requires in
    let L = sound_at c.update_base_rtt-v.ensures (sound_update_base_rtt q.in_range _ q.sampled q.sound_window) in
    let F = rw (← c.update_delay.ensures) at (sound_feed_trimmed q.in_range L) in
    record {
      in_range = q.in_range;
      sound_window = F;
      size_le_mtu = rw (to_z-of_z c.ranges.in_flight) q.size_le_mtu;
    }

pub returns-then-is_trimmed : goal.returns-then-is_trimmed
unfolding nack_of feed_trimmed_of
returns-then-is_trimmed c =
    let q = c.requires in
    let loses = rw (to_z-of_z c.ranges.in_flight) at c.loss.ensures.is in
    kept
    (simp (← c.is_trimmed.ensures, ← c.update_base_rtt-v.ensures, ← c.update_delay.ensures, ← loses)
    (search (branches, c.if-is_trimmed.true)))
    (sound_nack q.in_range _ q.size_le_mtu.1 q.size_le_mtu.2 _ _ q.sampled q.sound_window)

pub returns : goal.returns
unfolding nack_of
returns c =
    let q = c.requires in
    kept
    (simp (← c.is_trimmed.ensures, ← c.update_base_rtt-v.ensures) (search (branches, c.if-is_trimmed.false)))
    (sound_nack q.in_range _ q.size_le_mtu.1 q.size_le_mtu.2 _ _ q.sampled q.sound_window)
