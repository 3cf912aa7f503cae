-- `loss` gives the window after a loss and keeps its bounds, by what it calls.
use mathlib.Core.Path.{◌∙◌}
use mir.Facts.{to_z-of_z}
use native.Mathlib.Omega.{arith}
use Rattle.window.specs.Events.{loss_of}
use Rattle.window.proofs.Keeps.{kept, sound_trimmed, step_quick_adapt, sound_loss}
use Rattle.window.proofs.events.loss.Goals as goal

pub shrink-requires : goal.shrink-requires
shrink-requires c =
    let q = c.requires in
    let T = rw (← c.add_to_tally.ensures) at (sound_trimmed q.in_range c.args.size q.sound_window) in
    let adapts = rw (to_z-of_z c.ranges.in_flight) at c.quick_adapt.ensures in
    let A = step_quick_adapt q.in_range _ q.size_le_mtu.1 q.size_le_mtu.2 _ _ _ adapts T in
    omega arith

pub returns : goal.returns
unfolding loss_of
returns c =
    let q = c.requires in
    let adapts = rw (to_z-of_z c.ranges.in_flight) at c.quick_adapt.ensures in
    kept
    (c.shrink.ensures ∙ simp (adapts, c.add_to_tally.ensures))
    (sound_loss q.in_range _ q.size_le_mtu.1 q.size_le_mtu.2 _ q.sound_window)
