-- `ack` gives the window after an ACK and keeps its bounds, by what it calls.
use mathlib.Core.Path.{ap, ◌∙◌}
use mir.Facts.{to_z-of_z}
use native.Mathlib.Omega.{arith}
use Rattle.rules.specs.Branch.{branches, so_no}
use Rattle.window.specs.Adjust.{adjust_of}
use Rattle.window.specs.Events.{go_on_of, react_of, ack_of}
use Rattle.window.proofs.Keeps.{sound_at, kept, cwnd_most, sound_count_newly, step_respond, step_measure, ack_quick_adapt, sound_ack}
use Rattle.window.proofs.events.ack.Goals as goal

pub measure-d-requires : goal.measure-d-requires
measure-d-requires c =
    let q = c.requires in
    let C = sound_at c.count_newly.ensures (sound_count_newly q.in_range _ q.sound_window) in
    record {
      in_range = q.in_range;
      sampled = q.sampled;
      base_bound = omega arith;
    }

pub quick_adapt-a-requires : goal.quick_adapt-a-requires
quick_adapt-a-requires c =
    let q = c.requires in
    let C = sound_at c.count_newly.ensures (sound_count_newly q.in_range _ q.sound_window) in
    let M = step_measure q.in_range _ _ c.measure-d.ensures q.sampled C in
    omega arith

pub returns-then-a : goal.returns-then-a
unfolding ack_of react_of go_on_of
returns-then-a c =
    let q = c.requires in
    let adapts = rw (to_z-of_z c.ranges.in_flight) at c.quick_adapt-a.ensures in
    kept
    (simp (← c.count_newly.ensures, ← c.measure-d.ensures, ← adapts) (search (branches, c.if-a.true)))
    (sound_ack q.in_range _ q.newly_lt_newly_end.1 q.newly_lt_newly_end.2 _ _ q.sampled q.sound_window)

pub respond-requires : goal.respond-requires
respond-requires c =
    let q = c.requires in
    let adapts = rw (to_z-of_z c.ranges.in_flight) at c.quick_adapt-a.ensures in
    let A =
    ack_quick_adapt q.in_range _ q.newly_lt_newly_end.1 q.newly_lt_newly_end.2 _ _ _
    c.count_newly.ensures c.measure-d.ensures adapts q.sampled q.sound_window in
    record {
      in_range = q.in_range;
      sound_window = A;
      newly_lt_newly_end = q.newly_lt_newly_end.0;
    }

pub adjust-requires : goal.adjust-requires
adjust-requires c =
    let q = c.requires in
    let adapts = rw (to_z-of_z c.ranges.in_flight) at c.quick_adapt-a.ensures in
    let A =
    ack_quick_adapt q.in_range _ q.newly_lt_newly_end.1 q.newly_lt_newly_end.2 _ _ _
    c.count_newly.ensures c.measure-d.ensures adapts q.sampled q.sound_window in
    let K = step_respond q.in_range _ _ _ c.respond.ensures A in
    record {
      in_range = q.in_range;
      last_adjust_bound = omega (arith, cwnd_most q.in_range K);
    }

pub returns : goal.returns
unfolding ack_of react_of go_on_of
returns c =
    let q = c.requires in
    let adapts = rw (to_z-of_z c.ranges.in_flight) at c.quick_adapt-a.ensures in
    kept
    (simp (← c.count_newly.ensures, ← c.measure-d.ensures, ← adapts)
    (so_no _ _ _ _ c.if-a.false (c.adjust.ensures ∙ ap (adjust_of c.args.s c.args.time) c.respond.ensures)))
    (sound_ack q.in_range _ q.newly_lt_newly_end.1 q.newly_lt_newly_end.2 _ _ q.sampled q.sound_window)
