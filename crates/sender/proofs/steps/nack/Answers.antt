-- `nack` puts the ledger's step, the window's rules and the EV's time together (`nack_is`); each call's need is what a sound world and a
-- NACK that no row refuses leave (`marked_ready`).
use Rattle.ledger.specs.Lent.{memory_of_marks}
use Rattle.ledger.specs.Memory.{kept}
use Rattle.ledger.specs.Steps.{mark_of}
use Rattle.sender.specs.World.{world, ring_of, view_of, ledger_of}
use Rattle.sender.proofs.Sounds.{SoundFacts, among_facts, holds_ledger}
use Rattle.sender.proofs.Views.{sound_lengths}
use Rattle.sender.proofs.Stepping.{Markable, nack_facts, avoid_asks, Ready, ready_above, ready_word, state_asks, mark_flies}
use Rattle.sender.proofs.Stepping.{mark_size, marked_ready, sample_at, sampled_at, nack_is, nack_says_lem}
use Rattle.sender.proofs.steps.nack.Goals as goal
use Rattle.sender.proofs.steps.nack.Goals.{After-mark, Start}

facts : (c : Start) →
    let world-in = world c.args.c (memory_of_marks c.args.ring.now)
    c.args.evs.now in
    SoundFacts c.requires.holds.others (view_of (world-in))
facts c =
    let world-in = world c.args.c (memory_of_marks c.args.ring.now)
    c.args.evs.now in
    among_facts _ (view_of (world-in)) c.requires.holds.so

accepted : (c : Start) →
    let world-in = world c.args.c (memory_of_marks c.args.ring.now)
    c.args.evs.now in
    Markable c.args.time c.args.a.psn c.args.a.ev c.args.c (ring_of (world-in))
accepted c =
    let world-in = world c.args.c (memory_of_marks c.args.ring.now)
    c.args.evs.now in
    nack_facts c.args.time c.args.a c.args.c (ring_of (world-in)) c.requires.evs_value

after : (c : After-mark) →
    let world-in = world c.args.c (memory_of_marks c.args.ring.now)
    c.args.evs.now in
    let ledger-out = mark_of c.args.a.psn (ledger_of (world-in)) in
    Ready c.requires.holds.others c.args.c.settings c.args.time
    c.args.c.window (ledger-out)
after c =
    let world-in = world c.args.c (memory_of_marks c.args.ring.now)
    c.args.evs.now in
    let facts : SoundFacts c.requires.holds.others (view_of (world-in)) = among_facts _ (view_of (world-in)) c.requires.holds.so in
    let accepted : Markable c.args.time c.args.a.psn c.args.a.ev c.args.c (ring_of (world-in)) = nack_facts c.args.time c.args.a c.args.c (ring_of (world-in)) c.requires.evs_value in
    marked_ready (facts) (accepted)

pub find-x-requires : goal.find-x-requires
find-x-requires c =
    let world-in = world c.args.c (memory_of_marks c.args.ring.now)
    c.args.evs.now in
    rw c.look.ensures (sound_lengths _ (world-in) c.requires.holds.so)

pub mark-requires : goal.mark-requires
mark-requires c =
    let world-in = world c.args.c (memory_of_marks c.args.ring.now)
    c.args.evs.now in
    record {
      sound_ledger = holds_ledger (world-in) c.requires.holds;
      psn_value = mark_flies (facts (goal.at.mark-requires c).Start) (accepted (goal.at.mark-requires c).Start);
    }

pub nack-w-requires : goal.nack-w-requires
nack-w-requires c =
    let R = after (goal.at.nack-w-requires c).After-mark in
    record {
      in_range = R.range;
      sound_window = R.sound_window_lem;
      sampled = sampled_at _ _ _ _ _ _ c.sample_in-sample.ensures
          c.sampled-sampling.ensures;
      size_le_mtu = (
        rw (rw c.look.ensures at c.find-x.ensures) (mark_size (facts (goal.at.nack-w-requires c).Start) (accepted (goal.at.nack-w-requires c).Start)),
        R.early,
        ready_above R c.mark.ensures.kept,
      );
    }

pub avoid-requires : goal.avoid-requires
avoid-requires c = avoid_asks (facts (goal.at.avoid-requires c).Start) (accepted (goal.at.avoid-requires c).Start).timely (accepted (goal.at.avoid-requires c).Start).ev_ok

pub state_of-state-requires : goal.state_of-state-requires
state_of-state-requires c = record {
  flown = (state_asks (after (goal.at.state_of-state-requires c).After-mark) c.mark.ensures.kept c.nack-w.ensures.sound).0;
  mtu_bound = (state_asks (after (goal.at.state_of-state-requires c).After-mark) c.mark.ensures.kept c.nack-w.ensures.sound).1;
}

pub returns-clause-evs_value_2 : goal.returns-clause-evs_value_2
returns-clause-evs_value_2 c =
    let world-in = world c.args.c (memory_of_marks c.args.ring.now)
    c.args.evs.now in
    let kept_out = kept c.mark.result.flow c.mark.result.totals (memory_of_marks c.mark.new.ring) in
    nack_is c.args.time (view_of (world-in)) {m = (kept_out).slots}
    (ready_word (after (goal.at.returns-clause-evs_value_2 c).After-mark) c.mark.ensures.kept) c.state_of-state.ensures c.args.a
    (rw c.look.ensures at c.find-x.ensures) (sample_at _ _ _ _ _ _ c.sample_in-sample.ensures c.sampled-sampling.ensures)
    c.mark.ensures.kept c.nack-w.ensures.is c.avoid.ensures

pub returns-clause-sampling_value : goal.returns-clause-sampling_value
returns-clause-sampling_value c =
    let world-in = world c.args.c (memory_of_marks c.args.ring.now)
    c.args.evs.now in
    nack_says_lem c.args.time (view_of (world-in)) c.args.a (rw c.look.ensures at c.find-x.ensures) c.sampled-sampling.ensures
