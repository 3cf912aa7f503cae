-- `ack` puts the ledger's step, the window's rules and the EV's time together (`ack_is`); each call's need is what a sound world and an ACK
-- that no row refuses leave (`ack_ready`).
use native.Mathlib.Omega.{arith}
use Rattle.ledger.specs.Lent.{memory_of_mut}
use Rattle.ledger.specs.Memory.{kept}
use Rattle.ledger.specs.Steps.{acknowledge_of}
use Rattle.sender.specs.World.{world, view_of, ledger_of}
use Rattle.sender.proofs.Sounds.{SoundFacts, among_facts, holds_ledger}
use Rattle.sender.proofs.Views.{sound_lengths}
use Rattle.sender.proofs.Stepping.{Ackable, ack_facts, avoid_asks, Ready, ready_above, ready_word, state_asks, ack_ready, sample_at}
use Rattle.sender.proofs.Stepping.{sampled_at, ack_is, ack_says_lem}
use Rattle.sender.proofs.steps.ack.Goals as goal
use Rattle.sender.proofs.steps.ack.Goals.{After-acknowledge, Start}

facts : (c : Start) →
    let world-in = world c.args.c (memory_of_mut c.args.ring.now)
    c.args.evs.now in
    SoundFacts c.requires.holds.others (view_of (world-in))
facts c =
    let world-in = world c.args.c (memory_of_mut c.args.ring.now)
    c.args.evs.now in
    among_facts _ (view_of (world-in)) c.requires.holds.so

accepted : (c : Start) → Ackable c.args.time c.args.a c.args.c
accepted c = ack_facts c.args.time c.args.a c.args.c c.requires.c_value

after : (c : After-acknowledge) →
    let world-in = world c.args.c (memory_of_mut c.args.ring.now)
    c.args.evs.now in
    let ledger-out = acknowledge_of c.args.a.cum c.args.a.map c.args.a.count (ledger_of (world-in)) in
    Ready c.requires.holds.others c.args.c.settings c.args.time
    c.args.c.window (ledger-out)
after c =
    let world-in = world c.args.c (memory_of_mut c.args.ring.now)
    c.args.evs.now in
    let facts : SoundFacts c.requires.holds.others (view_of (world-in)) = among_facts _ (view_of (world-in)) c.requires.holds.so in
    let accepted : Ackable c.args.time c.args.a c.args.c = ack_facts c.args.time c.args.a c.args.c c.requires.c_value in
    ack_ready (facts) (accepted)

pub find-x-requires : goal.find-x-requires
find-x-requires c =
    let world-in = world c.args.c (memory_of_mut c.args.ring.now)
    c.args.evs.now in
    rw c.look.ensures (sound_lengths _ (world-in) c.requires.holds.so)

pub acknowledge-requires : goal.acknowledge-requires
acknowledge-requires c =
    let world-in = world c.args.c (memory_of_mut c.args.ring.now)
    c.args.evs.now in
    record {
      sound_ledger = holds_ledger (world-in) c.requires.holds;
      count_value = (accepted (goal.at.acknowledge-requires c).Start).rows;
    }

pub ack-w-requires : goal.ack-w-requires
ack-w-requires c =
    let R = after (goal.at.ack-w-requires c).After-acknowledge in
    record {
      in_range = R.range;
      sound_window = R.sound_window_lem;
      sampled = sampled_at _ _ _ _ _ _ c.sample_in-sample.ensures
          c.sampled-sampling.ensures;
      newly_lt_newly_end = (c.newly-newly.ensures.1, R.early, ready_above R c.acknowledge.ensures.kept);
    }

-- what the last two calls ask are bounds that the window before the ACK and the one after it both keep: a step that hands on the wrong one
-- of the two is refused by its promise
pub avoid-requires : goal.avoid-requires
avoid-requires c =
    let asks = avoid_asks (facts (goal.at.avoid-requires c).Start) (accepted (goal.at.avoid-requires c).Start).timely (accepted (goal.at.avoid-requires c).Start).ev_ok in
    (asks.0, asks.1, omega (arith, asks.2, (facts (goal.at.avoid-requires c).Start).range.rtt_high, c.ack-w.ensures.sound.base_high))

pub state_of-state-requires : goal.state_of-state-requires
state_of-state-requires c =
    let R = after (goal.at.state_of-state-requires c).After-acknowledge in
    let old = state_asks R c.acknowledge.ensures.kept R.sound_window_lem in
    let new = state_asks R c.acknowledge.ensures.kept c.ack-w.ensures.sound in
    record {
      flown = new.0;
      mtu_bound = (new.1.0, omega (arith, old.1.1, new.1.1));
    }

pub returns-clause-evs_value : goal.returns-clause-evs_value
returns-clause-evs_value c =
    let world-in = world c.args.c (memory_of_mut c.args.ring.now)
    c.args.evs.now in
    let kept_out = kept c.acknowledge.result.flow c.acknowledge.result.totals (memory_of_mut c.acknowledge.new.ring) in
    ack_is c.args.time (view_of (world-in)) {m = (kept_out).slots}
    (ready_word (after (goal.at.returns-clause-evs_value c).After-acknowledge) c.acknowledge.ensures.kept)
    c.state_of-state.ensures c.args.a c.newly-newly.ensures.0 (rw c.look.ensures at c.find-x.ensures)
    (sample_at _ _ _ _ _ _ c.sample_in-sample.ensures c.sampled-sampling.ensures) c.acknowledge.ensures.kept c.ack-w.ensures.is
    c.avoid.ensures

pub returns-clause-sampling_value : goal.returns-clause-sampling_value
returns-clause-sampling_value c =
    let world-in = world c.args.c (memory_of_mut c.args.ring.now)
    c.args.evs.now in
    ack_says_lem c.args.time (view_of (world-in)) c.args.a (rw c.look.ensures at c.find-x.ensures) c.sampled-sampling.ensures
