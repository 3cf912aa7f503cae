-- `send` pushes a new packet or resends a marked one and names the state; each call's need is what a sound world and a send that no
-- row refuses leave (`send_ready`).
use mathlib.Core.Path.{◌≡◌, refl, ap, ◌∙◌}
use Rattle.rules.specs.Branch.{if_so, so_yes, so_no}
use Rattle.ledger.specs.Lent.{memory_of_mut}
use Rattle.ledger.specs.Memory.{kept, kept_of}
use Rattle.ledger.specs.Steps.{push_of, resend_of}
use Rattle.ledger.proofs.Shows.{shown_cap}
use Rattle.sender.specs.World.{world, ring_of, view_of, ledger_of}
use Rattle.sender.specs.Steps.{send_step}
use Rattle.sender.proofs.Sounds.{SoundFacts, among_facts, holds_ledger}
use Rattle.sender.proofs.Stepping.{Sendable, send_facts, Ready, state_asks, push_asks, resend_asks, send_ready, settles}
use Rattle.sender.proofs.steps.send.Goals as goal
use Rattle.sender.proofs.steps.send.Goals.{After-push, After-resend, Start}

facts : (c : Start) →
    let world-in = world c.args.c (memory_of_mut c.args.ring.now)
    c.args.evs.now in
    SoundFacts c.requires.holds.others (view_of (world-in))
facts c =
    let world-in = world c.args.c (memory_of_mut c.args.ring.now)
    c.args.evs.now in
    among_facts _ (view_of (world-in)) c.requires.holds.so

accepted : (c : Start) →
    let world-in = world c.args.c (memory_of_mut c.args.ring.now)
    c.args.evs.now in
    Sendable c.args.time c.args.a c.args.c (ring_of (world-in))
accepted c =
    let world-in = world c.args.c (memory_of_mut c.args.ring.now)
    c.args.evs.now in
    send_facts c.args.time c.args.a c.args.c (ring_of (world-in)) c.requires.evs_value

ready : (c : Start) →
    let world-in = world c.args.c (memory_of_mut c.args.ring.now)
    c.args.evs.now in
    let sent-of = if_so c.args.a.resend (resend_of c.args.time c.args.a.psn (ledger_of (world-in)))
    (push_of c.args.time c.args.a.size (ledger_of (world-in))) in
    Ready c.requires.holds.others c.args.c.settings c.args.time c.args.c.window (sent-of)
ready c = send_ready (facts c) (accepted c)

is_resend : (c : After-resend) →
    let kept-resend = kept c.resend.result.flow c.resend.result.totals
    (memory_of_mut c.resend.new.ring) in
    let world-in = world c.args.c (memory_of_mut c.args.ring.now)
    c.args.evs.now in
    let sent-of = if_so c.args.a.resend (resend_of c.args.time c.args.a.psn (ledger_of (world-in)))
    (push_of c.args.time c.args.a.size (ledger_of (world-in))) in
    kept-resend ≡ kept_of (sent-of)
is_resend c = c.resend.ensures.kept ∙ ap kept_of (so_yes _ _ _ _ c.if-a.true refl)

is_push : (c : After-push) →
    let kept_push = kept c.push.result.flow c.push.result.totals
    (memory_of_mut c.push.new.ring) in
    let world-in = world c.args.c (memory_of_mut c.args.ring.now)
    c.args.evs.now in
    let sent-of = if_so c.args.a.resend (resend_of c.args.time c.args.a.psn (ledger_of (world-in)))
    (push_of c.args.time c.args.a.size (ledger_of (world-in))) in
    kept_push ≡ kept_of (sent-of)
is_push c = c.push.ensures.kept ∙ ap kept_of (so_no _ _ _ _ c.if-a.false refl)

pub resend-requires : goal.resend-requires
resend-requires c =
    let world-in = world c.args.c (memory_of_mut c.args.ring.now)
    c.args.evs.now in
    record {
      sound_ledger = holds_ledger (world-in) c.requires.holds;
      psn_value = resend_asks (facts (goal.at.resend-requires c).Start) (accepted (goal.at.resend-requires c).Start) c.if-a.true;
    }

pub state_of-requires : goal.state_of-requires
state_of-requires c = record {
  flown = (state_asks (ready (goal.at.state_of-requires c).Start) (is_resend (goal.at.state_of-requires c).After-resend) (ready (goal.at.state_of-requires c).Start).sound_window_lem).0;
  mtu_bound = (state_asks (ready (goal.at.state_of-requires c).Start) (is_resend (goal.at.state_of-requires c).After-resend) (ready (goal.at.state_of-requires c).Start).sound_window_lem).1;
}

pub returns-then-a-clause-left : goal.returns-then-a-clause-left
unfolding send_step
returns-then-a-clause-left c =
    let world-in = world c.args.c (memory_of_mut c.args.ring.now)
    c.args.evs.now in
    let sent-of = if_so c.args.a.resend (resend_of c.args.time c.args.a.psn (ledger_of (world-in)))
    (push_of c.args.time c.args.a.size (ledger_of (world-in))) in
    let kept-resend = kept c.resend.result.flow c.resend.result.totals
    (memory_of_mut c.resend.new.ring) in
    settles c.args.time c.args.c (sent-of) {m = (kept-resend).slots} (is_resend (goal.at.returns-then-a-clause-left c).After-resend) refl refl c.state_of.ensures

pub push-requires : goal.push-requires
push-requires c =
    let world-in = world c.args.c (memory_of_mut c.args.ring.now)
    c.args.evs.now in
    let w = world-in in
    let asks = push_asks (facts (goal.at.push-requires c).Start) (accepted (goal.at.push-requires c).Start) c.if-a.false in
    record {
      sound_ledger = holds_ledger w c.requires.holds;
      bytes_le_backlog = asks.0;
      flow_bound = rw (shown_cap w.state.flow.low w.state.flow.next w.slots) at asks.1;
    }

pub state_of-requires-2 : goal.state_of-requires-2
state_of-requires-2 c = record {
  flown = (state_asks (ready (goal.at.state_of-requires-2 c).Start) (is_push (goal.at.state_of-requires-2 c).After-push) (ready (goal.at.state_of-requires-2 c).Start).sound_window_lem).0;
  mtu_bound = (state_asks (ready (goal.at.state_of-requires-2 c).Start) (is_push (goal.at.state_of-requires-2 c).After-push) (ready (goal.at.state_of-requires-2 c).Start).sound_window_lem).1;
}

pub returns-clause-left : goal.returns-clause-left
unfolding send_step
returns-clause-left c =
    let world-in = world c.args.c (memory_of_mut c.args.ring.now)
    c.args.evs.now in
    let sent-of = if_so c.args.a.resend (resend_of c.args.time c.args.a.psn (ledger_of (world-in)))
    (push_of c.args.time c.args.a.size (ledger_of (world-in))) in
    let kept_push = kept c.push.result.flow c.push.result.totals
    (memory_of_mut c.push.new.ring) in
    settles c.args.time c.args.c (sent-of) {m = (kept_push).slots} (is_push (goal.at.returns-clause-left c).After-push) refl refl c.state_of-2.ensures
