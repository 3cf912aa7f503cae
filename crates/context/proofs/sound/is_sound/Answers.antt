-- `is_sound` makes the tests of `sound_context` in their order: by the laws of proofs/Numbering. The name is asked for once the first three
-- hold, which bound what it is computed from.
use mathlib.Core.Path.{sym, ◌∙◌}
use Rattle.window.proofs.Tests.{range_facts}
use Rattle.ledger.specs.Memory.{memory}
use Rattle.context.specs.Context.{context}
use Rattle.context.proofs.Numbering.{not_range, not_window, not_flows, nameable, tests_left}
use mathlib.Core.Bool.{not}
use mathlib.Core.Path.{ap}
use Rattle.context.proofs.sound.is_sound.Goals as goal

pub returns-then-not-in_range : goal.returns-then-not-in_range
returns-then-not-in_range c =
    let given = let a = c.args in
    context a.c a.flows.now (memory a.outstanding.now a.marked.now a.sizes.now a.sent.now) a.evs.now in
    not_range (given) _ c.in_range.ensures (ap not c.if-not-in_range.true)

pub is_sound-requires : goal.is_sound-requires
is_sound-requires c = range_facts _ (sym c.in_range.ensures ∙ c.if-not-in_range.false)

pub returns-then-not-is_sound : goal.returns-then-not-is_sound
returns-then-not-is_sound c =
    let given = let a = c.args in
    context a.c a.flows.now (memory a.outstanding.now a.marked.now a.sizes.now a.sent.now) a.evs.now in
    not_window (given) _ c.in_range.ensures (ap not c.if-not-in_range.false) _ c.is_sound.ensures (ap not c.if-not-is_sound.true)

pub returns-then-not-flows_ok : goal.returns-then-not-flows_ok
returns-then-not-flows_ok c =
    let given = let a = c.args in
    context a.c a.flows.now (memory a.outstanding.now a.marked.now a.sizes.now a.sent.now) a.evs.now in
    not_flows (given) _ c.in_range.ensures (ap not c.if-not-in_range.false) _ c.is_sound.ensures (ap not c.if-not-is_sound.false) _
    c.flows_ok.ensures (ap not c.if-not-flows_ok.true)

pub phase_of-requires : goal.phase_of-requires
phase_of-requires c =
    let given = let a = c.args in
    context a.c a.flows.now (memory a.outstanding.now a.marked.now a.sizes.now a.sent.now) a.evs.now in
    let B =
    nameable (given) _ c.in_range.ensures (ap not c.if-not-in_range.false) _ c.is_sound.ensures (ap not c.if-not-is_sound.false) _
    c.flows_ok.ensures (ap not c.if-not-flows_ok.false) in
    record {
      flown = B.flown;
      mtu_bound = (B.mtu_high, B.cwnd_high);
    }

pub returns : goal.returns
returns c =
    let given = let a = c.args in
    context a.c a.flows.now (memory a.outstanding.now a.marked.now a.sizes.now a.sent.now) a.evs.now in
    tests_left (given) _ c.in_range.ensures (ap not c.if-not-in_range.false) _ c.is_sound.ensures (ap not c.if-not-is_sound.false) _
    c.flows_ok.ensures (ap not c.if-not-flows_ok.false) _ _ _ c.times_ok.ensures
    c.count.ensures c.phase_of.ensures
