-- `look::next_marked` tests number 2, then the flow, and then looks over the marked bits of flow k's part (proofs/Looks).
use mathlib.Core.Path.{◌≡◌, sym, ◌∙◌}
use mathlib.Core.Bool.{true}
use Prim.Native.Nat.{◌<◌}
use native.Mathlib.Omega.{arith}
use Rattle.rules.specs.Verdict.{number_of}
use Rattle.ledger.specs.Memory.{memory}
use Rattle.context.specs.Context.{context, flow_count}
use Rattle.context.specs.Sound.{sound_context}
use Rattle.context.specs.Look.{on_next_marked}
use Rattle.context.proofs.Looks.{look_unsound, look_no_flow, look_found}
use Rattle.context.proofs.look.next_marked.Goals as goal
use Rattle.context.proofs.look.next_marked.Goals.{After-count, Else-count-flow}

-- past number 2
holds : (c : After-count) →
    let handed = context c.args.c c.args.flows.now
    (memory c.args.outstanding.now c.args.marked.now c.args.sizes.now c.args.sent.now) c.args.evs.now in
    sound_context (handed) ≡ true
holds c = sym c.is_sound.ensures ∙ c.if-not-is_sound.false

-- a flow in range
inside : (c : Else-count-flow) →
    let handed = context c.args.c c.args.flows.now
    (memory c.args.outstanding.now c.args.marked.now c.args.sizes.now c.args.sent.now) c.args.evs.now in
    c.args.flow < flow_count (handed)
inside c = omega (arith, c.if-count-flow.false, c.count.ensures)

pub returns-then-not-is_sound : goal.returns-then-not-is_sound
unfolding number_of on_next_marked
returns-then-not-is_sound c =
    let handed = context c.args.c c.args.flows.now
    (memory c.args.outstanding.now c.args.marked.now c.args.sizes.now c.args.sent.now) c.args.evs.now in
    look_unsound c.args.flow _ (handed) (sym c.is_sound.ensures ∙ c.if-not-is_sound.true)

pub returns-then-count-flow : goal.returns-then-count-flow
unfolding number_of on_next_marked
returns-then-count-flow c =
    let handed = context c.args.c c.args.flows.now
    (memory c.args.outstanding.now c.args.marked.now c.args.sizes.now c.args.sent.now) c.args.evs.now in
    look_no_flow c.args.flow _ (handed) (holds (goal.at.returns-then-count-flow c).After-count) (omega (arith, c.if-count-flow.true, c.count.ensures))

pub marked_from-requires : goal.marked_from-requires
marked_from-requires c = record {
  evs_value = holds (goal.at.marked_from-requires c).After-count;
  flow_bound = inside (goal.at.marked_from-requires c).Else-count-flow;
}

pub returns : goal.returns
unfolding number_of on_next_marked
returns c =
    let handed = context c.args.c c.args.flows.now
    (memory c.args.outstanding.now c.args.marked.now c.args.sizes.now c.args.sent.now) c.args.evs.now in
    look_found c.args.flow _ (handed) (holds (goal.at.returns c).After-count) (inside (goal.at.returns c).Else-count-flow) c.marked_from.ensures
