-- `all_waiting` takes the record of flow after flow (`waits_to`).
use mathlib.Core.Path.{◌≡◌, ap, ◌∙◌}
use Prim.Native.Nat.{◌<◌}
use native.Mathlib.Omega.{arith}
use Rattle.ledger.specs.Memory.{memory}
use Rattle.context.specs.Context.{context, flow_count}
use Rattle.context.proofs.Sounds.{SoundContext, context_facts}
use Rattle.context.proofs.Joins.{flow_fits}
use Rattle.plan.specs.Course.{waits_to}
use Rattle.plan.proofs.Coursing.{waits_none, waits_next}
use Rattle.plan.proofs.course.all_waiting.Goals as goal
use Rattle.plan.proofs.course.all_waiting.Goals.{In-loop-k, Start}

facts : (c : Start) →
    let handed = let a = c.args in
    context a.c a.flows.now (memory a.outstanding.now a.marked.now a.sizes.now a.sent.now) a.evs.now in
    SoundContext handed
facts c = context_facts _ c.requires

-- flow k is one of them
inside : (c : In-loop-k) →
    let handed = let a = c.args in
    context a.c a.flows.now (memory a.outstanding.now a.marked.now a.sizes.now a.sent.now) a.evs.now in
    c.loop-k.k < flow_count handed
inside c = omega (arith, c.loop-k-test.true, c.count-n.ensures)

pub loop-k-init : goal.loop-k-init
loop-k-init c =
    waits_none _ c.no_flows-fs.ensures c.count-n.ensures

pub flow_at-f-requires-clause-fits : goal.flow_at-f-requires-clause-fits
flow_at-f-requires-clause-fits c =
    let g = goal.at.flow_at-f-requires-clause-fits c in
    flow_fits _ (facts g.Start) c.loop-k.k (inside g.In-loop-k)

pub with_record-fs-requires : goal.with_record-fs-requires
with_record-fs-requires c =
    let g = goal.at.with_record-fs-requires c in
    omega (arith, inside g.In-loop-k, (facts g.Start).table.few)

pub loop-k-preserved : goal.loop-k-preserved
loop-k-preserved c =
    waits_next _ c.loop-k.k c.loop-k.invariant c.flow_at-f.ensures c.waiting_from-w.ensures c.with_record-fs.ensures

pub returns : goal.returns
returns c =
    let handed = let a = c.args in
    context a.c a.flows.now (memory a.outstanding.now a.marked.now a.sizes.now a.sent.now) a.evs.now in
    let x = handed in
    let end : c.loop-k.k ≡ flow_count x = omega (arith, c.count-n.ensures) in
    c.loop-k.invariant ∙ ap (waits_to x) end
