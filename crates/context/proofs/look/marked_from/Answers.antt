-- `look::marked_from` looks over the marked bits of flow k's part (proofs/Looks).
use mathlib.Core.Path.{ap₂, ◌∙◌}
use native.Mathlib.Omega.{arith}
use Rattle.ledger.specs.Memory.{Memory, shown}
use Rattle.ledger.specs.Seek.{next_marked_of}
use Rattle.ledger.specs.declared.Flow.{Flow}
use Rattle.context.specs.Context.{cap_in}
use Rattle.context.specs.Lent.{context_given}
use Rattle.context.specs.Look.{marked_from}
use Rattle.context.proofs.Walks.{Laid, laid, laid_part}
use Rattle.context.proofs.Sounds.{SoundContext, context_facts}
use Rattle.context.proofs.Joins.{sound_parted, cut_asks, flow_fits}
use Rattle.context.proofs.Looks.{look_ledger}
use Rattle.context.proofs.look.marked_from.Goals as goal
use Rattle.context.proofs.look.marked_from.Goals.{After-cut_of-from, Start}

facts : (c : Start) →
    let handed = let a = c.args in
    context_given a.c a.flows.now a.outstanding.now a.marked.now a.sizes.now a.sent.now a.evs.now in
    SoundContext (handed)
facts c =
    let handed = let a = c.args in
    context_given a.c a.flows.now a.outstanding.now a.marked.now a.sizes.now a.sent.now a.evs.now in
    context_facts (handed) c.requires.evs_value

-- where flow k's part lies
lying : (c : After-cut_of-from) →
    let handed = let a = c.args in
    context_given a.c a.flows.now a.outstanding.now a.marked.now a.sizes.now a.sent.now a.evs.now in
    let x = handed in
    let r = c.cut_of-from.result in
    Laid (cap_in x) c.args.flow x.slots r.from r.end r.at r.to
lying c =
    let handed = let a = c.args in
    context_given a.c a.flows.now a.outstanding.now a.marked.now a.sizes.now a.sent.now a.evs.now in
    let facts : SoundContext (handed) = context_facts (handed) c.requires.evs_value in
    let x = handed in
    laid (cap_in x) x.flows x.slots (sound_parted x (facts)) c.args.flow c.requires.flow_bound _ _ _ _
    (rw c.count-n.ensures at c.cut_of-from.ensures)

pub cut_of-from-requires : goal.cut_of-from-requires
cut_of-from-requires c =
    let handed = let a = c.args in
    context_given a.c a.flows.now a.outstanding.now a.marked.now a.sizes.now a.sent.now a.evs.now in
    cut_asks (handed) c.requires.evs_value c.count-n.ensures (omega (arith, c.requires.flow_bound, c.count-n.ensures))

pub flow_at-flow-requires : goal.flow_at-flow-requires
flow_at-flow-requires c =
    let handed = let a = c.args in
    context_given a.c a.flows.now a.outstanding.now a.marked.now a.sizes.now a.sent.now a.evs.now in
    record {
      k_bound = c.requires.flow_bound;
      fits = flow_fits (handed) (facts (goal.at.flow_at-flow-requires c).Start) c.args.flow c.requires.flow_bound;
    }

pub offset_bounds-outstanding-from : goal.offset_bounds-outstanding-from
offset_bounds-outstanding-from c = let L = lying (goal.at.offset_bounds-outstanding-from c).After-cut_of-from in record { fits = omega (arith, L) }

pub slice_bounds-ring-end : goal.slice_bounds-ring-end
slice_bounds-ring-end c = (lying (goal.at.slice_bounds-ring-end c).After-cut_of-from).outstanding

pub offset_bounds-marked-from : goal.offset_bounds-marked-from
offset_bounds-marked-from c = let L = lying (goal.at.offset_bounds-marked-from c).After-cut_of-from in record { fits = omega (arith, L) }

pub slice_bounds-ring-end-2 : goal.slice_bounds-ring-end-2
slice_bounds-ring-end-2 c = (lying (goal.at.slice_bounds-ring-end-2 c).After-cut_of-from).marked

pub offset_bounds-sizes-at : goal.offset_bounds-sizes-at
offset_bounds-sizes-at c = let L = lying (goal.at.offset_bounds-sizes-at c).After-cut_of-from in record { fits = omega (arith, L) }

pub slice_bounds-ring-end-3 : goal.slice_bounds-ring-end-3
slice_bounds-ring-end-3 c = (lying (goal.at.slice_bounds-ring-end-3 c).After-cut_of-from).sizes

pub offset_bounds-sent-at : goal.offset_bounds-sent-at
offset_bounds-sent-at c = let L = lying (goal.at.offset_bounds-sent-at c).After-cut_of-from in record { fits = omega (arith, L) }

pub slice_bounds-ring-end-4 : goal.slice_bounds-ring-end-4
slice_bounds-ring-end-4 c = (lying (goal.at.slice_bounds-ring-end-4 c).After-cut_of-from).sent

pub next_marked-requires : goal.next_marked-requires
next_marked-requires c =
    let handed = let a = c.args in
    context_given a.c a.flows.now a.outstanding.now a.marked.now a.sizes.now a.sent.now a.evs.now in
    rw (c.flow_at-flow.ensures, laid_part (lying (goal.at.next_marked-requires c).After-cut_of-from)) (look_ledger (handed) (facts (goal.at.next_marked-requires c).Start) c.args.flow c.requires.flow_bound)

pub returns : goal.returns
unfolding marked_from
returns c =
    c.next_marked.ensures
    ∙ ap₂ (λ (g : Flow) (m : Memory). next_marked_of g (shown g.low g.next m) c.args.psn) c.flow_at-flow.ensures
    (laid_part (lying (goal.at.returns c).After-cut_of-from))
