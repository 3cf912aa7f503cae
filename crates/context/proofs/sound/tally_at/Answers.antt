-- `tally_at` is the tally of flow k and its part (`laid_part`).
use mathlib.Core.Path.{◌≡◌, ap, ap₂, ◌∙◌}
use Prim.Native.Nat.{◌≤◌, ◌^◌}
use native.Mathlib.Omega.{arith}
use Rattle.ledger.specs.Memory.{Memory, memory}
use Rattle.ledger.specs.Stretch.{tally_of}
use Rattle.ledger.specs.declared.Flow.{Flow}
use Rattle.ledger.specs.declared.sound.Tally.{Tally}
use Rattle.ledger.proofs.Geometry.{cap_facts}
use Rattle.ledger.proofs.Tally.{tally_backlog}
use Rattle.flow_table.specs.Words.{flow_at}
use Rattle.flow_table.specs.Parts.{part_of}
use Rattle.context.specs.Walk.{tally_at}
use Rattle.context.proofs.Walks.{Laid, laid, laid_part, part_ring, stand_facts, stand_fits}
use Rattle.context.proofs.sound.tally_at.Goals as goal
use Rattle.context.proofs.sound.tally_at.Goals.{After-cut_at-from}

-- where flow k's part lies
lying : (c : After-cut_at-from) →
    let buffer = memory c.args.outstanding.now c.args.marked.now c.args.sizes.now c.args.sent.now in
    let r = c.cut_at-from.result in
    Laid c.args.cap c.args.k (buffer) r.from r.end r.at r.to
lying c =
    let buffer = memory c.args.outstanding.now c.args.marked.now c.args.sizes.now c.args.sent.now in
    laid c.args.cap c.args.flows.now (buffer) c.requires.1.parted c.args.k c.requires.0 _ _ _ _ c.cut_at-from.ensures

pub flow_at-flow-requires : goal.flow_at-flow-requires
flow_at-flow-requires c =
    let buffer = memory c.args.outstanding.now c.args.marked.now c.args.sizes.now c.args.sent.now in
    let S = c.requires.1 in
    let k = c.args.k in
    record {
      k_bound = c.requires.0;
      fits = stand_fits S.mtu S.clock c.args.cap c.args.flows.now (buffer) k (S.stand k c.requires.0);
    }

pub cut_at-from-requires : goal.cut_at-from-requires
cut_at-from-requires c =
    let P = c.requires.1.parted in
    (omega (arith, c.requires.0, P.few), omega (arith, (cap_facts c.args.cap P.cap_ok).most))

pub offset_bounds-outstanding-from : goal.offset_bounds-outstanding-from
offset_bounds-outstanding-from c = let L = lying (goal.at.offset_bounds-outstanding-from c).After-cut_at-from in record { fits = omega (arith, L) }

pub slice_bounds-ring-end : goal.slice_bounds-ring-end
slice_bounds-ring-end c = (lying (goal.at.slice_bounds-ring-end c).After-cut_at-from).outstanding

pub offset_bounds-marked-from : goal.offset_bounds-marked-from
offset_bounds-marked-from c = let L = lying (goal.at.offset_bounds-marked-from c).After-cut_at-from in record { fits = omega (arith, L) }

pub slice_bounds-ring-end-2 : goal.slice_bounds-ring-end-2
slice_bounds-ring-end-2 c = (lying (goal.at.slice_bounds-ring-end-2 c).After-cut_at-from).marked

pub offset_bounds-sizes-at : goal.offset_bounds-sizes-at
offset_bounds-sizes-at c = let L = lying (goal.at.offset_bounds-sizes-at c).After-cut_at-from in record { fits = omega (arith, L) }

pub slice_bounds-ring-end-3 : goal.slice_bounds-ring-end-3
slice_bounds-ring-end-3 c = (lying (goal.at.slice_bounds-ring-end-3 c).After-cut_at-from).sizes

pub offset_bounds-sent-at : goal.offset_bounds-sent-at
offset_bounds-sent-at c = let L = lying (goal.at.offset_bounds-sent-at c).After-cut_at-from in record { fits = omega (arith, L) }

pub slice_bounds-ring-end-4 : goal.slice_bounds-ring-end-4
slice_bounds-ring-end-4 c = (lying (goal.at.slice_bounds-ring-end-4 c).After-cut_at-from).sent

pub tally_of-requires : goal.tally_of-requires
tally_of-requires c =
    let buffer = memory c.args.outstanding.now c.args.marked.now c.args.sizes.now c.args.sent.now in
    rw (laid_part (lying (goal.at.tally_of-requires c).After-cut_at-from)) (part_ring c.args.cap c.args.flows.now (buffer) c.requires.1.parted c.args.k c.requires.0)

pub returns : goal.returns
unfolding tally_at
returns c =
    let buffer = memory c.args.outstanding.now c.args.marked.now c.args.sizes.now c.args.sent.now in
    let S = c.requires.1 in
    let k = c.args.k in
    let ws = c.args.flows.now in
    let q = c.tally_of.ensures in
    let e : c.tally_of.result ≡ tally_of (flow_at ws k) (part_of c.args.cap k (buffer)) =
    q.0 ∙ ap₂ (λ (f : Flow) (m : Memory). tally_of f m) c.flow_at-flow.ensures (laid_part (lying (goal.at.returns c).After-cut_at-from)) in
    let F = stand_facts S.mtu S.clock c.args.cap ws (buffer) k (S.stand k c.requires.0) in
    let l : c.tally_of.result.backlog ≤ 2 ^ 40 =
    omega (arith, ap (λ (t : Tally). t.backlog) e, tally_backlog (flow_at ws k) (part_of c.args.cap k (buffer)), F.backlog) in
    (e, omega (arith, q.1), omega (arith, q.2), omega (arith, q.3), l)
