-- `stands_at` tests that low and next are PSNs, and then flow k on its part (`laid_part`).
use mathlib.Core.Path.{sym, ap₂, ◌∙◌}
use native.Mathlib.Omega.{arith}
use Rattle.ledger.specs.Memory.{Memory, memory, shown}
use Rattle.ledger.specs.Sound.{stands}
use Rattle.ledger.specs.declared.Flow.{Flow}
use Rattle.ledger.proofs.Geometry.{cap_facts}
use Rattle.flow_table.proofs.Places.{fits_facts}
use Rattle.context.specs.Walk.{stands_on}
use Rattle.context.proofs.Walks.{Laid, laid, laid_part, not_fitting}
use Rattle.context.proofs.sound.stands_at.Goals as goal
use Rattle.context.proofs.sound.stands_at.Goals.{After-cut_at-from}

-- where flow k's part lies
lying : (c : After-cut_at-from) →
    let buffer = memory c.args.outstanding.now c.args.marked.now c.args.sizes.now c.args.sent.now in
    let r = c.cut_at-from.result in
    Laid c.args.cap c.args.k (buffer) r.from r.end r.at r.to
lying c =
    let buffer = memory c.args.outstanding.now c.args.marked.now c.args.sizes.now c.args.sent.now in
    laid c.args.cap c.args.flows.now (buffer) c.requires.1 c.args.k c.requires.0 _ _ _ _ c.cut_at-from.ensures

pub returns-then-not-fits_at : goal.returns-then-not-fits_at
returns-then-not-fits_at c =
    let buffer = memory c.args.outstanding.now c.args.marked.now c.args.sizes.now c.args.sent.now in
    not_fitting c.args.mtu c.args.clock c.args.cap c.args.flows.now (buffer) c.args.k
    (sym c.fits_at.ensures ∙ c.if-not-fits_at.true)

pub flow_at-flow-requires : goal.flow_at-flow-requires
flow_at-flow-requires c = record {
  k_bound = c.requires.0;
  fits = fits_facts c.args.flows.now c.args.k (sym c.fits_at.ensures ∙ c.if-not-fits_at.false);
}

pub cut_at-from-requires : goal.cut_at-from-requires
cut_at-from-requires c =
    (omega (arith, c.requires.0, c.requires.1.few), omega (arith, (cap_facts c.args.cap c.requires.1.cap_ok).most))

pub offset_bounds-outstanding-from : goal.offset_bounds-outstanding-from
offset_bounds-outstanding-from c = let L = lying (goal.at.offset_bounds-outstanding-from c).After-cut_at-from in record { fits = omega (arith, L) }

pub slice_bounds-ring-end : goal.slice_bounds-ring-end
slice_bounds-ring-end c = (lying (goal.at.slice_bounds-ring-end c).After-cut_at-from).outstanding

pub offset_bounds-marked-from : goal.offset_bounds-marked-from
offset_bounds-marked-from c = let L = lying (goal.at.offset_bounds-marked-from c).After-cut_at-from in record { fits = omega (arith, L) }

pub slice_bounds-ring-end-2 : goal.slice_bounds-ring-end-2
slice_bounds-ring-end-2 c = (lying (goal.at.slice_bounds-ring-end-2 c).After-cut_at-from).marked

pub offset_bounds-sizes-at : goal.offset_bounds-sizes-at
offset_bounds-sizes-at c = let L = lying (goal.at.offset_bounds-sizes-at c).After-cut_at-from in record { fits = omega (arith, L) }

pub slice_bounds-ring-end-3 : goal.slice_bounds-ring-end-3
slice_bounds-ring-end-3 c = (lying (goal.at.slice_bounds-ring-end-3 c).After-cut_at-from).sizes

pub offset_bounds-sent-at : goal.offset_bounds-sent-at
offset_bounds-sent-at c = let L = lying (goal.at.offset_bounds-sent-at c).After-cut_at-from in record { fits = omega (arith, L) }

pub slice_bounds-ring-end-4 : goal.slice_bounds-ring-end-4
slice_bounds-ring-end-4 c = (lying (goal.at.slice_bounds-ring-end-4 c).After-cut_at-from).sent

pub returns : goal.returns
unfolding stands_on
returns c =
    c.stands.ensures
    ∙ ap₂ (λ (f : Flow) (m : Memory). stands c.args.mtu c.args.clock f (shown f.low f.next m)) c.flow_at-flow.ensures
    (laid_part (lying (goal.at.returns c).After-cut_at-from))
