-- `new_data` lends flow k's part to the sender's step for what that requires, and puts back its record (`lift_answer`); a flow out of
-- range is 3 or 25.
use mathlib.Core.Path.{ap, ◌∙◌}
use Prim.Native.Nat.{◌≤◌}
use native.Mathlib.Omega.{arith}
use Rattle.flow_table.specs.Words.{with_backlog}
use Rattle.sender.specs.World.{view_of, world_of}
use Rattle.sender.specs.Events.{past_new_data as oneNewData}
use Rattle.sender.specs.Steps.{new_data_step}
use Rattle.context.specs.Context.{joined_of, world_at, flow_count}
use Rattle.context.specs.Events.{past_new_data}
use Rattle.context.specs.Lent.{context_given}
use Rattle.context.proofs.Joins.{Here, cut_asks, cut_here, here_fits, here_holds, lent_world, put_none}
use Rattle.context.proofs.Lifts.{no_flow_decided, new_data_changes, flow_left, lift_answer}
use Rattle.context.proofs.rely.new_data.Goals as goal
use Rattle.context.proofs.rely.new_data.Goals.{After-cut_of-from}

here : (c : After-cut_of-from) →
    let handed = let a = c.args in
    context_given a.c a.flows.now a.outstanding.now a.marked.now a.sizes.now a.sent.now a.evs.now in
    Here (handed) c.args.flow c.cut_of-from.result.from c.cut_of-from.result.end
    c.cut_of-from.result.at c.cut_of-from.result.to
here c =
    let handed = let a = c.args in
    context_given a.c a.flows.now a.outstanding.now a.marked.now a.sizes.now a.sent.now a.evs.now in
    cut_here (handed) c.requires c.count-n.ensures c.if-n-flow.false c.cut_of-from.ensures

pub returns-then-n-flow : goal.returns-then-n-flow
unfolding past_new_data world_at joined_of
returns-then-n-flow c =
    let handed = let a = c.args in
    context_given a.c a.flows.now a.outstanding.now a.marked.now a.sizes.now a.sent.now a.evs.now in
    let out : flow_count (handed) ≤ c.args.flow = omega (arith, c.if-n-flow.true, c.count-n.ensures) in
    no_flow_decided c.args.flow (handed) _ _ out c.no_flow.ensures _

pub cut_of-from-requires : goal.cut_of-from-requires
cut_of-from-requires c =
    let handed = let a = c.args in
    context_given a.c a.flows.now a.outstanding.now a.marked.now a.sizes.now a.sent.now a.evs.now in
    cut_asks (handed) c.requires c.count-n.ensures c.if-n-flow.false

pub flow_at-requires : goal.flow_at-requires
flow_at-requires c = let H = here (goal.at.flow_at-requires c).After-cut_of-from in
    record {
      k_bound = H.inside;
      fits = here_fits H;
    }

pub offset_bounds-outstanding-from : goal.offset_bounds-outstanding-from
offset_bounds-outstanding-from c = let H = here (goal.at.offset_bounds-outstanding-from c).After-cut_of-from in record { fits = omega (arith, H.lies) }

pub slice_bounds-ring-end : goal.slice_bounds-ring-end
slice_bounds-ring-end c = (here (goal.at.slice_bounds-ring-end c).After-cut_of-from).lies.outstanding

pub offset_bounds-marked-from : goal.offset_bounds-marked-from
offset_bounds-marked-from c = let H = here (goal.at.offset_bounds-marked-from c).After-cut_of-from in record { fits = omega (arith, H.lies) }

pub slice_bounds-ring-end-2 : goal.slice_bounds-ring-end-2
slice_bounds-ring-end-2 c = (here (goal.at.slice_bounds-ring-end-2 c).After-cut_of-from).lies.marked

pub offset_bounds-sizes-at : goal.offset_bounds-sizes-at
offset_bounds-sizes-at c = let H = here (goal.at.offset_bounds-sizes-at c).After-cut_of-from in record { fits = omega (arith, H.lies) }

pub slice_bounds-ring-end-3 : goal.slice_bounds-ring-end-3
slice_bounds-ring-end-3 c = (here (goal.at.slice_bounds-ring-end-3 c).After-cut_of-from).lies.sizes

pub offset_bounds-sent-at : goal.offset_bounds-sent-at
offset_bounds-sent-at c = let H = here (goal.at.offset_bounds-sent-at c).After-cut_of-from in record { fits = omega (arith, H.lies) }

pub slice_bounds-ring-end-4 : goal.slice_bounds-ring-end-4
slice_bounds-ring-end-4 c = (here (goal.at.slice_bounds-ring-end-4 c).After-cut_of-from).lies.sent

pub new_data-outcome-requires : goal.new_data-outcome-requires
new_data-outcome-requires c =
    let H = here (goal.at.new_data-outcome-requires c).After-cut_of-from in
    here_holds H (lent_world H.lies c.flow_at.ensures c.joined-s.ensures)

pub keep_backlog-requires : goal.keep_backlog-requires
unfolding oneNewData world_at joined_of
keep_backlog-requires c =
    let handed = let a = c.args in
    context_given a.c a.flows.now a.outstanding.now a.marked.now a.sizes.now a.sent.now a.evs.now in
    let sees = view_of (world_at c.args.flow (handed)) in
    let H = here (goal.at.keep_backlog-requires c).After-cut_of-from in
    let seen = lent_world H.lies c.flow_at.ensures c.joined-s.ensures in
    let e = c.new_data-outcome.ensures ∙ ap (oneNewData c.args.time c.args.bytes) seen in
    record {
      k_bound = H.inside;
      leaves = flow_left _ _ _ e with_backlog (new_data_changes c.args.time (sees) c.args.bytes);
    }

pub returns : goal.returns
unfolding past_new_data oneNewData
returns c =
    let handed = let a = c.args in
    context_given a.c a.flows.now a.outstanding.now a.marked.now a.sizes.now a.sent.now a.evs.now in
    let sees = view_of (world_at c.args.flow (handed)) in
    let stepped = world_of (new_data_step c.args.time c.args.bytes (sees)) in
    let H = here (goal.at.returns c).After-cut_of-from in
    let seen = lent_world H.lies c.flow_at.ensures c.joined-s.ensures in
    let e = c.new_data-outcome.ensures ∙ ap (oneNewData c.args.time c.args.bytes) seen in
    lift_answer H _ _ (stepped) c.shared.ensures c.keep_backlog.ensures
    (put_none H.lies) e
