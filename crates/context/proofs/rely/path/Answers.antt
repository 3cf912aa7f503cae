-- `path` lends flow k's part to the sender's step, which changes neither it nor the flow's record (`path_flow`, `put_none`); a flow out of
-- range is 3 or 25.
use mathlib.Core.Path.{refl, ap, ◌∙◌}
use Prim.Native.Nat.{ℕ, ◌≤◌}
use native.Mathlib.Omega.{arith}
use Rattle.std.specs.Prelude.{⊤, Err}
use Rattle.rules.specs.Verdict.{err_same}
use Rattle.sender.specs.World.{view_of, world_of}
use Rattle.sender.specs.Events.{past_path as onePath}
use Rattle.sender.specs.Steps.{path_step, route_of}
use Rattle.context.specs.Context.{joined_of, world_at, flow_count}
use Rattle.context.specs.Events.{past_path}
use Rattle.context.specs.Lent.{context_given}
use Rattle.context.proofs.Joins.{Here, cut_asks, cut_here, here_fits, here_holds, lent_world, put_none}
use Rattle.context.proofs.Lifts.{no_flow_chosen, path_flow, lift_route}
use Rattle.context.proofs.rely.path.Goals as goal
use Rattle.context.proofs.rely.path.Goals.{After-cut_of-from}

here : (c : After-cut_of-from) →
    let handed = let a = c.args in
    context_given a.c a.flows.now a.outstanding.now a.marked.now a.sizes.now a.sent.now a.evs.now in
    Here (handed) c.args.flow c.cut_of-from.result.from c.cut_of-from.result.end
    c.cut_of-from.result.at c.cut_of-from.result.to
here c =
    let handed = let a = c.args in
    context_given a.c a.flows.now a.outstanding.now a.marked.now a.sizes.now a.sent.now a.evs.now in
    cut_here (handed) c.requires c.count-n.ensures c.if-n-flow.false c.cut_of-from.ensures

pub returns-then-n-flow : goal.returns-then-n-flow
unfolding past_path world_at joined_of
returns-then-n-flow c =
    let handed = let a = c.args in
    context_given a.c a.flows.now a.outstanding.now a.marked.now a.sizes.now a.sent.now a.evs.now in
    let out : flow_count (handed) ≤ c.args.flow = omega (arith, c.if-n-flow.true, c.count-n.ensures) in
    no_flow_chosen c.args.flow (handed) _ _ out (err_same {T = ⊤} ℕ (Err c.no_flow.result) _ refl ∙ c.no_flow.ensures) _ _

pub cut_of-from-requires : goal.cut_of-from-requires
cut_of-from-requires c =
    let handed = let a = c.args in
    context_given a.c a.flows.now a.outstanding.now a.marked.now a.sizes.now a.sent.now a.evs.now in
    cut_asks (handed) c.requires c.count-n.ensures c.if-n-flow.false

pub flow_at-requires : goal.flow_at-requires
flow_at-requires c = let H = here (goal.at.flow_at-requires c).After-cut_of-from in
    record {
      k_bound = H.inside;
      fits = here_fits H;
    }

pub offset_bounds-outstanding-from : goal.offset_bounds-outstanding-from
offset_bounds-outstanding-from c = let H = here (goal.at.offset_bounds-outstanding-from c).After-cut_of-from in record { fits = omega (arith, H.lies) }

pub slice_bounds-ring-end : goal.slice_bounds-ring-end
slice_bounds-ring-end c = (here (goal.at.slice_bounds-ring-end c).After-cut_of-from).lies.outstanding

pub offset_bounds-marked-from : goal.offset_bounds-marked-from
offset_bounds-marked-from c = let H = here (goal.at.offset_bounds-marked-from c).After-cut_of-from in record { fits = omega (arith, H.lies) }

pub slice_bounds-ring-end-2 : goal.slice_bounds-ring-end-2
slice_bounds-ring-end-2 c = (here (goal.at.slice_bounds-ring-end-2 c).After-cut_of-from).lies.marked

pub offset_bounds-sizes-at : goal.offset_bounds-sizes-at
offset_bounds-sizes-at c = let H = here (goal.at.offset_bounds-sizes-at c).After-cut_of-from in record { fits = omega (arith, H.lies) }

pub slice_bounds-ring-end-3 : goal.slice_bounds-ring-end-3
slice_bounds-ring-end-3 c = (here (goal.at.slice_bounds-ring-end-3 c).After-cut_of-from).lies.sizes

pub offset_bounds-sent-at : goal.offset_bounds-sent-at
offset_bounds-sent-at c = let H = here (goal.at.offset_bounds-sent-at c).After-cut_of-from in record { fits = omega (arith, H.lies) }

pub slice_bounds-ring-end-4 : goal.slice_bounds-ring-end-4
slice_bounds-ring-end-4 c = (here (goal.at.slice_bounds-ring-end-4 c).After-cut_of-from).lies.sent

pub path-outcome-requires : goal.path-outcome-requires
path-outcome-requires c =
    let H = here (goal.at.path-outcome-requires c).After-cut_of-from in
    here_holds H (lent_world H.lies c.flow_at.ensures c.joined-s.ensures)

pub returns : goal.returns
unfolding past_path onePath
returns c =
    let handed = let a = c.args in
    context_given a.c a.flows.now a.outstanding.now a.marked.now a.sizes.now a.sent.now a.evs.now in
    let sees = view_of (world_at c.args.flow (handed)) in
    let stepped = world_of (path_step c.args.time (sees)) in
    let H = here (goal.at.returns c).After-cut_of-from in
    let seen = lent_world H.lies c.flow_at.ensures c.joined-s.ensures in
    let e = c.path-outcome.ensures ∙ ap (onePath c.args.time) seen in
    lift_route H _ _ (stepped) c.shared.ensures (path_flow c.args.flow (handed) c.args.time e) (put_none H.lies)
    (route_of c.args.time (sees)).ev e
