-- `nack` lends flow k's part to the sender's step, its marked bits to be changed, and puts back what it leaves (`lift_answer`); the flow's
-- record stays (`same_table`). A flow out of range is 3 or 25.
use mathlib.Core.Path.{refl, ap, ◌∙◌}
use Prim.Native.Nat.{◌≤◌}
use native.Mathlib.Omega.{arith}
use Rattle.std.specs.Prelude.{⊤, Err}
use Rattle.rules.specs.Verdict.{err_same}
use Rattle.window.specs.declared.Sampling.{Sampling}
use Rattle.sender.specs.World.{view_of, world_of}
use Rattle.sender.specs.Events.{says_of}
use Rattle.sender.specs.Events.{past_nack as oneNack, past_nack_says as oneSays}
use Rattle.sender.specs.Steps.{nack_sampling, nack_step}
use Rattle.context.specs.Context.{joined_of, world_at, flow_count}
use Rattle.context.specs.Events.{past_nack}
use Rattle.context.specs.Lent.{context_given}
use Rattle.context.proofs.Joins.{Here, cut_asks, cut_here, here_fits, here_holds, lent_world, put_marked}
use Rattle.context.proofs.Lifts.{no_flow_decided, not_zero, nack_changes, flow_stays, same_table}
use Rattle.context.proofs.Lifts.{lift_answer, lift_says, no_flow_says}
use Rattle.context.proofs.rely.nack.Goals as goal
use Rattle.context.proofs.rely.nack.Goals.{After-cut_of-from}

here : (c : After-cut_of-from) →
    let handed = let a = c.args in
    context_given a.c a.flows.now a.outstanding.now a.marked.now a.sizes.now a.sent.now a.evs.now in
    Here (handed) c.args.flow c.cut_of-from.result.from c.cut_of-from.result.end
    c.cut_of-from.result.at c.cut_of-from.result.to
here c =
    let handed = let a = c.args in
    context_given a.c a.flows.now a.outstanding.now a.marked.now a.sizes.now a.sent.now a.evs.now in
    cut_here (handed) c.requires c.count-n.ensures c.if-n-flow.false c.cut_of-from.ensures

pub returns-then-n-flow : goal.returns-then-n-flow
unfolding past_nack world_at joined_of says_of
returns-then-n-flow c =
    let handed = let a = c.args in
    context_given a.c a.flows.now a.outstanding.now a.marked.now a.sizes.now a.sent.now a.evs.now in
    let sees = view_of (world_at c.args.flow (handed)) in
    let sampled = nack_sampling c.args.time c.args.a (sees) in
    let out : flow_count (handed) ≤ c.args.flow = omega (arith, c.if-n-flow.true, c.count-n.ensures) in
    let e = err_same {T = ⊤} Sampling (Err c.no_flow.result) _ refl ∙ c.no_flow.ensures in
    let answer = no_flow_decided c.args.flow (handed) _ _ out e _ in
    record {
      evs_value = answer;
      feedback_value = no_flow_says (sampled) answer (not_zero _ e);
    }

pub cut_of-from-requires : goal.cut_of-from-requires
cut_of-from-requires c =
    let handed = let a = c.args in
    context_given a.c a.flows.now a.outstanding.now a.marked.now a.sizes.now a.sent.now a.evs.now in
    cut_asks (handed) c.requires c.count-n.ensures c.if-n-flow.false

pub flow_at-requires : goal.flow_at-requires
flow_at-requires c = let H = here (goal.at.flow_at-requires c).After-cut_of-from in
    record {
      k_bound = H.inside;
      fits = here_fits H;
    }

pub offset_bounds-outstanding-from : goal.offset_bounds-outstanding-from
offset_bounds-outstanding-from c = let H = here (goal.at.offset_bounds-outstanding-from c).After-cut_of-from in record { fits = omega (arith, H.lies) }

pub slice_bounds-nack-end : goal.slice_bounds-nack-end
slice_bounds-nack-end c = (here (goal.at.slice_bounds-nack-end c).After-cut_of-from).lies.outstanding

pub offset_bounds-marked-from : goal.offset_bounds-marked-from
offset_bounds-marked-from c = let H = here (goal.at.offset_bounds-marked-from c).After-cut_of-from in record { fits = omega (arith, H.lies) }

pub slice_bounds-nack-end-2 : goal.slice_bounds-nack-end-2
slice_bounds-nack-end-2 c = (here (goal.at.slice_bounds-nack-end-2 c).After-cut_of-from).lies.marked

pub offset_bounds-sizes-at : goal.offset_bounds-sizes-at
offset_bounds-sizes-at c = let H = here (goal.at.offset_bounds-sizes-at c).After-cut_of-from in record { fits = omega (arith, H.lies) }

pub slice_bounds-nack-end-3 : goal.slice_bounds-nack-end-3
slice_bounds-nack-end-3 c = (here (goal.at.slice_bounds-nack-end-3 c).After-cut_of-from).lies.sizes

pub offset_bounds-sent-at : goal.offset_bounds-sent-at
offset_bounds-sent-at c = let H = here (goal.at.offset_bounds-sent-at c).After-cut_of-from in record { fits = omega (arith, H.lies) }

pub slice_bounds-nack-end-4 : goal.slice_bounds-nack-end-4
slice_bounds-nack-end-4 c = (here (goal.at.slice_bounds-nack-end-4 c).After-cut_of-from).lies.sent

pub nack-outcome-requires : goal.nack-outcome-requires
nack-outcome-requires c =
    let H = here (goal.at.nack-outcome-requires c).After-cut_of-from in
    here_holds H (lent_world H.lies c.flow_at.ensures c.joined-s.ensures)

pub returns : goal.returns
unfolding past_nack oneNack
returns c =
    let handed = let a = c.args in
    context_given a.c a.flows.now a.outstanding.now a.marked.now a.sizes.now a.sent.now a.evs.now in
    let sees = view_of (world_at c.args.flow (handed)) in
    let stepped = world_of (nack_step c.args.time c.args.a (sees)) in
    let sampled = nack_sampling c.args.time c.args.a (sees) in
    let H = here (goal.at.returns c).After-cut_of-from in
    let seen = lent_world H.lies c.flow_at.ensures c.joined-s.ensures in
    let e = c.nack-outcome.ensures.evs_value ∙ ap (oneNack c.args.time c.args.a) seen in
    let stays = same_table c.args.flow (handed) (flow_stays _ _ _ e (nack_changes c.args.time (sees) c.args.a)) in
    let answer = lift_answer H _ _ (stepped) c.shared.ensures stays (put_marked H.lies c.nack-outcome.new.marked) e in
    record {
      evs_value = answer;
      feedback_value = lift_says (sampled) e answer (c.nack-outcome.ensures.feedback_value ∙ ap (oneSays c.args.time c.args.a) seen);
    }
