-- `ack` lends flow k's part to the sender's step and puts back what it leaves (`lift_answer`); a flow out of range is 3 or 25.
use mathlib.Core.Path.{refl, ap, ◌∙◌}
use Prim.Native.Nat.{◌≤◌}
use native.Mathlib.Omega.{arith}
use borrow.Author.Rules.{rules}
use Rattle.std.specs.Prelude.{⊤, Err}
use Rattle.rules.specs.Verdict.{err_same}
use Rattle.window.specs.declared.Sampling.{Sampling}
use Rattle.flow_table.specs.Words.{with_acked}
use Rattle.sender.specs.World.{view_of, world_of}
use Rattle.sender.specs.Events.{says_of}
use Rattle.sender.specs.Events.{past_ack as oneAck, past_ack_says as oneSays}
use Rattle.sender.specs.Steps.{ack_sampling, ack_step}
use Rattle.context.specs.Context.{joined_of, world_at, flow_count}
use Rattle.context.specs.Events.{past_ack}
use Rattle.context.specs.Lent.{context_given}
use Rattle.context.proofs.Joins.{Here, cut_asks, cut_here, here_fits, here_holds, lent_world, put_slots}
use Rattle.context.proofs.Lifts.{no_flow_decided, not_zero, ack_changes, flow_left, lift_answer, lift_says, no_flow_says}
use Rattle.context.proofs.rely.ack.Goals as goal
use Rattle.context.proofs.rely.ack.Goals.{After-cut_of-from}

here : (c : After-cut_of-from) →
    let handed = let a = c.args in
    context_given a.c a.flows.now a.outstanding.now a.marked.now a.sizes.now a.sent.now a.evs.now in
    Here (handed) c.args.flow c.cut_of-from.result.from c.cut_of-from.result.end
    c.cut_of-from.result.at c.cut_of-from.result.to
here c =
    let handed = let a = c.args in
    context_given a.c a.flows.now a.outstanding.now a.marked.now a.sizes.now a.sent.now a.evs.now in
    cut_here (handed) c.requires c.count-n.ensures c.if-n-flow.false c.cut_of-from.ensures

pub returns-then-n-flow : goal.returns-then-n-flow
unfolding past_ack world_at joined_of says_of
returns-then-n-flow c =
    let handed = let a = c.args in
    context_given a.c a.flows.now a.outstanding.now a.marked.now a.sizes.now a.sent.now a.evs.now in
    let sees = view_of (world_at c.args.flow (handed)) in
    let sampled = ack_sampling c.args.time c.args.a (sees) in
    let out : flow_count (handed) ≤ c.args.flow = omega (arith, c.if-n-flow.true, c.count-n.ensures) in
    let e = err_same {T = ⊤} Sampling (Err c.no_flow.result) _ refl ∙ c.no_flow.ensures in
    let answer = no_flow_decided c.args.flow (handed) _ _ out e _ in
    record {
      evs_value = answer;
      feedback_value = no_flow_says (sampled) answer (not_zero _ e);
    }

pub cut_of-from-requires : goal.cut_of-from-requires
cut_of-from-requires c =
    let handed = let a = c.args in
    context_given a.c a.flows.now a.outstanding.now a.marked.now a.sizes.now a.sent.now a.evs.now in
    cut_asks (handed) c.requires c.count-n.ensures c.if-n-flow.false

pub flow_at-requires : goal.flow_at-requires
flow_at-requires c = let H = here (goal.at.flow_at-requires c).After-cut_of-from in
    record {
      k_bound = H.inside;
      fits = here_fits H;
    }

pub offset_bounds-outstanding-from : goal.offset_bounds-outstanding-from
offset_bounds-outstanding-from c = let H = here (goal.at.offset_bounds-outstanding-from c).After-cut_of-from in record { fits = omega (arith, H.lies) }

pub slice_bounds-ack-end : goal.slice_bounds-ack-end
slice_bounds-ack-end c = (here (goal.at.slice_bounds-ack-end c).After-cut_of-from).lies.outstanding

pub offset_bounds-marked-from : goal.offset_bounds-marked-from
offset_bounds-marked-from c = let H = here (goal.at.offset_bounds-marked-from c).After-cut_of-from in record { fits = omega (arith, H.lies) }

pub slice_bounds-ack-end-2 : goal.slice_bounds-ack-end-2
slice_bounds-ack-end-2 c = (here (goal.at.slice_bounds-ack-end-2 c).After-cut_of-from).lies.marked

pub offset_bounds-sizes-at : goal.offset_bounds-sizes-at
offset_bounds-sizes-at c = let H = here (goal.at.offset_bounds-sizes-at c).After-cut_of-from in record { fits = omega (arith, H.lies) }

pub slice_bounds-ack-end-3 : goal.slice_bounds-ack-end-3
slice_bounds-ack-end-3 c = (here (goal.at.slice_bounds-ack-end-3 c).After-cut_of-from).lies.sizes

pub offset_bounds-sent-at : goal.offset_bounds-sent-at
offset_bounds-sent-at c = let H = here (goal.at.offset_bounds-sent-at c).After-cut_of-from in record { fits = omega (arith, H.lies) }

pub slice_bounds-ack-end-4 : goal.slice_bounds-ack-end-4
slice_bounds-ack-end-4 c = (here (goal.at.slice_bounds-ack-end-4 c).After-cut_of-from).lies.sent

pub ack-outcome-requires : goal.ack-outcome-requires
ack-outcome-requires c =
    let H = here (goal.at.ack-outcome-requires c).After-cut_of-from in
    here_holds H (lent_world H.lies c.flow_at.ensures c.joined-s.ensures)

pub keep_acked-requires : goal.keep_acked-requires
unfolding oneAck world_at joined_of
keep_acked-requires c =
    let handed = let a = c.args in
    context_given a.c a.flows.now a.outstanding.now a.marked.now a.sizes.now a.sent.now a.evs.now in
    let sees = view_of (world_at c.args.flow (handed)) in
    let H = here (goal.at.keep_acked-requires c).After-cut_of-from in
    let seen = lent_world H.lies c.flow_at.ensures c.joined-s.ensures in
    let e = c.ack-outcome.ensures.evs_value ∙ ap (oneAck c.args.time c.args.a) seen in
    record {
      k_bound = H.inside;
      leaves = flow_left _ _ _ e with_acked (ack_changes c.args.time (sees) c.args.a);
    }

pub shape_of-outstanding : goal.shape_of-outstanding
shape_of-outstanding c =
    search (rules, c.outstanding-1.given)

pub shape_of-marked : goal.shape_of-marked
shape_of-marked c =
    search (rules, c.marked-1.given)

pub returns : goal.returns
unfolding past_ack oneAck
returns c =
    let handed = let a = c.args in
    context_given a.c a.flows.now a.outstanding.now a.marked.now a.sizes.now a.sent.now a.evs.now in
    let sees = view_of (world_at c.args.flow (handed)) in
    let stepped = world_of (ack_step c.args.time c.args.a (sees)) in
    let sampled = ack_sampling c.args.time c.args.a (sees) in
    let H = here (goal.at.returns c).After-cut_of-from in
    let seen = lent_world H.lies c.flow_at.ensures c.joined-s.ensures in
    let e = c.ack-outcome.ensures.evs_value ∙ ap (oneAck c.args.time c.args.a) seen in
    let answer = lift_answer H _ _ (stepped) c.shared.ensures c.keep_acked.ensures
    (put_slots H.lies c.ack-outcome.new.outstanding c.ack-outcome.new.marked c.ack-outcome.new.sizes c.ack-outcome.new.sent) e in
    record {
      evs_value = answer;
      feedback_value = lift_says (sampled) e answer (c.ack-outcome.ensures.feedback_value ∙ ap (oneSays c.args.time c.args.a) seen);
    }
