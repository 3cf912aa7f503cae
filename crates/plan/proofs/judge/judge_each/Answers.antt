-- `judge_each` judges send by send (proofs/Made).
use mathlib.Core.Path.{◌≡◌, refl, ap, ◌∙◌}
use Prim.Native.Nat.{ℕ}
use native.Mathlib.Omega.{arith}
use Rattle.std.specs.Prelude.{⊤, Err}
use Rattle.rules.specs.Verdict.{number_of, ok_zero, err_not}
use Rattle.ledger.specs.Memory.{memory}
use Rattle.context.specs.Context.{context}
use Rattle.plan.specs.Plan.{planned_at, sends_from, plan_of}
use Rattle.plan.specs.Ahead.{ahead_number, ahead_after}
use Rattle.plan.specs.Judge.{judgement_of, made_from}
use Rattle.plan.specs.declared.Planned.{Planned}
use Rattle.plan.proofs.Agrees.{agrees_flown}
use Rattle.plan.proofs.Made.{reached_start, reached_end, reached_refused, after_asks, reached_next}
use Rattle.plan.proofs.judge.judge_each.Goals as goal
use Rattle.plan.proofs.judge.judge_each.Goals.{After-judge_next-verdict, At-loop-i, In_default}

-- the number that was told is that of the plan's send i
told : (c : After-judge_next-verdict) →
    let handed = let a = c.args in
    context a.c a.flows.now (memory a.outstanding.now a.marked.now a.sizes.now a.sent.now) a.evs.now in
    let ws = c.args.plan.now in
    number_of c.judge_next-verdict.result ≡ ahead_number handed ws c.loop-i.i c.loop-i.s (planned_at ws c.loop-i.i)
told c =
    let handed = let a = c.args in
    context a.c a.flows.now (memory a.outstanding.now a.marked.now a.sizes.now a.sent.now) a.evs.now in
    c.judge_next-verdict.ensures
    ∙ ap (λ (p : Planned). ahead_number handed c.args.plan.now c.loop-i.i c.loop-i.s p) c.send_at-p.ensures

-- all the sends, as many as were counted
whole : (c : At-loop-i) →
    let handed = let a = c.args in
    context a.c a.flows.now (memory a.outstanding.now a.marked.now a.sizes.now a.sent.now) a.evs.now in
    made_from c.args.time 0 (sends_from c.args.plan.now 0 c.count-n.result) handed
    ≡ made_from c.args.time 0 (plan_of c.args.plan.now) handed
whole c =
    let handed = let a = c.args in
    context a.c a.flows.now (memory a.outstanding.now a.marked.now a.sizes.now a.sent.now) a.evs.now in
    ap (λ (m : ℕ). made_from c.args.time 0 (sends_from c.args.plan.now 0 m) handed) c.count-n.ensures

-- send i was accepted
accepted : (c : In_default) → number_of c.judge_next-verdict.result ≡ 0
accepted c = ok_zero _ _ c.in_default.is

pub loop-i-init : goal.loop-i-init
loop-i-init c =
    reached_start _ _ _ _ c.requires.evs_value c.requires.clock_le_time.0 c.requires.clock_le_time.1 c.start-s.ensures

pub judge_next-verdict-requires-clause-i_bound : goal.judge_next-verdict-requires-clause-i_bound
judge_next-verdict-requires-clause-i_bound c =
    (omega (arith, c.loop-i-test.true, c.count-n.ensures), agrees_flown c.loop-i.invariant.agrees)

pub returns-in-Err : goal.returns-in-Err
unfolding judgement_of
returns-in-Err c =
    let g = goal.at.returns-in-Err c in
    let refused : number_of {T = ⊤} (Err c.in-Err.refusal) ≡ number_of c.judge_next-verdict.result = rw c.in-Err.is refl in
    reached_refused c.loop-i.invariant c.loop-i-test.true (refused ∙ told g.After-judge_next-verdict)
    (err_not _ c.in-Err.refusal refl)
    ∙ whole g.At-loop-i

pub after-s-requires : goal.after-s-requires
after-s-requires c =
    let g = goal.at.after-s-requires c in
    let asks = after_asks c.loop-i.invariant c.loop-i-test.true (told g.After-judge_next-verdict)
    (accepted g.In_default) in
    let p = c.send_at-p.ensures in
    record { flow_lt_flows_most = rw p asks.0; size_bound = rw p asks.1 }

pub loop-i-preserved : goal.loop-i-preserved
loop-i-preserved c =
    let g = goal.at.loop-i-preserved c in
    reached_next c.loop-i.invariant c.loop-i-test.true (told g.After-judge_next-verdict) (accepted g.In_default)
    (c.after-s.ensures ∙ ap (ahead_after c.loop-i.s) c.send_at-p.ensures) (omega arith)

pub returns : goal.returns
unfolding judgement_of
returns c =
    let g = goal.at.returns c in
    reached_end c.loop-i.invariant c.loop-i-test.false ∙ whole g.At-loop-i
