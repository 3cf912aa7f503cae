-- `plan_each` plans turn by turn (proofs/Proposals).
use mathlib.Core.Path.{◌≡◌, sym, ap, ◌∙◌}
use Prim.Native.Nat.{ℕ, ◌/◌, ◌<◌}
use native.Mathlib.Omega.{arith}
use lib.ListN.{length}
use Rattle.rules.specs.Verdict.{number_of, unrefused_zero, unaccepted_not}
use Rattle.ledger.specs.Memory.{memory}
use Rattle.context.specs.Context.{context, flow_count, cap_in}
use Rattle.context.proofs.Sounds.{SoundContext, context_facts}
use Rattle.plan.specs.Plan.{send_count, with_send}
use Rattle.plan.specs.Ahead.{ahead_number}
use Rattle.plan.specs.Course.{named_by, send_by, course_after}
use Rattle.plan.specs.declared.Planned.{Planned}
use Rattle.plan.proofs.Agrees.{agrees_flown}
use Rattle.plan.proofs.Judging.{rooms}
use Rattle.plan.proofs.Courses.{turn_in}
use Rattle.plan.proofs.Coursing.{below_some, below_none}
use Rattle.plan.proofs.Proposals.{planning_start, planning_full, planning_nobody, planning_refused, next_asks, planning_next}
use Rattle.plan.proofs.planner.plan_each.Goals as goal
use Rattle.plan.proofs.planner.plan_each.Goals.{After-judge_next-verdict, At-loop-i, Else-is_err, In-Some, Start}

facts : (c : Start) →
    let handed = let a = c.args in
    context a.c a.flows.now (memory a.outstanding.now a.marked.now a.sizes.now a.sent.now) a.evs.now in
    SoundContext handed
facts c = context_facts _ c.requires.evs_value

-- who is named
who : (c : In-Some) →
    let a = c.args in
    let x = context a.c a.flows.now (memory a.outstanding.now a.marked.now a.sizes.now a.sent.now) a.evs.now in
    c.in-Some.k ≡ named_by x.state (cap_in x) (flow_count x) c.loop-i.s
who c =
    (below_some c.in-Some.ensures).0
    ∙ ap (λ (m : ℕ). named_by c.args.c (length c.args.sizes.now / m) m c.loop-i.s) c.count-n.ensures

-- it is a flow
there : (c : In-Some) →
    let handed = let a = c.args in
    context a.c a.flows.now (memory a.outstanding.now a.marked.now a.sizes.now a.sent.now) a.evs.now in
    c.in-Some.k < flow_count handed
there c = omega (arith, (below_some c.in-Some.ensures).1, c.count-n.ensures)

-- there is room for send i
in_room : (c : At-loop-i) → c.loop-i.i < c.room-most.result → c.loop-i.i < send_count c.loop-i.plan
in_room c h = omega (arith, h, c.room-most.ensures, c.loop-i.invariant.long)

-- the number that was told is that of what the flow sends
told : (c : After-judge_next-verdict) →
    let a = c.args in
    let x = context a.c a.flows.now (memory a.outstanding.now a.marked.now a.sizes.now a.sent.now) a.evs.now in
    number_of c.judge_next-verdict.result
    ≡ ahead_number x c.loop-i.plan c.loop-i.i c.loop-i.s.ahead (send_by x c.loop-i.s c.args.bytes c.in-Some.k)
told c =
    let handed = let a = c.args in
    context a.c a.flows.now (memory a.outstanding.now a.marked.now a.sizes.now a.sent.now) a.evs.now in
    c.judge_next-verdict.ensures
    ∙ ap (λ (p : Planned). ahead_number handed c.loop-i.plan c.loop-i.i c.loop-i.s.ahead p) c.send_of-p.ensures

-- its send is accepted
accepted : (c : Else-is_err) → number_of c.judge_next-verdict.result ≡ 0
accepted c = unrefused_zero c.judge_next-verdict.result _ c.is_err.ensures.value c.if-is_err.false

pub nonzero_div-cap : goal.nonzero_div-cap
nonzero_div-cap c =
    let g = goal.at.nonzero_div-cap c in
    omega (arith, c.count-n.ensures, (facts g.Start).table.some)

pub loop-i-init : goal.loop-i-init
loop-i-init c =
    planning_start _ _ _ _ _ c.requires.evs_value c.requires.clock_le_time.0 c.requires.clock_le_time.1 c.start-s.ensures

pub named-requires : goal.named-requires
named-requires c =
    let g = goal.at.named-requires c in
    let R = c.loop-i.invariant in
    let B = rooms _ c.requires.evs_value in
    record {
      turn_lt_n = (
        omega (arith, turn_in (facts g.Start) R.agrees R.follows, c.count-n.ensures),
        omega (arith, (facts g.Start).table.few, c.count-n.ensures),
      );
      mtu_bound = (B.0, B.1, agrees_flown R.agrees);
    }

pub returns-in_default : goal.returns-in_default
returns-in_default c =
    let g = goal.at.returns-in_default c in
    rw (← c.room-most.ensures)
    (planning_nobody (facts g.Start) c.loop-i.invariant c.loop-i-test.true _
    (ap (λ (m : ℕ). named_by c.args.c (length c.args.sizes.now / m) m c.loop-i.s) c.count-n.ensures)
    (omega (arith, below_none c.in_default.ensures, c.count-n.ensures)))

pub send_of-p-requires-clause-k_bound : goal.send_of-p-requires-clause-k_bound
send_of-p-requires-clause-k_bound c =
    let g = goal.at.send_of-p-requires-clause-k_bound c in
    (there g.In-Some, omega (arith, there g.In-Some, (facts g.Start).table.few))

pub judge_next-verdict-requires-clause-i_bound : goal.judge_next-verdict-requires-clause-i_bound
judge_next-verdict-requires-clause-i_bound c =
    let g = goal.at.judge_next-verdict-requires-clause-i_bound c in
    (omega (arith, in_room g.At-loop-i c.loop-i-test.true), agrees_flown c.loop-i.invariant.agrees)

pub returns-then-is_err : goal.returns-then-is_err
returns-then-is_err c =
    let g = goal.at.returns-then-is_err c in
    rw (← c.room-most.ensures)
    (planning_refused (facts g.Start) c.loop-i.invariant c.loop-i-test.true _ (who g.In-Some) (there g.In-Some)
    (told g.After-judge_next-verdict)
    (unaccepted_not c.judge_next-verdict.result _ c.is_err.ensures.value c.if-is_err.true))

pub put_send-requires : goal.put_send-requires
put_send-requires c =
    let g = goal.at.put_send-requires c in
    let asked = next_asks (facts g.Start) c.loop-i.invariant c.loop-i-test.true _ (who g.In-Some) (there g.In-Some)
    (told g.After-judge_next-verdict) (accepted g.Else-is_err) (in_room g.At-loop-i c.loop-i-test.true) c.send_of-p.ensures in
    (in_room g.At-loop-i c.loop-i-test.true, asked.0.1)

pub after-s-requires : goal.after-s-requires
after-s-requires c =
    let g = goal.at.after-s-requires c in
    let asked = next_asks (facts g.Start) c.loop-i.invariant c.loop-i-test.true _ (who g.In-Some) (there g.In-Some)
    (told g.After-judge_next-verdict) (accepted g.Else-is_err) (in_room g.At-loop-i c.loop-i-test.true) c.send_of-p.ensures in
    record { evs_value = c.requires.evs_value; flow_bound = asked.0; size_bound = asked.1 }

pub loop-i-preserved : goal.loop-i-preserved
loop-i-preserved c =
    let g = goal.at.loop-i-preserved c in
    let handed = let a = c.args in
    context a.c a.flows.now (memory a.outstanding.now a.marked.now a.sizes.now a.sent.now) a.evs.now in
    let p = c.send_of-p.ensures in
    planning_next (facts g.Start) c.loop-i.invariant c.loop-i-test.true _ (who g.In-Some) (there g.In-Some)
    (told g.After-judge_next-verdict) (accepted g.Else-is_err)
    (in_room g.At-loop-i c.loop-i-test.true)
    (c.after-s.ensures ∙ ap (course_after handed c.loop-i.s) p) (omega arith)
    (c.put_send.ensures ∙ ap (with_send c.loop-i.plan c.loop-i.i) p)

pub returns : goal.returns
returns c =
    let g = goal.at.returns c in
    let full = planning_full (facts g.Start) c.loop-i.invariant c.loop-i-test.false in
    let end : c.loop-i.i ≡ c.room-most.result = omega arith in
    rw (← c.room-most.ensures) (sym end ∙ full.0, full.1)
