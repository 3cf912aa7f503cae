-- `judge` tests 2, 3 and 27, then judges send by send (proofs/Made).
use mathlib.Core.Path.{◌≡◌, sym, ◌∙◌}
use mathlib.Core.Bool.{true, false, ◌||◌}
use native.Mathlib.Omega.{arith}
use lib.Dec.{leb, ltb}
use Rattle.rules.specs.Verdict.{number_of}
use Rattle.window.specs.Limits.{time_end}
use Rattle.ledger.specs.Memory.{memory}
use Rattle.context.specs.Context.{context}
use Rattle.context.specs.Sound.{sound_context}
use Rattle.plan.specs.Plan.{send_count, plan_of}
use Rattle.plan.proofs.Made.{sends_length, judge_2, judge_3, judge_27, judge_made, timely}
use Rattle.plan.proofs.judge.judge.Goals as goal
use Rattle.plan.proofs.judge.judge.Goals.{After-count, After-is_late}

-- past 2, and past 3
holds : (c : After-is_late) →
    let handed = let a = c.args in
    context a.c a.flows.now (memory a.outstanding.now a.marked.now a.sizes.now a.sent.now) a.evs.now in
    sound_context handed ≡ true
holds c = sym c.is_sound.ensures ∙ c.if-not-is_sound.false

in_time : (c : After-count) → (ltb c.args.time c.args.c.clock || leb time_end c.args.time) ≡ false
in_time c = sym c.is_late.ensures ∙ c.if-is_late.false

pub returns-then-not-is_sound : goal.returns-then-not-is_sound
unfolding number_of
returns-then-not-is_sound c =
    c.no_send.ensures ∙ judge_2 _ _ _ (sym c.is_sound.ensures ∙ c.if-not-is_sound.true)

pub returns-then-is_late : goal.returns-then-is_late
unfolding number_of
returns-then-is_late c =
    let g = goal.at.returns-then-is_late c in
    c.no_send-then-is_late.ensures ∙ judge_3 _ _ _ (holds g.After-is_late) (sym c.is_late.ensures ∙ c.if-is_late.true)

pub returns-then-count-gt-SENDS_MOST : goal.returns-then-count-gt-SENDS_MOST
unfolding number_of
returns-then-count-gt-SENDS_MOST c =
    let g = goal.at.returns-then-count-gt-SENDS_MOST c in
    let ws = c.args.plan.now in
    c.no_send-then-count-gt-SENDS_MOST.ensures
    ∙ judge_27 _ (plan_of ws) _ (holds g.After-is_late) (in_time g.After-count)
    (omega (arith, c.if-count-gt-SENDS_MOST.true, c.count.ensures, sends_length ws 0 (send_count ws)))

pub judge_each-requires-clause-clock_le_time : goal.judge_each-requires-clause-clock_le_time
judge_each-requires-clause-clock_le_time c =
    let g = goal.at.judge_each-requires-clause-clock_le_time c in
    timely _ _ (in_time g.After-count)

pub returns : goal.returns
returns c =
    let g = goal.at.returns c in
    let ws = c.args.plan.now in
    judge_made _ (plan_of ws) _ (holds g.After-is_late) (in_time g.After-count)
    (omega (arith, c.if-count-gt-SENDS_MOST.false, c.count.ensures, sends_length ws 0 (send_count ws))) c.judge_each.ensures
