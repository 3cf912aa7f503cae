-- `plan` tests 2 and 3, then plans turn by turn (proofs/Proposals).
use mathlib.Core.Path.{◌≡◌, sym, ◌∙◌}
use mathlib.Core.Bool.{true, false, ◌||◌}
use lib.Dec.{leb, ltb}
use Rattle.rules.specs.Verdict.{number_of}
use Rattle.window.specs.Limits.{time_end}
use Rattle.ledger.specs.Memory.{memory}
use Rattle.context.specs.Context.{context}
use Rattle.context.specs.Sound.{sound_context}
use Rattle.plan.proofs.Made.{timely}
use Rattle.plan.proofs.Proposals.{plan_2, plan_3, plan_made}
use Rattle.plan.proofs.planner.plan.Goals as goal
use Rattle.plan.proofs.planner.plan.Goals.{After-is_late, Else-is_late}

-- past 2, and past 3
holds : (c : After-is_late) →
    let handed = let a = c.args in
    context a.c a.flows.now (memory a.outstanding.now a.marked.now a.sizes.now a.sent.now) a.evs.now in
    sound_context handed ≡ true
holds c = sym c.is_sound.ensures ∙ c.if-not-is_sound.false

in_time : (c : Else-is_late) → (ltb c.args.time c.args.c.clock || leb time_end c.args.time) ≡ false
in_time c = sym c.is_late.ensures ∙ c.if-is_late.false

pub returns-then-not-is_sound : goal.returns-then-not-is_sound
unfolding number_of
returns-then-not-is_sound c =
    plan_2 _ _ _ _ (sym c.is_sound.ensures ∙ c.if-not-is_sound.true)

pub returns-then-is_late : goal.returns-then-is_late
unfolding number_of
returns-then-is_late c =
    let g = goal.at.returns-then-is_late c in
    plan_3 _ _ _ _ (holds g.After-is_late) (sym c.is_late.ensures ∙ c.if-is_late.true)

pub plan_each-requires : goal.plan_each-requires
plan_each-requires c =
    let g = goal.at.plan_each-requires c in
    record {
      evs_value = holds g.After-is_late;
      clock_le_time = timely _ _ (in_time g.Else-is_late);
    }

pub returns : goal.returns
unfolding number_of
returns c =
    let g = goal.at.returns c in
    plan_made _ _ _ _ (holds g.After-is_late) (in_time g.Else-is_late) c.plan_each.ensures
