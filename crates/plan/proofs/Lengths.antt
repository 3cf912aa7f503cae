-- How far a judgement and a plan go: a send that is named is one of 64 (`judge_most`), and a plan has at most 64 (`plan_most`).
-- Assumes nothing.
use mathlib.Core.List.{List, [], ◌∷◌}
use mathlib.Core.Option.{Option, none, some}
use Prim.Native.Nat.{ℕ, zero, suc, ◌+◌, ◌≤◌, min}
use native.Mathlib.Omega.{arith}
use lib.ListN.{length}
use borrow.Author.Tests.{ltb-false}
use Rattle.rules.specs.Branch.{if_eq, eq_both}
use Rattle.rules.specs.Rows.{first_of, none_here}
use Rattle.context.specs.Context.{Context}
use Rattle.context.specs.Events.{on_send}
use Rattle.context.specs.Turns.{on_choose}
use Rattle.context.specs.declared.choice.Turn.{Turn}
use Rattle.plan.specs.Plan.{sends_most}
use Rattle.plan.specs.Judge.{Judgement, made_from, plan_rows, on_judge}
use Rattle.plan.specs.Planner.{planned_for, if_named, planned_from, Planning, on_plan}
use Rattle.plan.specs.declared.Planned.{Planned}

made_most : (time i : ℕ) (ps : List Planned) (x : Context) → (made_from time i ps x).send ≤ i + length ps
unfolding made_from
made_most time i [] x = omega arith
made_most time i (p ∷ ps) x =
    let r = on_send time p.flow p.send x in
    eq_both (λ (j : Judgement). j.send ≤ i + suc (length ps)) r.number 0 _ _
    (λ _. omega (arith, made_most time (suc i) ps r.after)) (λ _. omega arith)

pub judge_most : (time : ℕ) (plan : List Planned) (x : Context) → (on_judge time plan x).send ≤ sends_most
unfolding on_judge
judge_most time plan x =
    eq_both (λ (j : Judgement). j.send ≤ sends_most) (first_of (plan_rows time plan x)) 0 _ _
    (λ z.
    let a = none_here 2 _ _ (omega arith) z in
    let b = none_here 3 _ _ (omega arith) a.1 in
    let c = none_here 27 _ _ (omega arith) b.1 in
    omega (arith, made_most time 0 plan x, ltb-false sends_most (length plan) c.0))
    (λ _. omega arith)

pub planned_most : (n time size : ℕ) (x : Context) → length (planned_from n time size x) ≤ n
unfolding planned_from
planned_most zero time size x = omega arith
planned_most (suc n) time size x = by (on_choose x).turn (λ y. planned_most n time size y)
  where
    by : (t : Option Turn) → ((y : Context) → length (planned_from n time size y) ≤ n)
        → length
        (if_named t
        (λ u.
        let p = planned_for size x u in
        let r = on_send time p.flow p.send (on_choose x).after in
        if_eq r.number 0 (p ∷ planned_from n time size r.after) []))
        ≤ suc n
    by none on = omega arith
    by (some u) on =
        let p = planned_for size x u in
        let r = on_send time p.flow p.send (on_choose x).after in
        eq_both (λ (ps : List Planned). length ps ≤ suc n) r.number 0 _ _ (λ _. omega (arith, on r.after)) (λ _. omega arith)

pub plan_most : (time size room : ℕ) (x : Context) → length (on_plan time size room x).plan ≤ sends_most
unfolding on_plan
plan_most time size room x =
    eq_both (λ (r : Planning). length r.plan ≤ sends_most) _ 0 _ _ (λ _. omega (arith, planned_most (min room sends_most) time size x))
    (λ _. omega arith)
