-- Planned sends over lent words: 2 where they are no state's, or where a plan to judge is not of whole sends, and else what the judge and
-- the planner answer. The send that is named, and how many sends a plan has, are at most 64, so that the word fits.
-- Assumes nothing.
use mathlib.Core.Path.{◌≡◌, refl, ap, ◌∙◌}
use mathlib.Core.Bool.{Bool, not, true, false, ◌&&◌}
use mathlib.Core.List.{List, [], ◌∷◌}
use Prim.Native.Nat.{ℕ, suc, ◌+◌, ◌*◌, ◌%◌, ◌^◌, ◌≤◌}
use native.Mathlib.Omega.{arith}
use lib.ListN.{length}
use borrow.Author.Tests.{eq-eqb, ne_eqb}
use Rattle.rules.specs.Branch.{so_yes, so_no, so_both, eq_both}
use Rattle.rules.specs.Rows.{first_of}
use Rattle.rules.specs.Test.{whole}
use Rattle.ledger.specs.Memory.{Memory}
use Rattle.context.specs.Context.{Context, context}
use Rattle.context.specs.Events.{on_send}
use Rattle.context.specs.declared.Controller.{Controller}
use Rattle.plan.specs.Plan.{send_words, sends_most, send_count, plan_of}
use Rattle.plan.specs.Judge.{Judgement, judged, made_from, plan_rows, on_judge}
use Rattle.plan.specs.Planner.{planning_rows, Planning, Proposal, proposal, proposed, on_plan}
use Rattle.plan.specs.declared.Planned.{Planned}
use Rattle.plan.proofs.Lengths.{judge_most, plan_most}
use Rattle.c_state.specs.Layout.{words_ok, unpacked}
use Rattle.c_state.specs.declared.Unpacked.{Unpacked}
use Rattle.c_api.specs.Plans.{judged_word, on_judge_words, plan_called, planned_word, on_plan_words}
use Rattle.c_api.proofs.Answers.{not_ok, ok, state_is}
use Rattle.c_api.proofs.Singles.{send_single}

-- ---- what stands above the 32 bits

module _ (time : ℕ) (x : Context) (number : ℕ) where
  pub send_most : (ps : List Planned) (send : ℕ) → judged number send ≡ on_judge time ps x → send ≤ sends_most
  send_most ps send e = omega (arith, ap (λ (j : Judgement). j.send) e, judge_most time ps x)

  pub count_most : (size room count : ℕ) (ws xs : List ℕ) → proposal number count xs ≡ proposed ws (on_plan time size room x)
      → count ≤ sends_most
  count_most size room count ws xs e = omega (arith, ap (λ (p : Proposal). p.count) e, plan_most time size room x)

-- ---- the number in them

-- it is one of the table's
judge_rows_most : (time : ℕ) (ps : List Planned) (x : Context) → first_of (plan_rows time ps x) ≤ 28
unfolding first_of
judge_rows_most time ps x =
    so_both (λ (n : ℕ). n ≤ 28) _ 2 _ (λ _. omega arith)
    (λ _.
    so_both (λ (n : ℕ). n ≤ 28) _ 3 _ (λ _. omega arith)
    (λ _. so_both (λ (n : ℕ). n ≤ 28) _ 27 _ (λ _. omega arith) (λ _. omega arith)))

plan_rows_most : (time : ℕ) (x : Context) → first_of (planning_rows time x) ≤ 28
unfolding first_of
plan_rows_most time x =
    so_both (λ (n : ℕ). n ≤ 28) _ 2 _ (λ _. omega arith)
    (λ _. so_both (λ (n : ℕ). n ≤ 28) _ 3 _ (λ _. omega arith) (λ _. omega arith))

made_number : (time i : ℕ) (ps : List Planned) (x : Context) → (made_from time i ps x).number ≤ 28
unfolding made_from
made_number time i [] x = omega arith
made_number time i (p ∷ ps) x =
    let r = on_send time p.flow p.send x in
    eq_both (λ (j : Judgement). j.number ≤ 28) r.number 0 _ _ (λ _. made_number time (suc i) ps r.after)
    (λ _. omega (arith, (send_single time p.flow x p.send).most))

pub judge_number : (time : ℕ) (ps : List Planned) (x : Context) → (on_judge time ps x).number ≤ 28
unfolding on_judge
judge_number time ps x =
    eq_both (λ (j : Judgement). j.number ≤ 28) (first_of (plan_rows time ps x)) 0 _ _ (λ _. made_number time 0 ps x)
    (λ _. judge_rows_most time ps x)

pub plan_number : (time size room : ℕ) (x : Context) → (on_plan time size room x).number ≤ 28
unfolding on_plan
plan_number time size room x =
    eq_both (λ (r : Planning). r.number ≤ 28) (first_of (planning_rows time x)) 0 _ _ (λ _. omega arith) (λ _. plan_rows_most time x)

-- ---- the judge, by the tests in their order

module _ (time : ℕ) (plan ws fs : List ℕ) (m : Memory) (t : List ℕ) where
  pub not_whole : (length plan % send_words ≡ 0 → ⊥) → 2 ≡ on_judge_words time plan ws fs m t
  unfolding on_judge_words
  not_whole h = so_no _ _ _ _ (ap (λ (b : Bool). b && words_ok ws) (ne_eqb (length plan % send_words) 0 h)) refl

  module _ (sends : length plan % send_words ≡ 0) (given : Unpacked) (given_is : given ≡ unpacked ws) where
    pub judge_none : not given.good ≡ true → 2 ≡ on_judge_words time plan ws fs m t
    unfolding on_judge_words
    judge_none h =
        so_no _ _ _ _ (ap (λ (b : Bool). b && words_ok ws) (eq-eqb (length plan % send_words) 0 sends) ∙ not_ok ws given given_is h) refl

    pub judge_on : not given.good ≡ false → (n number send : ℕ) → n ≡ number
        → judged number send ≡ on_judge time (plan_of plan) (context given.state fs m t)
        → 2 ^ 32 * send + n ≡ on_judge_words time plan ws fs m t
    unfolding on_judge_words
    judge_on h n number send q e =
        so_yes _ _ _ _ (whole (eq-eqb (length plan % send_words) 0 sends) (ok ws given given_is h))
        (rw q
        (ap judged_word
        (e ∙ ap (λ (c : Controller). on_judge time (plan_of plan) (context c fs m t)) (state_is ws given given_is h))))

-- ---- the planner

module _
    (time size : ℕ) (plan ws fs : List ℕ) (m : Memory) (t : List ℕ) (given : Unpacked) (given_is : given ≡ unpacked ws)
  where
    pub plan_none : not given.good ≡ true → plan_called 2 plan ≡ on_plan_words time size plan ws fs m t
    unfolding on_plan_words
    plan_none h = so_no _ _ _ _ (not_ok ws given given_is h) refl

    pub plan_on : not given.good ≡ false → (n number count : ℕ) (xs : List ℕ) → n ≡ number
        → proposal number count xs ≡ proposed plan (on_plan time size (send_count plan) (context given.state fs m t))
        → plan_called (2 ^ 32 * count + n) xs ≡ on_plan_words time size plan ws fs m t
    unfolding on_plan_words
    plan_on h n number count xs q e =
        so_yes _ _ _ _ (ok ws given given_is h)
        (rw q
        (ap planned_word
        (e
        ∙ ap (λ (c : Controller). proposed plan (on_plan time size (send_count plan) (context c fs m t)))
        (state_is ws given given_is h))))
