-- THE JUDGE IS EXACT (`judge_exact`): its answer is that of making the sends one after another, number and place. THE PLANNER'S PLANS ARE
-- ACCEPTED (`plans_accepted`). Of every context, sound or not, every plan and every time.
-- Assumes nothing.
use mathlib.Core.Path.{◌≡◌, refl, sym, ap, ◌∙◌, subst}
use mathlib.Core.Logic.{by_cases}
use mathlib.Core.Bool.{Bool, true, false, ◌||◌}
use mathlib.Core.List.{List, [], ◌∷◌, ◌++◌}
use mathlib.Core.Option.{Option, none, some}
use Prim.Native.Nat.{ℕ, zero, suc, ◌+◌, ◌-◌, ◌≤◌, ◌<◌, min}
use native.Mathlib.Decide.{ℕ_discrete}
use native.Mathlib.Omega.{arith}
use lib.Dec.{leb, ltb, eqb}
use lib.ListN.{length, get_or}
use borrow.Author.Tests.{not-false, le-ltb, lt-leb, eqb-false}
use Rattle.rules.specs.Branch.{if_eq, so_both, eq_yes, eq_no, eq_both}
use Rattle.rules.specs.Rows.{row, first_of, none_here}
use Rattle.rules.specs.Test.{neither}
use Rattle.window.specs.Limits.{time_end}
use Rattle.ledger.specs.Rows.{send_rows}
use Rattle.sender.specs.World.{ring_of}
use Rattle.sender.specs.Steps.{state_of, settled, send_step}
use Rattle.sender.specs.declared.Send.{Send}
use Rattle.context.specs.Context.{Context, Answered, joined_of, shared_of, world_at, put_world}
use Rattle.context.specs.Sound.{sound_context}
use Rattle.context.specs.Events.{send_of, send_left, on_send}
use Rattle.context.specs.Turns.{with_turn, with_turn_of, on_choose}
use Rattle.context.specs.declared.choice.Turn.{Turn}
use Rattle.context.proofs.Kept.{send_lasts}
use Rattle.context.proofs.Fair.{choose_lasts, choose_only}
use Rattle.plan.specs.Plan.{sends_most}
use Rattle.plan.specs.Judge.{Judgement, judged, made_from, plan_rows, on_judge}
use Rattle.plan.specs.Planner.{planned_for, if_named, planned_from, Planning, planning_rows, on_plan}
use Rattle.plan.specs.Statements.{send_numbers, Accepted, JudgeExact, PlansAccepted}
use Rattle.plan.specs.declared.Planned.{Planned}
use Rattle.plan.proofs.Lengths.{planned_most}
use Rattle.plan.proofs.Seeks.{differs}
use Rattle.plan.proofs.Made.{send_accepted, send_refused, made_accepted, made_refused, judge_made, timely}

-- ---- the sends, made one after another

-- an accepted judgement is of sends that are all accepted; another names the first that is not
module _ (time : ℕ) where
  all_accepted : (i : ℕ) (ps : List Planned) (x : Context) → (made_from time i ps x).number ≡ 0 → (j : ℕ) → j < length ps
      → Accepted time ps x j
  unfolding made_from send_numbers
  all_accepted i [] x e j h = refl
  all_accepted i (p ∷ ps) x e zero h =
      let r = on_send time p.flow p.send x in
      eq_both (λ (q : Judgement). q.number ≡ 0 → r.number ≡ 0) r.number 0 _ _ (λ z _. z) (λ _ q. q) e
  all_accepted i (p ∷ ps) x e (suc j) h =
      let r = on_send time p.flow p.send x in
      eq_both (λ (q : Judgement). q.number ≡ 0 → get_or (send_numbers time ps r.after) j 0 ≡ 0) r.number 0 _ _
      (λ _ q. all_accepted (suc i) ps r.after q j (omega arith)) (λ z q. absurd (z q)) e

  is_accepted : (i : ℕ) (ps : List Planned) (x : Context) → ((j : ℕ) → j < length ps → Accepted time ps x j)
      → made_from time i ps x ≡ judged 0 0
  unfolding made_from send_numbers
  is_accepted i [] x e = refl
  is_accepted i (p ∷ ps) x e =
      let r = on_send time p.flow p.send x in
      sym (eq_yes r.number 0 _ _ _ (e 0 (omega arith)) refl)
      ∙ is_accepted (suc i) ps r.after (λ j h. e (suc j) (omega arith))

  -- the first that fails of those from send i on, by a judgement
  abbrev First : ℕ → List Planned → Context → Judgement → Type 0
  First i ps x q =
      (i ≤ q.send) × (q.send < i + length ps) × ((j : ℕ) → j < q.send - i → Accepted time ps x j)
      × (get_or (send_numbers time ps x) (q.send - i) 0 ≡ q.number)

  module _ (i : ℕ) (p : Planned) (ps : List Planned) (x : Context) where
    abbrev r : Answered
    r = on_send time p.flow p.send x

    fails_here : (n : ℕ) → n ≡ r.number → First i (p ∷ ps) x (judged n i)
    unfolding send_numbers
    fails_here n e =
        let d : i - i ≡ 0 = omega arith in (
          omega arith,
          omega arith,
          λ j h. absurd (let z : ⊥ = omega arith in z),
          ap (λ (m : ℕ). get_or (send_numbers time (p ∷ ps) x) m 0) d ∙ sym e,
        )

    earlier : (n : ℕ) → r.number ≡ 0 → ((j : ℕ) → j < n → Accepted time ps r.after j) → (j : ℕ) → j < suc n
        → Accepted time (p ∷ ps) x j
    unfolding send_numbers
    earlier n z f zero h = z
    earlier n z f (suc j) h = f j (omega arith)

    fails_later : (q : Judgement) → r.number ≡ 0 → First (suc i) ps r.after q → First i (p ∷ ps) x q
    unfolding send_numbers
    fails_later q z f =
        let d : q.send - i ≡ suc (q.send - suc i) = omega (arith, f.0) in (
          omega (arith, f.0),
          omega (arith, f.1),
          λ j h. earlier (q.send - suc i) z f.2 j (omega (arith, h, d)),
          ap (λ (m : ℕ). get_or (send_numbers time (p ∷ ps) x) m 0) d ∙ f.3,
        )

  first_fails : (i : ℕ) (ps : List Planned) (x : Context) → ((made_from time i ps x).number ≡ 0 → ⊥) → First i ps x (made_from time i ps x)
  unfolding made_from
  first_fails i [] x e = absurd (e refl)
  first_fails i (p ∷ ps) x e =
      eq_both (λ (q : Judgement). (q.number ≡ 0 → ⊥) → First i (p ∷ ps) x q) (r i p ps x).number 0 _ _
      (λ z n. fails_later i p ps x _ z (first_fails (suc i) ps (r i p ps x).after n)) (λ z n. fails_here i p ps x _ refl) e

-- ---- no send is refused with 2, 3 or 27

abbrev Sends : ℕ → Type 0
Sends n = (n ≡ 2 → ⊥) × (n ≡ 3 → ⊥) × (n ≡ 27 → ⊥)

-- a number that is none of them
sends : (n : ℕ) → eqb n 2 || eqb n 3 || eqb n 27 ≡ false → Sends n
sends n e =
    let a = neither (eqb n 2 || eqb n 3) (eqb n 27) e in
    let b = neither (eqb n 2) (eqb n 3) a.0 in
    (eqb-false n 2 b.0, eqb-false n 3 b.1, eqb-false n 27 a.1)

module _ (time k : ℕ) (a : Send) (x : Context) (late : (ltb time x.state.clock || leb time_end time) ≡ false) where
  last_6 : (t : Bool) → Sends (first_of (row t 6 ∷ []))
  unfolding first_of
  last_6 t = so_both Sends t 6 0 (λ _. sends 6 refl) (λ _. sends 0 refl)

  rows_sends : (b t : Bool) → Sends (first_of (send_rows (world_at k x).state.flow (ring_of (world_at k x)) a.psn a.size b ++ (row t 6 ∷ [])))
  unfolding first_of
  rows_sends true t = so_both Sends _ 8 _ (λ _. sends 8 refl) (λ _. last_6 t)
  rows_sends false t =
      so_both Sends _ 8 _ (λ _. sends 8 refl)
      (λ _. so_both Sends _ 5 _ (λ _. sends 5 refl) (λ _. so_both Sends _ 7 _ (λ _. sends 7 refl) (λ _. last_6 t)))

  send_sends : Sends (first_of (send_of time k a x))
  unfolding world_at joined_of first_of
  send_sends =
      so_both Sends _ 3 _ (λ z. absurd (differs z late))
      (λ _.
      so_both Sends _ 25 _ (λ _. sends 25 refl)
      (λ _. so_both Sends _ 4 _ (λ _. sends 4 refl) (λ _. rows_sends a.resend _)))

module _ (time k : ℕ) (a : Send) (x : Context) where
  left_clock : (send_left time k a x).state.clock ≤ time
  unfolding put_world shared_of send_step settled state_of
  left_clock = omega arith

  left_sound : sound_context x ≡ true → first_of (send_of time k a x) ≡ 0 → sound_context (send_left time k a x) ≡ true
  left_sound e z = ap (λ (r : Answered). sound_context r.after) (sym (send_accepted time k a x e z)) ∙ send_lasts x e time k a

made_sends : (time i : ℕ) (ps : List Planned) (x : Context) → sound_context x ≡ true → x.state.clock ≤ time → time < time_end
    → Sends (made_from time i ps x).number
unfolding made_from
made_sends time i [] x e later early = sends 0 refl
made_sends time i (p ∷ ps) x e later early =
    let k = p.flow in
    let a = p.send in
    let late : (ltb time x.state.clock || leb time_end time) ≡ false = rw (le-ltb time x.state.clock later, lt-leb time_end time early) in
    by_cases (ℕ_discrete (first_of (send_of time k a x)) 0)
    (λ z.
    subst (λ (j : Judgement). Sends j.number) (sym (made_accepted time i p ps x (send_accepted time k a x e z)))
    (made_sends time (suc i) ps (send_left time k a x) (left_sound time k a x e z) (left_clock time k a x) early))
    (λ z.
    subst (λ (j : Judgement). Sends j.number) (sym (made_refused time i p ps x (send_refused time k a x e z) z)) (send_sends time k a x late))

-- ---- the judge

module _ (time : ℕ) (plan : List Planned) (x : Context) where
  -- past 2, 3 and 27 the judge makes the sends
  made : first_of (plan_rows time plan x) ≡ 0 → on_judge time plan x ≡ made_from time 0 plan x
  unfolding on_judge
  made z = sym (eq_yes (first_of (plan_rows time plan x)) 0 _ _ _ z refl)

  passed : first_of (plan_rows time plan x) ≡ 0 → (sound_context x ≡ true) × (x.state.clock ≤ time) × (time < time_end)
  passed z =
      let a = none_here 2 _ _ (omega arith) z in
      let b = none_here 3 _ _ (omega arith) a.1 in
      let t = timely time x.state.clock b.0 in
      (not-false (sound_context x) a.0, t.0, t.1)

  pub judge_exact : JudgeExact time plan x
  unfolding on_judge
  judge_exact =
      record {
        no_send = λ z. sym (eq_no (first_of (plan_rows time plan x)) 0 _ _ _ z refl);
        accepted =
            λ z. (
              λ e. all_accepted time 0 plan x (sym (ap (λ (j : Judgement). j.number) (made z)) ∙ e),
              λ f. ap (λ (j : Judgement). j.number) (made z ∙ is_accepted time 0 plan x f),
            );
        named =
            λ z n.
            let f = first_fails time 0 plan x (λ q. n (ap (λ (j : Judgement). j.number) (made z) ∙ q)) in
            subst (λ (j : Judgement). (j.send < length plan) × ((i : ℕ) → i < j.send → Accepted time plan x i)
            × (get_or (send_numbers time plan x) j.send 0 ≡ j.number)) (sym (made z)) (
              omega (arith, f.1),
              λ i h. f.2 i (omega (arith, h)),
              ap (λ (m : ℕ). get_or (send_numbers time plan x) m 0) (omega arith) ∙ f.3,
            );
        told =
            λ z.
            let p = passed z in
            subst (λ (j : Judgement). Sends j.number) (sym (made z)) (made_sends time 0 plan x p.0 p.1 p.2);
      }

-- ---- the planner

-- of two contexts that differ in the turn alone, a send is accepted by both, and leaves two such
module _ (time k : ℕ) (a : Send) (x : Context) (t u : ℕ) (et : sound_context (with_turn_of t x) ≡ true) (eu : sound_context (with_turn_of u x) ≡ true)
    (z : (on_send time k a (with_turn_of u x)).number ≡ 0) where
  one_row : first_of (send_of time k a (with_turn_of u x)) ≡ first_of (send_of time k a (with_turn_of t x))
  unfolding world_at joined_of with_turn
  one_row = refl

  none_refuses : first_of (send_of time k a (with_turn_of u x)) ≡ 0
  none_refuses =
      by_cases (ℕ_discrete (first_of (send_of time k a (with_turn_of u x))) 0) (λ q. q)
      (λ q. absurd (q (sym (ap (λ (r : Answered). r.number) (send_refused time k a (with_turn_of u x) eu q)) ∙ z)))

  turned : send_left time k a (with_turn_of t x) ≡ with_turn_of t (send_left time k a (with_turn_of u x))
  unfolding put_world shared_of world_at joined_of with_turn
  turned = refl

  both_accept : on_send time k a (with_turn_of t x) ≡ record { number = 0; after = with_turn_of t (on_send time k a (with_turn_of u x)).after }
  both_accept =
      send_accepted time k a (with_turn_of t x) et (sym one_row ∙ none_refuses)
      ∙ ap (λ (y : Context). record { number = 0; after = y })
      (turned ∙ ap (λ (r : Answered). with_turn_of t r.after) (sym (send_accepted time k a (with_turn_of u x) eu none_refuses)))

-- each send of a plan is accepted by a context that differs from the planner's in the turn alone
module _ (time size : ℕ) where
  plan_accepted : (n i : ℕ) (x : Context) (t : ℕ) → sound_context x ≡ true → sound_context (with_turn_of t x) ≡ true
      → made_from time i (planned_from n time size x) (with_turn_of t x) ≡ judged 0 0
  unfolding planned_from made_from
  plan_accepted zero i x t e et = refl
  plan_accepted (suc n) i x t e et =
      subst (λ (c : Context). made_from time i (if_named (on_choose x).turn (λ u. next c (planned_for size x u))) (with_turn_of t x) ≡ judged 0 0)
      (sym (choose_only x)) (by (on_choose x).turn (λ y ey eyt. plan_accepted n (suc i) y t ey eyt))
    where
      next : Context → Planned → List Planned
      next c p =
          let r = on_send time p.flow p.send c in
          if_eq r.number 0 (p ∷ planned_from n time size r.after) []

      eu : sound_context (with_turn_of (on_choose x).after.state.turn x) ≡ true
      eu = ap sound_context (sym (choose_only x)) ∙ choose_lasts x e

      by : (o : Option Turn)
          → ((y : Context) → sound_context y ≡ true → sound_context (with_turn_of t y) ≡ true
          → made_from time (suc i) (planned_from n time size y) (with_turn_of t y) ≡ judged 0 0)
          → made_from time i (if_named o (λ u. next (with_turn_of (on_choose x).after.state.turn x) (planned_for size x u))) (with_turn_of t x)
          ≡ judged 0 0
      by none on = refl
      by (some u) on =
          let p = planned_for size x u in
          let k = p.flow in
          let a = p.send in
          let y = with_turn_of (on_choose x).after.state.turn x in
          let r = on_send time k a y in
          eq_both (λ (ps : List Planned). made_from time i ps (with_turn_of t x) ≡ judged 0 0) r.number 0 _ _
          (λ z.
          let same = both_accept time k a x t (on_choose x).after.state.turn et eu z in
          made_accepted time i p (planned_from n time size r.after) (with_turn_of t x) same
          ∙ on r.after (send_lasts y eu time k a)
          (ap (λ (q : Answered). sound_context q.after) (sym same) ∙ send_lasts (with_turn_of t x) et time k a))
          (λ _. refl)

-- a context with its own turn is itself
own_turn : (x : Context) → with_turn_of x.state.turn x ≡ x
unfolding with_turn
own_turn x = refl

module _ (time size room : ℕ) (x : Context) where
  abbrev plan : List Planned
  plan = planned_from (min room sends_most) time size x

  module _ (z : first_of (planning_rows time x) ≡ 0) where
    sound : sound_context x ≡ true
    sound = not-false (sound_context x) (none_here 2 _ _ (omega arith) z).0

    late : (ltb time x.state.clock || leb time_end time) ≡ false
    late = (none_here 3 _ _ (omega arith) (none_here 2 _ _ (omega arith) z).1).0

    accepted_so : on_judge time plan x ≡ judged 0 0
    accepted_so =
        sym
        (judge_made time plan x sound late (omega (arith, planned_most (min room sends_most) time size x))
        (sym (ap (made_from time 0 plan) (sym (own_turn x))
        ∙ plan_accepted time size (min room sends_most) 0 x x.state.turn sound (ap sound_context (own_turn x) ∙ sound))))

  pub plans_accepted : PlansAccepted time size room x
  unfolding on_plan
  plans_accepted =
      record {
        accepted =
            eq_both (λ (r : Planning). r.number ≡ 0 → on_judge time r.plan x ≡ judged 0 0) (first_of (planning_rows time x)) 0 _ _
            (λ z _. accepted_so z) (λ z q. absurd (z q));
        refused =
            eq_both (λ (r : Planning). (r.number ≡ 0 → ⊥) → r.plan ≡ []) (first_of (planning_rows time x)) 0 _ _ (λ _ q. absurd (q refl))
            (λ _ _. refl);
      }
