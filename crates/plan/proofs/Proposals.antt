-- Planning turn by turn (`Planning`): the sends that are written were named and accepted one after another, and what is left to plan is the
-- rest, on the context that they leave. It ends where nobody is named (`planning_nobody`), a send is refused (`planning_refused`) or the
-- room is full (`planning_full`), and else goes on (`planning_next`).
-- Assumes nothing.
use mathlib.Core.Path.{◌≡◌, refl, sym, ap, ap₂, ◌∙◌}
use mathlib.Core.Bool.{Bool, true, false, not, ◌||◌}
use mathlib.Core.List.{List, [], ◌∷◌, ◌++◌, append-nil, append_assoc}
use mathlib.Core.Option.{some}
use Prim.Native.Nat.{ℕ, suc, ◌+◌, ◌-◌, ◌%◌, ◌^◌, ◌≤◌, ◌<◌, min}
use native.Mathlib.Omega.{arith}
use lib.Dec.{leb, ltb}
use lib.ListN.{length, length-append}
use Rattle.rules.specs.Branch.{if_eq, eq_yes, eq_no}
use Rattle.rules.specs.Rows.{first_of, first_none, first_here, first_later}
use Rattle.serial.specs.Psn.{psns}
use Rattle.window.specs.Limits.{time_end}
use Rattle.ledger.specs.Bounds.{Flown}
use Rattle.flow_table.specs.Words.{flows_most}
use Rattle.context.specs.Context.{Context, Answered, flow_count, cap_in}
use Rattle.context.specs.Sound.{sound_context}
use Rattle.context.specs.Events.{send_of, send_left, on_send}
use Rattle.context.specs.Turns.{Chosen, chose, turn_of, with_turn, with_turn_of, on_choose}
use Rattle.context.proofs.Sounds.{SoundContext, context_facts}
use Rattle.context.proofs.Fair.{choose_lasts}
use Rattle.context.proofs.Choices.{choose_nobody, choose_named}
use Rattle.plan.specs.Plan.{sends_most, send_count, with_send, written}
use Rattle.plan.specs.Ahead.{flow_by, ahead_number}
use Rattle.plan.specs.Course.{course_of, send_by, course_after}
use Rattle.plan.specs.Course.{named_by as named}
use Rattle.plan.specs.Planner.{planned_for, if_named, planned_from, planning, planning_rows, on_plan, Proposal, proposal, proposed}
use Rattle.plan.specs.declared.Planned.{Planned}
use Rattle.plan.specs.declared.course.Course.{Course}
use Rattle.plan.proofs.Agrees.{Agrees, agrees_start, agrees_flown, ahead_number_lem, in_backlog, agrees_after}
use Rattle.plan.proofs.Made.{send_accepted, send_refused}
use Rattle.plan.proofs.Courses.{Follows, send_is, names_turn, names_nobody}
use Rattle.plan.proofs.Plans.{with_length, planned_put, written_more, follows_start, agrees_turn, agrees_put, send_flow, send_psn}
use Rattle.plan.proofs.Plans.{follows_after}

-- ---- where planning stands, with i sends written

pub record Planning (time size : ℕ) (x₀ : Context) (ws₀ : List ℕ) (most i : ℕ) (s : Course) (ws : List ℕ) : Type 0 where
  pub within : i ≤ most
  pub done : List Planned
  pub done_long : length done ≡ i
  pub words : ws ≡ written ws₀ 0 done
  pub long : length ws ≡ length ws₀
  pub left : Context
  pub agrees : Agrees time x₀ ws i s.ahead left
  pub follows : Follows x₀ ws i s left
  pub same : planned_from most time size x₀ ≡ done ++ planned_from (most - i) time size left

pub planning_start : (time size : ℕ) (x : Context) (ws : List ℕ) (most : ℕ) {s : Course} → sound_context x ≡ true → x.state.clock ≤ time
    → time < time_end → s ≡ course_of x → Planning time size x ws most 0 s ws
unfolding course_of written
planning_start time size x ws most e later ended at =
    rw at
    (record {
      within = omega arith;
      done = [];
      done_long = refl;
      words = refl;
      long = refl;
      left = x;
      agrees = agrees_start x e time later ended ws;
      follows = follows_start x (context_facts x e) ws;
      same = let z : most ≡ most - 0 = omega arith in ap (λ (n : ℕ). planned_from n time size x) z;
    })

module _ {time size : ℕ} {x₀ : Context} {ws₀ : List ℕ} {most i : ℕ} {s : Course} {ws : List ℕ} (S₀ : SoundContext x₀)
    (R : Planning time size x₀ ws₀ most i s ws) where
  abbrev whole : List Planned
  whole = planned_from most time size x₀

  ended : planned_from (most - i) time size R.left ≡ [] → (i ≡ length whole) × (ws ≡ written ws₀ 0 whole)
  ended z =
      let e : R.done ≡ whole = sym (R.same ∙ ap (λ (ps : List Planned). R.done ++ ps) z ∙ append-nil R.done) in
      (sym R.done_long ∙ ap length e, R.words ∙ ap (written ws₀ 0) e)

  -- no room is left
  pub planning_full : most ≤ i → (i ≡ length whole) × (ws ≡ written ws₀ 0 whole)
  unfolding planned_from
  planning_full l = let z : most - i ≡ 0 = omega arith in ended (ap (λ (n : ℕ). planned_from n time size R.left) z)

  module _ (l : i < most) (k : ℕ) (at : k ≡ named x₀.state (cap_in x₀) (flow_count x₀) s) where
    -- what a choice makes of the rest
    abbrev rest : Chosen → List Planned
    rest c =
        if_named c.turn
        (λ t.
        let q = planned_for size R.left t in
        let r = on_send time q.flow q.send c.after in
        if_eq r.number 0 (q ∷ planned_from (most - suc i) time size r.after) [])

    rest_is : planned_from (most - i) time size R.left ≡ rest (on_choose R.left)
    unfolding planned_from
    rest_is = let z : most - i ≡ suc (most - suc i) = omega arith in ap (λ (n : ℕ). planned_from n time size R.left) z

    -- nobody is named
    pub planning_nobody : flow_count x₀ ≤ k → (i ≡ length whole) × (ws ≡ written ws₀ 0 whole)
    planning_nobody g =
        ended
        (rest_is
        ∙ ap rest (sym (choose_nobody R.left R.agrees.sound (names_nobody S₀ R.agrees R.follows at g))))

    module _ (h : k < flow_count x₀) where
      abbrev p : Planned
      p = send_by x₀ s size k

      abbrev y : Context
      y = with_turn_of ((k + 1) % flow_count R.left) R.left

      chosen : on_choose R.left ≡ chose 0 (some (turn_of R.left k)) y
      unfolding turn_of
      chosen =
          sym (choose_named R.left R.agrees.sound (turn_of R.left k) (names_turn S₀ R.agrees R.follows at h) _ refl)

      lasts : sound_context y ≡ true
      lasts = ap (λ (c : Chosen). sound_context c.after) (sym chosen) ∙ choose_lasts R.left R.agrees.sound

      B : Agrees time x₀ ws i s.ahead y
      B = agrees_turn _ lasts R.agrees

      fits : p.send.psn < psns
      fits = send_psn S₀ R.agrees R.follows size k h

      abbrev answer : Planned → Answered → List Planned
      answer q r = if_eq r.number 0 (q ∷ planned_from (most - suc i) time size r.after) []

      named_rest : planned_from (most - i) time size R.left ≡ answer p (on_send time p.flow p.send y)
      named_rest =
          rest_is ∙ ap rest chosen
          ∙ ap (λ (q : Planned). answer q (on_send time q.flow q.send y)) (sym (send_is S₀ R.agrees R.follows k h size))

      module _ {m : ℕ} (told : m ≡ ahead_number x₀ ws i s.ahead p) where
        number_is : m ≡ first_of (send_of time p.flow p.send y)
        number_is = told ∙ ahead_number_lem B p fits

        -- its send would be refused
        pub planning_refused : (m ≡ 0 → ⊥) → (i ≡ length whole) × (ws ≡ written ws₀ 0 whole)
        planning_refused z =
            let no : first_of (send_of time p.flow p.send y) ≡ 0 → ⊥ = λ q. z (number_is ∙ q) in
            ended (named_rest ∙ ap (answer p) (send_refused time p.flow p.send y lasts no) ∙ sym (eq_no _ 0 [] _ _ no refl))

        module _ (z : m ≡ 0) (c : i < send_count ws) where
          none_refuses : first_of (send_of time p.flow p.send y) ≡ 0
          none_refuses = sym number_is ∙ z

          -- what is asked where the send is taken in
          pub next_asks : {q : Planned} → q ≡ p
              → ((q.flow < flow_count x₀) × (q.flow < flows_most) × Flown (2 ^ 26) s.ahead.in_flight)
              × (q.send.resend ≡ false → q.send.size ≤ (flow_by s.ahead q.flow).backlog)
          next_asks e =
              let k-is = send_flow S₀ R.agrees R.follows size k h in
              rw e (
                (omega (arith, k-is), omega (arith, k-is, S₀.table.few), agrees_flown R.agrees),
                in_backlog (agrees_put p B) p fits (sym (planned_put ws i p c fits)) none_refuses,
              )

          pub planning_next : {t : Course} {j : ℕ} {vs : List ℕ} → t ≡ course_after x₀ s p → j ≡ suc i → vs ≡ with_send ws i p
              → Planning time size x₀ ws₀ most j t vs
          unfolding course_after with_turn
          planning_next et ej ev =
              rw (et, ej, ev)
              (record {
                within = omega arith;
                done = R.done ++ (p ∷ []);
                done_long = length-append R.done (p ∷ []) ∙ omega (arith, R.done_long);
                words =
                    let behind : i ≡ 0 + length R.done = omega (arith, R.done_long) in
                    ap₂ (λ (vs : List ℕ) (n : ℕ). with_send vs n p) R.words behind ∙ sym (written_more ws₀ 0 R.done p);
                long = with_length ws i p ∙ R.long;
                left = send_left time p.flow p.send y;
                agrees = agrees_after (agrees_put p B) p fits (sym (planned_put ws i p c fits)) none_refuses;
                follows =
                    follows_after S₀ R.agrees R.follows size k h c y
                    (ap (λ (n : ℕ). (k + 1) % n) R.agrees.count);
                same =
                    R.same
                    ∙ ap (λ (ps : List Planned). R.done ++ ps)
                    (named_rest ∙ ap (answer p) (send_accepted time p.flow p.send y lasts none_refuses) ∙ sym (eq_yes 0 0 _ _ _ refl refl))
                    ∙ sym (append_assoc R.done (p ∷ []) _);
              })

-- ---- the whole planner

module _ (time size : ℕ) (x : Context) (ws : List ℕ) where
  abbrev late : Bool
  late = ltb time x.state.clock || leb time_end time

  abbrev answered : Proposal
  answered = proposed ws (on_plan time size (send_count ws) x)

  no_plan : {n : ℕ} → (n ≡ 0 → ⊥) → n ≡ first_of (planning_rows time x) → proposal n 0 ws ≡ answered
  unfolding on_plan written
  no_plan {n} z e =
      ap (λ (m : ℕ). proposed ws (planning m [])) e ∙ ap (proposed ws) (eq_no (first_of (planning_rows time x)) 0 _ _ _ (λ q. z (e ∙ q)) refl)

  -- 2
  pub plan_2 : sound_context x ≡ false → proposal 2 0 ws ≡ answered
  plan_2 s = no_plan (λ q. omega (arith, q)) (first_here 2 2 _ _ (ap not s) refl)

  module _ (s : sound_context x ≡ true) where
    -- 3
    pub plan_3 : late ≡ true → proposal 3 0 ws ≡ answered
    plan_3 t = no_plan (λ q. omega (arith, q)) (first_later 3 2 _ _ (ap not s) (first_here 3 3 _ _ t refl))

    -- the plan
    pub plan_made : late ≡ false → {n : ℕ} {vs : List ℕ} → (n ≡ length (planned_from (min (send_count ws) sends_most) time size x))
        × (vs ≡ written ws 0 (planned_from (min (send_count ws) sends_most) time size x)) → proposal 0 n vs ≡ answered
    unfolding on_plan
    plan_made t e =
        ap₂ (λ (n : ℕ) (vs : List ℕ). proposal 0 n vs) e.0 e.1
        ∙ ap (proposed ws)
        (eq_yes _ 0 _ _ _ (sym (first_later 0 2 _ _ (ap not s) (first_later 0 3 _ _ t first_none))) refl)
