-- Judging send by send (`Reached`): the sends before send i were accepted, and what is left to make is the rest of the plan on the context
-- that they leave. A send that is refused ends it (`reached_refused`), one that is accepted goes on (`reached_next`).
-- Assumes nothing.
use mathlib.Core.Path.{◌≡◌, refl, sym, ap, ◌∙◌}
use mathlib.Core.Bool.{Bool, true, false, not, ◌||◌}
use mathlib.Core.List.{List, [], ◌∷◌}
use Prim.Native.Nat.{ℕ, zero, suc, ◌-◌, ◌^◌, ◌≤◌, ◌<◌}
use native.Mathlib.Omega.{arith}
use lib.Dec.{leb, ltb}
use lib.ListN.{length}
use borrow.Author.Tests.{lt-ltb, le-ltb, ltb-false, leb-false}
use Rattle.rules.specs.Branch.{if_eq, eq_yes, eq_no}
use Rattle.rules.specs.Rows.{first_of, first_none, first_here, first_later}
use Rattle.rules.specs.Test.{neither}
use Rattle.serial.specs.Psn.{psns}
use Rattle.window.specs.Limits.{time_end}
use Rattle.ledger.specs.Bounds.{Flown}
use Rattle.flow_table.specs.Words.{flows_most}
use Rattle.sender.specs.declared.Send.{Send}
use Rattle.context.specs.Context.{Context, Answered}
use Rattle.context.specs.Sound.{sound_context}
use Rattle.context.specs.Events.{decided, send_of, send_left, past_send, on_send}
use Rattle.context.proofs.Kept.{past_send_lem}
use Rattle.plan.specs.Plan.{sends_most, planned_at, sends_from}
use Rattle.plan.specs.Judge.{Judgement, judged, made_from, plan_rows, on_judge}
use Rattle.plan.specs.Ahead.{flow_by, ahead_of, ahead_after, ahead_number}
use Rattle.plan.specs.declared.Planned.{Planned}
use Rattle.plan.specs.declared.ahead.Ahead.{Ahead}
use Rattle.plan.proofs.Agrees.{Agrees, agrees_start, agrees_flown, ahead_number_lem, in_eight, in_backlog, agrees_after}

-- ---- one send of a sound context

module _ (time k : ℕ) (a : Send) (x : Context) (e : sound_context x ≡ true) where
  pub send_accepted : first_of (send_of time k a x) ≡ 0 → on_send time k a x ≡ record { number = 0; after = send_left time k a x }
  unfolding past_send decided
  send_accepted z = sym (past_send_lem x e time k a) ∙ sym (eq_yes (first_of (send_of time k a x)) 0 _ _ _ z refl)

  pub send_refused : (first_of (send_of time k a x) ≡ 0 → ⊥) → on_send time k a x
      ≡ record { number = first_of (send_of time k a x); after = x }
  unfolding past_send decided
  send_refused z = sym (past_send_lem x e time k a) ∙ sym (eq_no (first_of (send_of time k a x)) 0 _ _ _ z refl)

-- ---- the sends from one on

module _ (time i : ℕ) (p : Planned) (ps : List Planned) (x : Context) where
  abbrev answer : Answered → Judgement
  answer r = if_eq r.number 0 (made_from time (suc i) ps r.after) (judged r.number i)

  pub made_accepted : {y : Context} → on_send time p.flow p.send x ≡ record { number = 0; after = y }
      → made_from time i (p ∷ ps) x ≡ made_from time (suc i) ps y
  unfolding made_from
  made_accepted e = ap answer e ∙ sym (eq_yes 0 0 _ _ _ refl refl)

  pub made_refused : {n : ℕ} {y : Context} → on_send time p.flow p.send x ≡ record { number = n; after = y } → (n ≡ 0 → ⊥)
      → made_from time i (p ∷ ps) x ≡ judged n i
  unfolding made_from
  made_refused {n} e z = ap answer e ∙ sym (eq_no n 0 _ _ _ z refl)

pub planned_psn : (ws : List ℕ) (i : ℕ) → (planned_at ws i).send.psn < psns
unfolding planned_at
planned_psn ws i = omega arith

more_sends : (ws : List ℕ) (n i : ℕ) → i < n → sends_from ws i (n - i) ≡ planned_at ws i ∷ sends_from ws (suc i) (n - suc i)
unfolding sends_from
more_sends ws n i l = let e : n - i ≡ suc (n - suc i) = omega arith in rw e

no_sends : (ws : List ℕ) (n i : ℕ) → n ≤ i → sends_from ws i (n - i) ≡ []
unfolding sends_from
no_sends ws n i l = let e : n - i ≡ 0 = omega arith in rw e

-- ---- where judging a plan's n sends stands, before send i

pub record Reached (time : ℕ) (x₀ : Context) (ws : List ℕ) (n i : ℕ) (s : Ahead) : Type 0 where
  pub within : i ≤ n
  pub left : Context
  pub agrees : Agrees time x₀ ws i s left
  pub same : made_from time 0 (sends_from ws 0 n) x₀ ≡ made_from time i (sends_from ws i (n - i)) left

pub reached_start : (time : ℕ) (x : Context) (ws : List ℕ) (n : ℕ) {s : Ahead} → sound_context x ≡ true → x.state.clock ≤ time → time < time_end
    → s ≡ ahead_of x → Reached time x ws n 0 s
reached_start time x ws n e later ended at =
    rw at
    (record {
      within = omega arith;
      left = x;
      agrees = agrees_start x e time later ended ws;
      same = let z : n ≡ n - 0 = omega arith in ap (λ (m : ℕ). made_from time 0 (sends_from ws 0 m) x) z;
    })

module _ {time : ℕ} {x₀ : Context} {ws : List ℕ} {n i : ℕ} {s : Ahead} (R : Reached time x₀ ws n i s) where
  pub reached_end : n ≤ i → judged 0 0 ≡ made_from time 0 (sends_from ws 0 n) x₀
  unfolding made_from
  reached_end l = sym (R.same ∙ ap (λ (ps : List Planned). made_from time i ps R.left) (no_sends ws n i l))

  module _ (l : i < n) {m : ℕ} (told : m ≡ ahead_number x₀ ws i s (planned_at ws i)) where
    abbrev p : Planned
    p = planned_at ws i

    number_is : m ≡ first_of (send_of time p.flow p.send R.left)
    number_is = told ∙ ahead_number_lem R.agrees p (planned_psn ws i)

    on_from_here : made_from time 0 (sends_from ws 0 n) x₀ ≡ made_from time i (p ∷ sends_from ws (suc i) (n - suc i)) R.left
    on_from_here = R.same ∙ ap (λ (ps : List Planned). made_from time i ps R.left) (more_sends ws n i l)

    pub reached_refused : (m ≡ 0 → ⊥) → judged m i ≡ made_from time 0 (sends_from ws 0 n) x₀
    reached_refused z =
        ap (λ (q : ℕ). judged q i) number_is
        ∙ sym (on_from_here
        ∙ made_refused time i p _ R.left (send_refused time p.flow p.send R.left R.agrees.sound (λ q. z (number_is ∙ q)))
        (λ q. z (number_is ∙ q)))

    module _ (z : m ≡ 0) where
      refuses_none : first_of (send_of time p.flow p.send R.left) ≡ 0
      refuses_none = sym number_is ∙ z

      -- what is asked where the send is taken in
      pub after_asks : ((p.flow < flows_most) × Flown (2 ^ 26) s.in_flight)
          × (p.send.resend ≡ false → p.send.size ≤ (flow_by s p.flow).backlog)
      after_asks = (
        (in_eight R.agrees p (planned_psn ws i) refl refuses_none, agrees_flown R.agrees),
        in_backlog R.agrees p (planned_psn ws i) refl refuses_none,
      )

      pub reached_next : {t : Ahead} {j : ℕ} → t ≡ ahead_after s p → j ≡ suc i → Reached time x₀ ws n j t
      reached_next at ej =
          rw (at, ej)
          (record {
            within = omega arith;
            left = send_left time p.flow p.send R.left;
            agrees = agrees_after R.agrees p (planned_psn ws i) refl refuses_none;
            same =
                on_from_here
                ∙ made_accepted time i p _ R.left
                (send_accepted time p.flow p.send R.left R.agrees.sound refuses_none);
          })

-- ---- the whole judge

pub sends_length : (ws : List ℕ) (i n : ℕ) → length (sends_from ws i n) ≡ n
unfolding sends_from
sends_length ws i zero = refl
sends_length ws i (suc n) = ap suc (sends_length ws (suc i) n)

module _ (time : ℕ) (plan : List Planned) (x : Context) where
  abbrev late : Bool
  late = ltb time x.state.clock || leb time_end time

  named_none : {n : ℕ} → (n ≡ 0 → ⊥) → n ≡ first_of (plan_rows time plan x) → judged n 0 ≡ on_judge time plan x
  unfolding on_judge
  named_none {n} z e = eq_no _ 0 _ _ _ (λ q. z (e ∙ q)) (ap (λ (m : ℕ). judged m 0) e)

  -- 2
  pub judge_2 : sound_context x ≡ false → judged 2 0 ≡ on_judge time plan x
  judge_2 s = named_none (λ q. omega (arith, q)) (first_here 2 2 _ _ (ap not s) refl)

  module _ (s : sound_context x ≡ true) where
    -- 3
    pub judge_3 : late ≡ true → judged 3 0 ≡ on_judge time plan x
    judge_3 t = named_none (λ q. omega (arith, q)) (first_later 3 2 _ _ (ap not s) (first_here 3 3 _ _ t refl))

    module _ (t : late ≡ false) where
      -- 27
      pub judge_27 : sends_most < length plan → judged 27 0 ≡ on_judge time plan x
      judge_27 h =
          named_none (λ q. omega (arith, q))
          (first_later 27 2 _ _ (ap not s)
          (first_later 27 3 _ _ t (first_here 27 27 _ _ (lt-ltb sends_most (length plan) h) refl)))

      -- the sends
      pub judge_made : {j : Judgement} → length plan ≤ sends_most → j ≡ made_from time 0 plan x → j ≡ on_judge time plan x
      unfolding on_judge
      judge_made h e =
          eq_yes _ 0 _ _ _
          (sym (first_later 0 2 _ _ (ap not s) (first_later 0 3 _ _ t (first_later 0 27 _ _ (le-ltb sends_most (length plan) h) first_none)))) e

-- a time that is not late
pub timely : (time clock : ℕ) → (ltb time clock || leb time_end time) ≡ false → (clock ≤ time) × (time < time_end)
timely time clock e =
    let n = neither (ltb time clock) (leb time_end time) e in
    (ltb-false time clock n.0, leb-false time_end time n.1)
