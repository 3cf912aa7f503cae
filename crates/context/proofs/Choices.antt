-- The answer of a choice (request M-108), by what the code's tests and its round say.
-- Assumes nothing.
use mathlib.Core.Path.{◌≡◌, refl, sym, ap, ap₂, ◌∙◌}
use mathlib.Core.Bool.{true, false}
use mathlib.Core.Option.{Option, none, some}
use Prim.Native.Nat.{ℕ, ◌+◌, ◌%◌, ◌<◌}
use native.Mathlib.Omega.{arith}
use Rattle.rules.specs.Branch.{so_yes, so_no}
use Rattle.context.specs.Context.{Context, flow_count}
use Rattle.context.specs.Sound.{sound_context}
use Rattle.context.specs.Turns.{named_by, turn_of, offered_by, with_turn, turn_after, with_turn_of}
use Rattle.context.specs.Turns.{Chosen, chose, past_choose, on_choose}
use Rattle.context.specs.declared.choice.Turn.{Turn}
use Rattle.context.proofs.Fair.{choice_cases, named_there}

module _ (x : Context) where
  pub choose_unsound : sound_context x ≡ false → chose 2 none x ≡ on_choose x
  unfolding on_choose
  choose_unsound e = so_no (sound_context x) _ _ _ e refl

  module _ (sound : sound_context x ≡ true) where
    -- nobody: the turn stays
    pub choose_nobody : none ≡ offered_by x (named_by x) → chose 0 none x ≡ on_choose x
    unfolding on_choose past_choose offered_by turn_after with_turn
    choose_nobody e = so_yes (sound_context x) _ _ _ sound (by (named_by x) e)
      where
        by : (o : Option ℕ) → none ≡ offered_by x o → chose 0 none x ≡ chose 0 (offered_by x o) (with_turn_of (turn_after o x) x)
        by none q = refl
        by (some k) q = absurd (let z : ◌≡◌ {A = ℕ} 0 1 = cc in omega arith)

    module _ (t : Turn) (e : some t ≡ offered_by x (named_by x)) where
      told : (on_choose x).turn ≡ some t
      unfolding on_choose past_choose
      told = ap (λ (c : Chosen). c.turn) (sym (so_yes (sound_context x) _ _ _ sound refl)) ∙ sym e

      -- somebody: the flow is there ..
      pub choose_in : t.flow < flow_count x
      unfolding turn_of
      choose_in =
          choice_cases (λ (c : Chosen). c.turn ≡ some t → t.flow < flow_count x) x
          (λ _ q. absurd (let z : ◌≡◌ {A = ℕ} 0 1 = cc in omega arith))
          (λ _ _ q. absurd (let z : ◌≡◌ {A = ℕ} 0 1 = cc in omega arith))
          (λ k _ N q. let same : t ≡ turn_of x k = cc in omega (arith, ap (λ (u : Turn). u.flow) same, named_there N))
          told

      -- .. and the turn goes to the one after it
      pub choose_named : (turn : ℕ) → turn ≡ (t.flow + 1) % flow_count x → chose 0 (some t) (with_turn_of turn x) ≡ on_choose x
      unfolding on_choose past_choose offered_by turn_of turn_after
      choose_named turn at = so_yes (sound_context x) _ _ _ sound (by (named_by x) e)
        where
          by : (o : Option ℕ) → some t ≡ offered_by x o
              → chose 0 (some t) (with_turn_of turn x) ≡ chose 0 (offered_by x o) (with_turn_of (turn_after o x) x)
          by none q = absurd (let z : ◌≡◌ {A = ℕ} 0 1 = cc in omega arith)
          by (some k) q =
              let same : t ≡ turn_of x k = cc in
              ap₂ (λ (u : Option Turn) (n : ℕ). chose 0 u (with_turn_of n x)) q
              (at ∙ ap (λ (u : Turn). (u.flow + 1) % flow_count x) same)
