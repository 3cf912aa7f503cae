-- A choice over lent words: 2 where they are no state's or there are not four to answer in, and else what the context chooses.
-- Assumes nothing.
use mathlib.Core.Path.{◌≡◌, refl, ap, ◌∙◌}
use mathlib.Core.Bool.{Bool, not, true, false, ◌&&◌}
use mathlib.Core.List.{List}
use mathlib.Core.Option.{Option}
use Prim.Native.Nat.{ℕ}
use lib.ListN.{length}
use borrow.Author.Tests.{eq-eqb, ne_eqb}
use Rattle.rules.specs.Branch.{eq_yes, eq_no, so_yes, so_no}
use Rattle.rules.specs.Test.{whole}
use Rattle.ledger.specs.Memory.{Memory}
use Rattle.context.specs.Context.{context}
use Rattle.context.specs.Turns.{chose, on_choose}
use Rattle.context.specs.declared.Controller.{Controller}
use Rattle.context.specs.declared.choice.Turn.{Turn}
use Rattle.c_state.specs.Layout.{words_ok, unpacked}
use Rattle.c_state.specs.declared.Unpacked.{Unpacked}
use Rattle.c_api.specs.Calls.{words_after}
use Rattle.c_api.specs.Turns.{turn_count, turn_words, turn_after, choosing, packed_turn, on_choose_words}
use Rattle.c_api.proofs.Answers.{not_ok, ok, state_is}

-- ---- the four words

module _ (n : ℕ) (turn : List ℕ) (o : Option Turn) where
  pub turn_stored : n ≡ 0 → (xs : List ℕ) → xs ≡ turn_words o → xs ≡ turn_after n turn o
  unfolding turn_after
  turn_stored e xs f = eq_yes n 0 xs (turn_words o) turn e f

  pub turn_left : (n ≡ 0 → ⊥) → turn ≡ turn_after n turn o
  unfolding turn_after
  turn_left h = eq_no n 0 turn (turn_words o) turn h refl

-- ---- the answer, by the tests in their order

module _ (ws fs : List ℕ) (m : Memory) (t turn : List ℕ) where
  pub not_four : (length turn ≡ turn_count → ⊥) → choosing 2 ws turn ≡ on_choose_words ws fs m t turn
  unfolding on_choose_words
  not_four h = so_no _ _ _ _ (ap (λ (b : Bool). b && words_ok ws) (ne_eqb (length turn) turn_count h)) refl

  module _ (four : length turn ≡ turn_count) (given : Unpacked) (given_is : given ≡ unpacked ws) where
    pub choose_none : not given.good ≡ true → choosing 2 ws turn ≡ on_choose_words ws fs m t turn
    unfolding on_choose_words
    choose_none h =
        so_no _ _ _ _ (ap (λ (b : Bool). b && words_ok ws) (eq-eqb (length turn) turn_count four) ∙ not_ok ws given given_is h) refl

    pub choose_on : not given.good ≡ false → (n v : ℕ) (o : Option Turn) (c : Controller) → n ≡ v
        → chose v o (context c fs m t) ≡ on_choose (context given.state fs m t)
        → (xs ys : List ℕ) → xs ≡ words_after n ws c → ys ≡ turn_after v turn o → choosing n xs ys ≡ on_choose_words ws fs m t turn
    unfolding on_choose_words
    choose_on h n v o c q e xs ys k l =
        so_yes _ _ _ _ (whole (eq-eqb (length turn) turn_count four) (ok ws given given_is h))
        (rw (k, l, q)
        (ap (packed_turn ws turn) (e ∙ ap (λ (d : Controller). on_choose (context d fs m t)) (state_is ws given given_is h))))
