-- A look over lent words: 2 where they are no state's, and else what the context finds.
-- Assumes nothing.
use mathlib.Core.Path.{◌≡◌, refl, ap, ◌∙◌}
use mathlib.Core.Bool.{not, true, false}
use mathlib.Core.List.{List}
use Prim.Native.Nat.{ℕ, ◌+◌, ◌*◌, ◌^◌}
use Rattle.rules.specs.Branch.{so_yes, so_no}
use Rattle.ledger.specs.Memory.{Memory}
use Rattle.sender.specs.Look.{Looked, looked}
use Rattle.context.specs.Context.{Context, context}
use Rattle.context.specs.declared.Controller.{Controller}
use Rattle.c_state.specs.Layout.{unpacked}
use Rattle.c_state.specs.declared.Unpacked.{Unpacked}
use Rattle.c_api.specs.Looks.{look_word, on_look_words}
use Rattle.c_api.proofs.Answers.{not_ok, ok, state_is}

module _ (look : Context → Looked) (ws fs : List ℕ) (m : Memory) (t : List ℕ) (given : Unpacked) (given_is : given ≡ unpacked ws) where
  pub look_none : not given.good ≡ true → 2 ≡ on_look_words look ws fs m t
  unfolding on_look_words
  look_none h = so_no _ _ _ _ (not_ok ws given given_is h) refl

  pub look_on : not given.good ≡ false → (number found r : ℕ) → looked number found ≡ look (context given.state fs m t)
      → r ≡ 2 ^ 32 * found + number → r ≡ on_look_words look ws fs m t
  unfolding on_look_words
  look_on h number found r e q =
      so_yes _ _ _ _ (ok ws given given_is h)
      (q ∙ ap look_word (e ∙ ap (λ (c : Controller). look (context c fs m t)) (state_is ws given given_is h)))
