-- `nscc_loss` is the event, whose number fits 32 bits.
use mathlib.Core.Path.{◌∙◌}
use native.Mathlib.Omega.{arith}
use Rattle.c_api.proofs.Singles.{loss_single, words_on, word_most_lem}
use Rattle.c_api.proofs.nscc_loss.Goals as goal

pub overflow_cast-result : goal.overflow_cast-result
overflow_cast-result c = omega (
  arith,
  word_most_lem _ _ _ _ _ _ (λ x. loss_single _ _ x _) _
      c.take.ensures,
)

pub returns : goal.returns
returns c = c.take.ensures
    ∙ words_on _ _ _ _ _ _ (λ x. loss_single _ _ x _)
