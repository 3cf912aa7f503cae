-- `nscc_nack` is the event, its word whole.
use mathlib.Core.Path.{◌∙◌}
use Rattle.c_api.proofs.Singles.{nack_double, beside_words_on}
use Rattle.c_api.proofs.nscc_nack.Goals as goal

pub returns : goal.returns
returns c = c.take.ensures
    ∙ beside_words_on _ _ _ _ _ _ (λ x. nack_double _ _ x _)
