-- `nscc_path` is the event, its word whole.
use mathlib.Core.Path.{◌∙◌}
use Rattle.c_api.proofs.Singles.{path_double, beside_words_on}
use Rattle.c_api.proofs.nscc_path.Goals as goal

pub returns : goal.returns
returns c = c.take.ensures
    ∙ beside_words_on _ _ _ _ _ _ (path_double _ _)
