-- `keep` stores where the number is 0, and else leaves the words.
use mathlib.Core.Path.{refl}
use Rattle.c_api.proofs.Answers.{stored, not_stored}
use Rattle.c_api.proofs.keep.Goals as goal

pub returns-then-number-eq0 : goal.returns-then-number-eq0
returns-then-number-eq0 c = stored _ _ refl _ _ c.if-number-eq0.true _ c.store.ensures

pub returns-else-number-eq0 : goal.returns-else-number-eq0
returns-else-number-eq0 c = not_stored _ _ refl _ _ c.if-number-eq0.false
