-- `is_lent` tests in the order of `lent_ok`; the flag is looked at only where there are four words.
use Rattle.c_api.proofs.Handing.{not_four, four}
use Rattle.c_api.proofs.batch.is_lent.Goals as goal

pub returns-then-place-ne-PLACE_WORDS : goal.returns-then-place-ne-PLACE_WORDS
returns-then-place-ne-PLACE_WORDS c = not_four _ _ c.if-place-ne-PLACE_WORDS.true

pub returns : goal.returns
returns c = four _ _ c.if-place-ne-PLACE_WORDS.false
