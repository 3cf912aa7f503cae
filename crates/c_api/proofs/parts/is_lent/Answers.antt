-- `is_lent` tests in the order of `part_ok`; the flag is looked at only where there are six words.
use Rattle.c_api.proofs.Parting.{not_six, six}
use Rattle.c_api.proofs.parts.is_lent.Goals as goal

pub returns-then-part-ne-PART_WORDS : goal.returns-then-part-ne-PART_WORDS
returns-then-part-ne-PART_WORDS c = not_six _ _ c.if-part-ne-PART_WORDS.true

pub returns : goal.returns
returns c = six _ _ c.if-part-ne-PART_WORDS.false
