-- `text::fill_digits`: a turn writes the last digit of what is left, and the first digit stands alone.
-- Assumes nothing.
use Rattle.text.proofs.Digits.{fill_none, fill_more, fill_last}
use Rattle.text.proofs.fill_digits.Goals as goal

pub loop-rest-init : goal.loop-rest-init
loop-rest-init c = fill_none c.args.n c.args.digits.now c.told-digits c.ranges.n.fits

pub loop-rest-preserved : goal.loop-rest-preserved
loop-rest-preserved c = (fill_more c.loop-rest.first c.loop-rest.rest c.loop-rest-test.true c.loop-rest.invariant).1

pub returns-clause-text : goal.returns-clause-text
returns-clause-text c = fill_last c.loop-rest.first c.loop-rest.rest c.loop-rest-test.false c.loop-rest.invariant
