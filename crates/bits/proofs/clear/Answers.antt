-- `clear` takes the mask's bits out: `clear_law`.
use Rattle.bits.proofs.Machine.{clear_law}
use Rattle.bits.proofs.clear.Goals as goal

pub returns : goal.returns
returns c = clear_law c.args.word c.args.mask c.ranges.word.fits c.ranges.mask.fits
