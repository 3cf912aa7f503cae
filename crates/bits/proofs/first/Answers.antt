-- `first` is the number of zeros below the lowest set bit: `first_law`.
use lib.Count.{trailing_le}
use Rattle.bits.proofs.Machine.{first_law}
use Rattle.bits.proofs.first.Goals as goal

pub returns : goal.returns
returns c = (first_law 64 c.args.word, trailing_le 64 c.args.word)
