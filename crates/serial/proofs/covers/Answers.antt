-- `covers` tests the cumulative part, then the map's bit: each branch opens one side of `covered`.
use Rattle.std.proofs.Common.{le-leb}
use borrow.Author.Tests.{lt-leb}
use Rattle.serial.specs.Psn.{covered}
use Rattle.serial.proofs.covers.Goals as goal

pub returns-then-psn_minus-le-REACH : goal.returns-then-psn_minus-le-REACH
unfolding covered
returns-then-psn_minus-le-REACH c = simp (← c.psn_minus.ensures, le-leb _ _ c.if-psn_minus-le-REACH.true)

pub returns : goal.returns
unfolding covered
returns c =
    simp (
      ← c.psn_minus.ensures,
      lt-leb _ _ c.if-psn_minus-le-REACH.false,
      ← c.psn_plus.ensures,
      ← c.psn_minus-2.ensures,
    )
    c.bit_of.ensures
