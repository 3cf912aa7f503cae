-- `back` is next - 1 - cum: what its two differences ensure.
use Rattle.serial.specs.Psn.{back_of}
use Rattle.serial.proofs.back.Goals as goal

pub returns : goal.returns
unfolding back_of
returns c = simp (← c.psn_minus.ensures) c.psn_minus-2.ensures
