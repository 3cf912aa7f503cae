-- `is_old` is the sign of the gap, by `gap_sign`.
use Rattle.serial.proofs.Counts.{gap_word, gap_sign}
use Rattle.serial.proofs.is_old.Goals as goal

pub returns : goal.returns
returns c = rw (gap_word _ _ _ c.gap.ensures) (gap_sign _ _)
