-- `forward` is the gap where it isn't below zero, by `gap_cast`, else 0, by `gap_none`.
use Rattle.serial.proofs.Counts.{gap_word, gap_cast, gap_none}
use Rattle.serial.proofs.forward.Goals as goal

pub returns-then-units-lt0 : goal.returns-then-units-lt0
returns-then-units-lt0 c = gap_none _ _ _ (gap_word _ _ _ c.gap-units.ensures) c.if-units-lt0.true

pub overflow_cast-result : goal.overflow_cast-result
overflow_cast-result c = (gap_cast _ _ _ (gap_word _ _ _ c.gap-units.ensures) c.if-units-lt0.false).0

pub returns : goal.returns
returns c = (gap_cast _ _ _ (gap_word _ _ _ c.gap-units.ensures) c.if-units-lt0.false).1
