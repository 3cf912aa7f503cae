-- `unsent_or_old` is refusal 9: each branch opens one side of `unsent_or_old`.
use Rattle.std.proofs.Common.{le-ltb, lt-ltb}
use Rattle.serial.specs.Psn.{unsent_or_old}
use Rattle.serial.proofs.unsent_or_old.Goals as goal

pub returns-then-back-gt-REACH : goal.returns-then-back-gt-REACH
unfolding unsent_or_old
returns-then-back-gt-REACH c = simp (← c.back-back.ensures, lt-ltb _ _ c.if-back-gt-REACH.true)

pub returns : goal.returns
unfolding unsent_or_old
returns c =
    simp (← c.back-back.ensures, le-ltb _ _ c.if-back-gt-REACH.false, ← c.span.ensures)
