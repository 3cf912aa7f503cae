-- `period_passed` tests the time, by its definition.
use mathlib.Core.Path.{refl}
use Rattle.window.specs.Adjust.{period_passed}
use Rattle.window.proofs.adjust.period_passed.Goals as goal

pub returns : goal.returns
unfolding period_passed
returns c = refl
