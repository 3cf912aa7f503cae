-- `leave_fast_mode` switches fast mode off, by its definition.
use mathlib.Core.Path.{refl}
use Rattle.window.specs.Cases.{leave_fast_mode_of}
use Rattle.window.proofs.cases.leave_fast_mode.Goals as goal

pub returns : goal.returns
unfolding leave_fast_mode_of
returns c = refl
