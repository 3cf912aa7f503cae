-- `update_delay` is one step of the filter, by its definition.
use mathlib.Core.Path.{refl}
use Rattle.window.specs.Delays.{update_delay_of}
use Rattle.window.proofs.delay.update_delay.Goals as goal

pub returns : goal.returns
unfolding update_delay_of
returns c = refl
