-- `avg_delay` reads the average, by its definition.
use mathlib.Core.Path.{refl}
use Rattle.window.specs.Delays.{avg_delay_of}
use Rattle.window.proofs.delay.avg_delay.Goals as goal

pub returns : goal.returns
unfolding avg_delay_of
returns c = refl
