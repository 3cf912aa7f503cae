-- `restart` starts the next round, by its definition.
use mathlib.Core.Path.{refl}
use Rattle.window.specs.Quick.{restart_of}
use Rattle.window.proofs.quick.restart.Goals as goal

pub returns : goal.returns
unfolding restart_of
returns c = refl
