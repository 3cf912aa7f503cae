-- `fresh` answers the window of a fresh state, by its definition.
use mathlib.Core.Path.{refl}
use Rattle.window.specs.Sound.{fresh_of}
use Rattle.window.proofs.bounds.fresh.Goals as goal

pub returns : goal.returns
unfolding fresh_of
returns c = refl
