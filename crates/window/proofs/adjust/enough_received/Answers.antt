-- `enough_received` tests received, by its definition.
use mathlib.Core.Path.{refl}
use Rattle.window.specs.Adjust.{enough_received}
use Rattle.window.proofs.adjust.enough_received.Goals as goal

pub returns : goal.returns
unfolding enough_received
returns c = refl
