-- `is_near` tests the delay, by its definition.
use mathlib.Core.Path.{refl}
use Rattle.window.specs.Cases.{is_near}
use Rattle.window.proofs.cases.is_near.Goals as goal

pub returns : goal.returns
unfolding is_near
returns c = refl
