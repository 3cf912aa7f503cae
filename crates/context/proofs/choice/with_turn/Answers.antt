-- `with_turn` is `with_turn`, field by field.
use mathlib.Core.Path.{refl}
use Rattle.context.specs.Turns.{with_turn}
use Rattle.context.proofs.choice.with_turn.Goals as goal

pub returns : goal.returns
unfolding with_turn
returns c = refl
