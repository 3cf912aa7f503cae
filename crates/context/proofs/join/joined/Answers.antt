-- `joined` is `joined_of`, field by field.
use mathlib.Core.Path.{refl}
use Rattle.context.specs.Context.{joined_of}
use Rattle.context.proofs.join.joined.Goals as goal

pub returns : goal.returns
unfolding joined_of
returns c = refl
