-- `shared` is `shared_of`, field by field.
use mathlib.Core.Path.{refl}
use Rattle.context.specs.Context.{shared_of}
use Rattle.context.proofs.join.shared.Goals as goal

pub returns : goal.returns
unfolding shared_of
returns c = refl
