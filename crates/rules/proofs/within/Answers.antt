use Rattle.std.proofs.Common.{refl}
use Rattle.rules.specs.Test.{inside}
use Rattle.rules.proofs.within.Goals as goal

pub returns : goal.returns
unfolding inside
returns c = refl
