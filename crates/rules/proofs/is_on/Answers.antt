use Rattle.std.proofs.Common.{refl}
use Rattle.rules.specs.Mode.{is_on}
use Rattle.rules.proofs.is_on.Goals as goal

pub returns : goal.returns
unfolding is_on
returns c = refl
