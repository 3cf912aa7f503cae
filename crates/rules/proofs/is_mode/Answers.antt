use Rattle.std.proofs.Common.{refl}
use Rattle.rules.specs.Mode.{is_mode}
use Rattle.rules.proofs.is_mode.Goals as goal

pub returns : goal.returns
unfolding is_mode
returns c = refl
