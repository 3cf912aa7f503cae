-- `settings_of` is `settings_from`, word by word.
use mathlib.Core.Path.{refl}
use Rattle.c_state.specs.Layout.{settings_from}
use Rattle.c_state.proofs.settings_of.Goals as goal

pub returns : goal.returns
unfolding settings_from
returns c = refl
