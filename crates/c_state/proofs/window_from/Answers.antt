-- `window_from` is `window_from`, word by word.
use mathlib.Core.Path.{refl}
use Rattle.c_state.specs.Layout.{window_from}
use Rattle.c_state.proofs.window_from.Goals as goal

pub returns : goal.returns
unfolding window_from
returns c = refl
