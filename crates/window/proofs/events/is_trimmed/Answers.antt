-- `is_trimmed` tests the reason, by its definition.
use mathlib.Core.Path.{refl}
use Rattle.window.specs.Events.{is_trimmed}
use Rattle.window.proofs.events.is_trimmed.Goals as goal

pub returns : goal.returns
unfolding is_trimmed
returns c = refl
