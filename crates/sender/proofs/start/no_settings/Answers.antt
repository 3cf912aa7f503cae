-- `no_settings` is `no_settings`.
use mathlib.Core.Path.{refl}
use Rattle.sender.specs.Start.{no_settings}
use Rattle.sender.proofs.start.no_settings.Goals as goal

pub returns : goal.returns
unfolding no_settings
returns c = refl
