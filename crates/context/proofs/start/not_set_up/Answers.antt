-- `not_set_up` answers the fresh state of no settings.
use mathlib.Core.Path.{refl, ap, ◌∙◌}
use Rattle.context.specs.Start.{fresh_state}
use Rattle.context.proofs.start.not_set_up.Goals as goal

pub returns : goal.returns
returns c = (c.fresh.ensures ∙ ap fresh_state c.no_settings.ensures, refl)
