-- `fresh` is `fresh_state`: what is shared of the sender's.
use mathlib.Core.Path.{ap, ◌∙◌}
use Rattle.context.specs.Context.{shared_of}
use Rattle.context.specs.Start.{fresh_state}
use Rattle.context.proofs.start.fresh.Goals as goal

pub returns : goal.returns
unfolding fresh_state
returns c = c.shared.ensures ∙ ap (shared_of 0) c.fresh.ensures
