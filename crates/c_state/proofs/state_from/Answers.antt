-- `state_from` is `state_from`, part by part.
use Rattle.c_state.specs.Layout.{state_from}
use Rattle.c_state.proofs.state_from.Goals as goal

pub returns : goal.returns
unfolding state_from
returns c =
    rw (
      c.settings_of.ensures,
      c.totals_from.ensures,
      c.window_from.ensures,
    )
