-- `fresh` is `fresh_state`, with the window that `window` gives a fresh state.
use Rattle.sender.specs.Start.{fresh_state}
use Rattle.sender.proofs.start.fresh.Goals as goal

pub returns : goal.returns
unfolding fresh_state
returns c = rw c.fresh.ensures
