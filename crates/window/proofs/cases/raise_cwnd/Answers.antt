-- `raise_cwnd` adds newly up to max_wnd, by what it calls.
use Rattle.window.specs.Cases.{raise_cwnd_of}
use Rattle.window.proofs.cases.raise_cwnd.Goals as goal

pub returns : goal.returns
unfolding raise_cwnd_of
returns c = cc
