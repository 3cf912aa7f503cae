-- `add_inc_bytes` adds to inc_bytes up to its stop, by what `least` answers.
use Rattle.window.specs.Cases.{add_inc_bytes_of}
use Rattle.window.proofs.cases.add_inc_bytes.Goals as goal

pub returns : goal.returns
unfolding add_inc_bytes_of
returns c = cc
