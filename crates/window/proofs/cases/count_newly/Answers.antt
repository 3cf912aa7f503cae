-- `count_newly` adds newly to three tallies, by what `add_to_tally` answers.
use Rattle.window.specs.Cases.{count_newly_of}
use Rattle.window.proofs.cases.count_newly.Goals as goal

pub returns : goal.returns
unfolding count_newly_of
returns c = cc
