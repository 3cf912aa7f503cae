-- `may_decrease` tests what its definition does, by what `avg_delay` answers.
use Rattle.window.specs.Cases.{may_decrease}
use Rattle.window.proofs.cases.may_decrease.Goals as goal

pub returns : goal.returns
unfolding may_decrease
returns c = simp c.avg_delay.ensures
