-- `add` stores the sum.
use mathlib.Core.Path.{ap}
use lib.ListN.{set}
use Rattle.replay_report.specs.Figures.{raised}
use Rattle.replay_report.proofs.figures.add.Goals as goal

pub returns : goal.returns
unfolding raised
returns c =
    let a = c.args in
    ap (set a.figures.now a.at) c.sum.ensures
