-- `lesser_of` tests whether there is a least sample yet.
use mathlib.Core.Path.{refl}
use Rattle.rules.specs.Branch.{eq_yes, eq_no}
use Rattle.replay_report.specs.Figures.{lesser}
use Rattle.replay_report.proofs.figures.lesser_of.Goals as goal

pub returns-then-least-eq0 : goal.returns-then-least-eq0
unfolding lesser
returns-then-least-eq0 c = eq_yes _ _ _ _ _ c.if-least-eq0.true refl

pub returns : goal.returns
unfolding lesser
returns c = eq_no _ _ _ _ _ c.if-least-eq0.false c.least.ensures
