-- `avoid` sets the EV's time where feedback says so, and else leaves the times.
use mathlib.Core.Path.{refl}
use Rattle.rules.specs.Branch.{so_yes, so_no}
use Rattle.sender.specs.Steps.{avoided_in}
use Rattle.sender.proofs.steps.avoid.Goals as goal

pub returns-then-on : goal.returns-then-on
unfolding avoided_in
returns-then-on c = so_yes _ _ _ _ c.if-on.true c.avoid_until.ensures

pub returns-else-on : goal.returns-else-on
unfolding avoided_in
returns-else-on c = so_no _ _ _ _ c.if-on.false refl
