-- `no_flow` takes the branches of its promise.
use mathlib.Core.Path.{refl}
use Rattle.rules.specs.Branch.{so_yes, so_no}
use Rattle.rules.specs.Verdict.{number_of}
use Rattle.context.proofs.join.no_flow.Goals as goal

pub returns-then-time-clock : goal.returns-then-time-clock
unfolding number_of
returns-then-time-clock c = so_yes _ _ _ _ c.if-time-clock.true refl

pub returns : goal.returns
unfolding number_of
returns c = so_no _ _ _ _ c.if-time-clock.false refl
