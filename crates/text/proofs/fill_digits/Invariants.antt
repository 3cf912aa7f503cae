-- The digits that are still to write, and those that stand behind `first`, are n's.
-- Assumes nothing.
use Rattle.text.proofs.Digits.{Filling}
use Rattle.text.proofs.fill_digits.Given as goal

abbrev pub invariant-loop-rest : goal.invariant-loop-rest
invariant-loop-rest l = Filling l.n l.digits l.first l.rest

abbrev pub decreases-loop-rest : goal.decreases-loop-rest
decreases-loop-rest l = l.rest
