-- `word_of`: what is found stands above the number of an accepted look, which is 0; a refused look has found 0.
use native.Mathlib.Omega.{arith}
use Rattle.rules.specs.Verdict.{number_of}
use Rattle.c_api.proofs.looks.word_of.Goals as goal

pub returns-in-Ok : goal.returns-in-Ok
unfolding number_of
returns-in-Ok c = rw c.in-Ok.is (omega arith)
