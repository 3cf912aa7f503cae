-- `sample_in` takes the cases of `sample_in`.
use Rattle.window.specs.Delays.{sample_in}
use Rattle.window.proofs.delay.sample_in.Goals as goal

pub returns-in-Taken : goal.returns-in-Taken
unfolding sample_in
returns-in-Taken c = simp c.in-Taken.is

pub returns-in-Cut : goal.returns-in-Cut
unfolding sample_in
returns-in-Cut c = simp c.in-Cut.is

pub returns-in-Gone : goal.returns-in-Gone
unfolding sample_in
returns-in-Gone c = simp c.in-Gone.is

pub returns-in-Ambiguous : goal.returns-in-Ambiguous
unfolding sample_in
returns-in-Ambiguous c = simp c.in-Ambiguous.is

pub returns-in-NotPositive : goal.returns-in-NotPositive
unfolding sample_in
returns-in-NotPositive c = simp c.in-NotPositive.is
