-- `kind_at` takes the cases of `kind_of`.
use Rattle.replay.specs.Batches.{kind_of}
use Rattle.replay_report.proofs.figures.kind_at.Goals as goal

pub returns-in-Taken : goal.returns-in-Taken
unfolding kind_of
returns-in-Taken c = simp c.in-Taken.is

pub returns-in-Cut : goal.returns-in-Cut
unfolding kind_of
returns-in-Cut c = simp c.in-Cut.is

pub returns-in-Gone : goal.returns-in-Gone
unfolding kind_of
returns-in-Gone c = simp c.in-Gone.is

pub returns-in-Ambiguous : goal.returns-in-Ambiguous
unfolding kind_of
returns-in-Ambiguous c = simp c.in-Ambiguous.is

pub returns-in-NotPositive : goal.returns-in-NotPositive
unfolding kind_of
returns-in-NotPositive c = simp c.in-NotPositive.is
