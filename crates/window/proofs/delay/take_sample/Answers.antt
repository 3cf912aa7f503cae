-- `take_sample` takes the cases of `take_sample_of`.
use borrow.Author.Rules.{rules}
use Rattle.rules.specs.Branch.{branches}
use Rattle.window.specs.Delays.{take_sample_of}
use Rattle.window.proofs.delay.take_sample.Goals as goal

pub returns-then-ticks-gt-SAMPLE_MOST : goal.returns-then-ticks-gt-SAMPLE_MOST
unfolding take_sample_of
returns-then-ticks-gt-SAMPLE_MOST c = search (rules, branches) depth 12

pub returns : goal.returns
unfolding take_sample_of
returns c = search (rules, branches) depth 12
