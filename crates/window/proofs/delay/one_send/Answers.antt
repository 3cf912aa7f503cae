-- `one_send` tells which copy, by the two values of the flag.
use borrow.Author.Rules.{rules}
use Rattle.rules.specs.Branch.{branches}
use Rattle.window.specs.Delays.{one_send}
use Rattle.window.proofs.delay.one_send.Goals as goal

pub returns-then-retx : goal.returns-then-retx
unfolding one_send
returns-then-retx c = search (rules, branches) depth 12

pub returns : goal.returns
unfolding one_send
returns c = search (rules, branches) depth 12
