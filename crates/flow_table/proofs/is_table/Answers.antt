-- `is_table` makes the tests of `is_table`, of the count that `count` gives.
use mathlib.Core.Bool.{and_assoc}
use Rattle.rules.specs.Test.{inside}
use Rattle.flow_table.specs.Words.{is_table}
use Rattle.flow_table.proofs.is_table.Goals as goal

pub returns : goal.returns
unfolding is_table inside
returns c = simp (c.count-n.ensures, and_assoc)
