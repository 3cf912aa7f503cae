-- `lengths_ok` makes the tests of `lengths_ok` in their order: a table has at least one flow to divide by.
use mathlib.Core.Path.{sym, ◌∙◌}
use native.Mathlib.Omega.{arith}
use Rattle.flow_table.specs.Words.{Table}
use Rattle.flow_table.proofs.Places.{table_facts}
use Rattle.context.specs.Start.{lengths_ok}
use Rattle.context.proofs.start.lengths_ok.Goals as goal
use Rattle.context.proofs.start.lengths_ok.Goals.{After-count-n}

-- past the first test
table : (c : After-count-n) → Table c.args.flows.now
table c = table_facts _ (sym c.is_table.ensures ∙ c.if-not-is_table.false)

pub returns-then-not-is_table : goal.returns-then-not-is_table
unfolding lengths_ok
returns-then-not-is_table c = rw (sym c.is_table.ensures ∙ c.if-not-is_table.true)

pub share-cap-requires : goal.share-cap-requires
share-cap-requires c = omega (arith, (table (goal.at.share-cap-requires c).After-count-n).some, c.count-n.ensures)

pub is_cut-requires : goal.is_cut-requires
is_cut-requires c = omega (arith, (table (goal.at.is_cut-requires c).After-count-n).few, c.count-n.ensures)

pub returns : goal.returns
unfolding lengths_ok
returns c =
    rw (
      sym c.is_table.ensures ∙ c.if-not-is_table.false,
      c.is_cut.ensures,
      c.share-cap.ensures,
      c.count-n.ensures,
    )
