-- `fresh_flows` overwrites one record a turn; the invariant and its steps are those of `Overwritten`.
use native.Mathlib.Omega.{arith}
use Rattle.flow_table.proofs.Places.{table_facts}
use Rattle.context.specs.Start.{fresh_table}
use Rattle.context.proofs.Starts.{over_none, over_more, over_all}
use Rattle.context.proofs.start.fresh_flows.Goals as goal

pub loop-k-init : goal.loop-k-init
loop-k-init c =
    over_none _ _ c.args.flows.now (omega (arith, c.count-n.ensures, (table_facts c.args.flows.now c.requires).whole))

pub put-requires : goal.put-requires
put-requires c =
    omega (arith, c.count-n.ensures, c.loop-k.invariant.long)

pub loop-k-preserved : goal.loop-k-preserved
loop-k-preserved c =
    over_more _ _ c.args.flows.now (omega (arith, c.count-n.ensures, (table_facts c.args.flows.now c.requires).whole))
    c.loop-k.flows c.loop-k.k c.loop-k.invariant (omega arith) c.put.ensures

pub shape_of-flows : goal.shape_of-flows
shape_of-flows c = c.loop-k.invariant.long

pub returns : goal.returns
unfolding fresh_table
returns c =
    rw (← c.count-n.ensures)
    (over_all _ _ c.args.flows.now (omega (arith, c.count-n.ensures, (table_facts c.args.flows.now c.requires).whole))
    c.loop-k.flows c.loop-k.k c.loop-k.invariant (omega arith))
