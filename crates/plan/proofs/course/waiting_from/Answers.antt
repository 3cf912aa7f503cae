-- `waiting_from` is the flow's record, with low at the packet that is found.
use Rattle.context.proofs.Sounds.{context_facts}
use Rattle.context.proofs.Joins.{flow_fits}
use Rattle.plan.specs.Course.{waiting_from}
use Rattle.plan.proofs.course.waiting_from.Goals as goal

pub flow_at-requires-clause-fits : goal.flow_at-requires-clause-fits
flow_at-requires-clause-fits c =
    flow_fits _ (context_facts _ c.requires.evs_value) c.args.k c.requires.k_bound

pub returns : goal.returns
unfolding waiting_from
returns c = rw (c.marked_from.ensures, c.flow_at.ensures)
