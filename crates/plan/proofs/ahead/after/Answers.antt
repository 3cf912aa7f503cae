-- `after` moves the records and in-flight. In-flight in its bounds reads back from the signed word as it was, by `more_is`.
use native.Mathlib.Omega.{arith}
use Rattle.ledger.proofs.Signs.{more_is}
use Rattle.plan.specs.Ahead.{ahead_after}
use Rattle.plan.proofs.ahead.after.Goals as goal

pub returns : goal.returns
unfolding ahead_after
returns c =
    rw (
      c.flows_after.ensures,
      more_is c.args.s.in_flight c.args.p.send.size c.requires.flow_lt_flows_most.1 (omega arith),
    )
