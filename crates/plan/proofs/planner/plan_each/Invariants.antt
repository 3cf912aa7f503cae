-- `plan_each` plans turn by turn (proofs/Proposals).
use Rattle.ledger.specs.Memory.{memory}
use Rattle.context.specs.Context.{context}
use Rattle.plan.proofs.Proposals.{Planning}
use Rattle.plan.proofs.planner.plan_each.Given as goal

abbrev pub invariant-loop-i : goal.invariant-loop-i
invariant-loop-i l =
    Planning l.time l.bytes (context l.c l.flows (memory l.outstanding l.marked l.sizes l.sent) l.evs) l.initial.plan l.most l.i l.s l.plan
