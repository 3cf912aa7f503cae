-- `judge_each` judges send by send (proofs/Made).
use Rattle.ledger.specs.Memory.{memory}
use Rattle.context.specs.Context.{context}
use Rattle.plan.proofs.Made.{Reached}
use Rattle.plan.proofs.judge.judge_each.Given as goal

abbrev pub invariant-loop-i : goal.invariant-loop-i
invariant-loop-i l =
    Reached l.time (context l.c l.flows (memory l.outstanding l.marked l.sizes l.sent) l.evs) l.plan l.n l.i l.s
