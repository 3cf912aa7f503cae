-- `all_waiting` takes the record of flow after flow (`waits_to`).
use mathlib.Core.Path.{◌≡◌}
use Rattle.ledger.specs.Memory.{memory}
use Rattle.context.specs.Context.{context}
use Rattle.plan.specs.Course.{waits_to}
use Rattle.plan.proofs.course.all_waiting.Given as goal

abbrev pub invariant-loop-k : goal.invariant-loop-k
invariant-loop-k l =
    l.fs ≡ waits_to (context l.c l.flows (memory l.outstanding l.marked l.sizes l.sent) l.evs) l.k
