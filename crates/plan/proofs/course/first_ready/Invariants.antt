-- `first_ready` asks flow by flow: up to k nobody is ready (proofs/Coursing).
use mathlib.Core.Path.{◌≡◌}
use Prim.Native.Nat.{◌-◌}
use Rattle.plan.specs.Course.{ready_by, first_from}
use Rattle.plan.proofs.course.first_ready.Given as goal

abbrev pub invariant-loop-k : goal.invariant-loop-k
invariant-loop-k l =
    first_from (ready_by l.cap l.s) l.from (l.end - l.from) ≡ first_from (ready_by l.cap l.s) l.k (l.end - l.k)
