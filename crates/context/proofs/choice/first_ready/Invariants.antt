-- `first_ready` asks flow by flow: up to k nobody is ready (proofs/Rounds).
use mathlib.Core.Path.{◌≡◌}
use Prim.Native.Nat.{◌-◌}
use Rattle.ledger.specs.Memory.{memory}
use Rattle.context.specs.Context.{context}
use Rattle.context.specs.Turns.{is_ready, numbers, first_ready}
use Rattle.context.proofs.choice.first_ready.Given as goal

abbrev pub invariant-loop-k : goal.invariant-loop-k
invariant-loop-k l =
    let ready = is_ready (context l.c l.flows (memory l.outstanding l.marked l.sizes l.sent) l.evs) in
    first_ready ready (numbers l.from (l.end - l.from)) ≡ first_ready ready (numbers l.k (l.end - l.k))
