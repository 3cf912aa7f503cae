-- `fresh_flows` overwrites one record a turn; the invariant and its steps are those of `Overwritten`.
use Rattle.context.proofs.Starts.{Overwritten}
use Rattle.context.proofs.start.fresh_flows.Given as goal

abbrev pub invariant-loop-k : goal.invariant-loop-k
invariant-loop-k l = Overwritten l.f l.n l.initial.flows l.flows l.k
