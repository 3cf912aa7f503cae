-- `deliver::retire` meets its contract: the loop's invariant is `Gone` of proofs/Retiring, whose laws give its start, a turn and the end.
use Rattle.ledger.specs.Memory.{memory}
use Rattle.ledger.proofs.Retiring.{Gone}
use Rattle.ledger.proofs.deliver.retire.Given as goal

abbrev pub invariant-loop-gone : goal.invariant-loop-gone
invariant-loop-gone l =
    Gone (memory l.outstanding l.marked l.initial.sizes l.initial.sent) l.flow l.gone l.sizes l.sent
