-- `deliver::cover` meets its contract: the loop's invariant is `Inv` of proofs/Covering, whose laws give its start, a turn and the end.
use Rattle.std.proofs.Common.{◌-◌}
use Rattle.ledger.specs.Memory.{memory}
use Rattle.ledger.proofs.Covering as covering
use Rattle.ledger.proofs.deliver.cover.Given as goal

abbrev pub invariant-loop-k : goal.invariant-loop-k
invariant-loop-k l =
    covering.Inv (memory l.initial.outstanding l.initial.marked l.sizes l.sent) l.flow l.initial.left l.far l.cum l.map l.outstanding l.marked l.left l.k

abbrev pub decreases-loop-k : goal.decreases-loop-k
decreases-loop-k l = l.far - l.k
