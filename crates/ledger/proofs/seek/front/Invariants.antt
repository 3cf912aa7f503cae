-- `seek::front` meets its contract: of the packets passed none is words. A turn looks at the rest of one word.
use Rattle.std.proofs.Common.{◌-◌}
use Rattle.ledger.proofs.Fronts.{Passed}
use Rattle.ledger.proofs.seek.front.Given as goal

abbrev pub invariant-loop-k : goal.invariant-loop-k
invariant-loop-k l = Passed l.words l.low l.n l.k

abbrev pub decreases-loop-k : goal.decreases-loop-k
decreases-loop-k l = l.n - l.k
