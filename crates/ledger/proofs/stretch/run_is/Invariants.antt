-- `run_is` puts them together: by its invariant they are `zero` so far exactly where each is, and a turn is `in_next`.
use Rattle.std.proofs.Common.{◌≡◌, ◌+◌, get_or}
use Rattle.ledger.specs.Stretch.{all_in}
use Rattle.ledger.proofs.stretch.run_is.Given as goal

abbrev pub invariant-loop-x : goal.invariant-loop-x
invariant-loop-x g l =
    g.T.PartialEq.eq l.any l.zero ≡ all_in (λ i. g.T.PartialEq.eq (get_or l.slots i l.zero) l.zero) l.from (l.from + l.x-index)
