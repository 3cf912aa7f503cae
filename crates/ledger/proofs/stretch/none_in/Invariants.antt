-- `none_in` looks at every word that has slots of the stretch: by its invariant those before word q are told by `all`.
use Rattle.std.proofs.Common.{◌≡◌, ◌*◌, min}
use Rattle.ledger.specs.Stretch.{all_in, clear_at}
use Rattle.ledger.proofs.stretch.none_in.Given as goal

abbrev pub invariant-loop-q : goal.invariant-loop-q
invariant-loop-q l = l.all ≡ all_in (clear_at l.words) l.from (min l.to (l.q * 64))
