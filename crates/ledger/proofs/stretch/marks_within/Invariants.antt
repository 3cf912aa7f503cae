-- `marks_within` looks at every word: by its invariant the slots of those before q are told by `all`, and a turn is `mark_word`.
use Rattle.std.proofs.Common.{◌≡◌, ◌*◌}
use Rattle.ledger.specs.Sound.{all_to}
use Rattle.ledger.specs.Stretch.{mark_ok}
use Rattle.ledger.proofs.stretch.marks_within.Given as goal

abbrev pub invariant-loop-q : goal.invariant-loop-q
invariant-loop-q l = l.all ≡ all_to (mark_ok l.outstanding l.marked) (l.q * 64)
