-- `none_whole` puts the words together: by its invariant they are 0 so far exactly where their slots are clear, and a turn is `whole_word`.
use Rattle.std.proofs.Common.{◌≡◌, ◌+◌, ◌*◌, eqb}
use Rattle.ledger.specs.Stretch.{all_in, clear_at}
use Rattle.ledger.proofs.stretch.none_whole.Given as goal

abbrev pub invariant-loop-w : goal.invariant-loop-w
invariant-loop-w l = eqb l.any 0 ≡ all_in (clear_at l.words) (l.from * 64) ((l.from + l.w-index) * 64)
