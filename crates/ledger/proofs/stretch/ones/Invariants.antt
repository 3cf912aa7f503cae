-- `ones` counts word by word: by its invariant those before q are counted, and a turn is `ones_word`, or `no_ones_word` for a word
-- that is 0.
use Rattle.std.proofs.Common.{◌≡◌, ◌*◌, ◌≤◌}
use Rattle.bits.specs.Bits.{sum_to}
use Rattle.ledger.specs.Stretch.{one_at}
use Rattle.ledger.proofs.stretch.ones.Given as goal

abbrev pub invariant-loop-w : goal.invariant-loop-w
invariant-loop-w l = (l.count ≡ sum_to (one_at l.words) (l.w-index * 64)) × (l.count ≤ l.w-index * 64)
