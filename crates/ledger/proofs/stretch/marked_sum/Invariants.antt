-- `marked_sum` adds word by word: by its invariant those before q are added up, and a turn is `bytes_word`.
use Rattle.std.proofs.Common.{◌≡◌, ◌*◌, ◌^◌, ◌≤◌}
use Rattle.bits.specs.Bits.{sum_to}
use Rattle.ledger.specs.Stretch.{size_at}
use Rattle.ledger.proofs.stretch.marked_sum.Given as goal

abbrev pub invariant-loop-q : goal.invariant-loop-q
invariant-loop-q l = (l.bytes ≡ sum_to (size_at l.marked l.sizes) (l.q * 64)) × (l.bytes ≤ l.q * 2 ^ 22)
