-- `all_are` goes block by block: by its invariant each slot of those before is `zero`. A block is `in_last` or `in_stop`.
use Rattle.std.proofs.Common.{◌≡◌, ◌+◌, ◌*◌, true, get_or}
use Rattle.ledger.specs.Stretch.{all_in}
use Rattle.ledger.proofs.stretch.all_are.Given as goal

abbrev pub invariant-loop-block : goal.invariant-loop-block
invariant-loop-block g l = true ≡ all_in (λ i. g.T.PartialEq.eq (get_or l.slots i l.zero) l.zero) l.from (l.from + l.block * 64)
