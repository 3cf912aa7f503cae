-- `sizes_within` looks at every slot's number: by its invariant those so far are told by `all`, and a turn is `in_next`.
use Rattle.std.proofs.Common.{◌≡◌, ◌+◌, ◌-◌, ◌^◌, min}
use Rattle.ledger.specs.Stretch.{all_in, sized_at}
use Rattle.ledger.proofs.stretch.sizes_within.Given as goal

abbrev pub invariant-loop-w : goal.invariant-loop-w
invariant-loop-w l = (l.all ≡ all_in (sized_at l.low l.high l.most l.sizes) l.from (l.from + l.w-index)) × (l.top ≡ min l.high (2 ^ 32 - 1))
