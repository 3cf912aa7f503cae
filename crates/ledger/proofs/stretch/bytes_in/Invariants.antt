-- `bytes_in` takes the lowest bit out and adds its slot: by its invariant what is added and what is left make the whole.
use Rattle.std.proofs.Common.{◌≡◌, ◌+◌, ◌^◌, ◌<◌}
use Rattle.rules.specs.Branch.{if_so}
use Rattle.bits.specs.Bits.{bit, sum_to}
use Rattle.ledger.specs.Delivery.{sizes_of}
use Rattle.ledger.proofs.stretch.bytes_in.Given as goal

abbrev pub invariant-loop-left : goal.invariant-loop-left
invariant-loop-left l = (l.left < 2 ^ 64) × (l.bytes + sizes_of (bit l.left) l.sizes l.q ≡ sizes_of (bit l.hit) l.sizes l.q)

abbrev pub decreases-loop-left : goal.decreases-loop-left
decreases-loop-left l = sum_to (λ j. if_so (bit l.left j) 1 0) 64
