-- `all_stand` walks the flows. The invariant: all before flow k stand.
use mathlib.Core.Path.{◌≡◌}
use mathlib.Core.Bool.{true}
use Rattle.ledger.specs.Memory.{memory}
use Rattle.ledger.specs.Sound.{all_to}
use Rattle.context.specs.Walk.{stands_on}
use Rattle.context.proofs.sound.all_stand.Given as goal

abbrev pub invariant-loop-k : goal.invariant-loop-k
invariant-loop-k l =
    all_to (stands_on l.mtu l.clock l.cap l.flows (memory l.outstanding l.marked l.sizes l.sent)) l.k ≡ true
