-- `tally_all` walks the flows. The invariant: what is added up is the tally of those before flow k, at most 2^40 of each a flow.
use mathlib.Core.Path.{◌≡◌}
use Prim.Native.Nat.{◌*◌, ◌^◌}
use Rattle.ledger.specs.Memory.{memory}
use Rattle.context.specs.Walk.{tally_to}
use Rattle.context.proofs.Walks.{FewIn}
use Rattle.context.proofs.sound.tally_all.Given as goal

abbrev pub invariant-loop-k : goal.invariant-loop-k
invariant-loop-k l =
    (l.all ≡ tally_to l.cap l.flows (memory l.outstanding l.marked l.sizes l.sent) l.k) × FewIn l.all (l.k * 2 ^ 40)
