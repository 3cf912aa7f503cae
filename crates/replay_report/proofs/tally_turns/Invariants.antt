-- `tally_turns` counts a turn at a time: `Going` is the loop's invariant, and the turns that are left are its measure.
use lib.ListN.{length}
use Rattle.ledger.specs.Memory.{memory}
use Rattle.context.specs.Context.{context}
use Rattle.replay.specs.Places.{feed, turns_of}
use Rattle.replay.proofs.Looping.{Lent}
use Rattle.replay_report.proofs.Tallies.{Going}
use Rattle.replay_report.proofs.tally_turns.Given as goal

abbrev pub invariant-loop-source : goal.invariant-loop-source
invariant-loop-source l =
    Going (feed l.source l.log) l.initial.place (context l.initial.state l.initial.flows
    (memory l.initial.outstanding l.initial.marked l.initial.sizes l.initial.sent) l.initial.evs) l.initial.figures l.place
    (context l.state l.flows (memory l.outstanding l.marked l.sizes l.sent) l.evs) l.figures
    × Lent l.initial.flows l.initial.outstanding l.initial.marked l.initial.sizes l.initial.sent l.initial.evs l.flows l.outstanding
    l.marked l.sizes l.sent l.evs

abbrev pub decreases-loop-source : goal.decreases-loop-source
decreases-loop-source l =
    length (turns_of (feed l.source l.log) l.place (context l.state l.flows (memory l.outstanding l.marked l.sizes l.sent) l.evs))
