-- `tally_turns` counts a turn at a time: `Going` is the loop's invariant, and the turns that are left are its measure.
use mathlib.Core.Path.{sym, ◌∙◌}
use Rattle.rules.specs.Verdict.{number_of}
use Rattle.ledger.specs.Memory.{memory}
use Rattle.replay.proofs.Making.{turn_is}
use Rattle.replay.proofs.Looping.{Lent, lent_none, lent_more}
use Rattle.replay_report.proofs.Tallies.{going_none, going_ended, going_more, going_less}
use Rattle.replay_report.proofs.tally_turns.Goals as goal
use Rattle.replay_report.proofs.tally_turns.Goals.{After-turn-t}

lent : (c : After-turn-t) → let a = c.args in
    Lent a.flows.now a.outstanding.now a.marked.now a.sizes.now a.sent.now a.evs.now c.turn-t.new.flows c.turn-t.new.outstanding
    c.turn-t.new.marked c.turn-t.new.sizes c.turn-t.new.sent c.turn-t.new.evs
lent c =
    lent_more c.loop-source.invariant.1 (
      c.turn-t.auto.flows,
      c.turn-t.auto.outstanding,
      c.turn-t.auto.marked,
      c.turn-t.auto.sizes,
      c.turn-t.auto.sent,
      c.turn-t.auto.evs,
    )

pub loop-source-init : goal.loop-source-init
loop-source-init c =
    (going_none _ _ _ _ c.requires.evs_value c.requires.figures_len, lent_none _ _ _ _ _ _)

pub turn-t-requires : goal.turn-t-requires
turn-t-requires c = c.loop-source.invariant.0.good

pub shape_of-flows-then-t : goal.shape_of-flows-then-t
shape_of-flows-then-t c = (lent (goal.at.shape_of-flows-then-t c).After-turn-t).flows_long

pub shape_of-outstanding-then-t : goal.shape_of-outstanding-then-t
shape_of-outstanding-then-t c = (lent (goal.at.shape_of-outstanding-then-t c).After-turn-t).outstanding_long

pub shape_of-marked-then-t : goal.shape_of-marked-then-t
shape_of-marked-then-t c = (lent (goal.at.shape_of-marked-then-t c).After-turn-t).marked_long

pub shape_of-sizes-then-t : goal.shape_of-sizes-then-t
shape_of-sizes-then-t c = (lent (goal.at.shape_of-sizes-then-t c).After-turn-t).sizes_long

pub shape_of-sent-then-t : goal.shape_of-sent-then-t
shape_of-sent-then-t c = (lent (goal.at.shape_of-sent-then-t c).After-turn-t).sent_long

pub shape_of-evs-then-t : goal.shape_of-evs-then-t
shape_of-evs-then-t c = (lent (goal.at.shape_of-evs-then-t c).After-turn-t).evs_long

pub shape_of-figures-then-t : goal.shape_of-figures-then-t
shape_of-figures-then-t c = c.loop-source.invariant.0.long ∙ sym c.requires.figures_len

pub returns-then-t : goal.returns-then-t
unfolding number_of
returns-then-t c =
    let taken = turn_is c.turn-t.result c.turn-t.new.flows (memory c.turn-t.new.outstanding c.turn-t.new.marked c.turn-t.new.sizes
    c.turn-t.new.sent) c.turn-t.new.evs in
    going_ended c.loop-source.invariant.0 (taken) c.turn-t.ensures c.if-t.true

pub count-requires : goal.count-requires
count-requires c = c.loop-source.invariant.0.long

pub loop-source-smaller : goal.loop-source-smaller
loop-source-smaller c =
    let taken = turn_is c.turn-t.result c.turn-t.new.flows (memory c.turn-t.new.outstanding c.turn-t.new.marked c.turn-t.new.sizes
    c.turn-t.new.sent) c.turn-t.new.evs in
    going_less c.loop-source.invariant.0 (taken) c.turn-t.ensures c.if-t.false

pub loop-source-preserved : goal.loop-source-preserved
loop-source-preserved c =
    let taken = turn_is c.turn-t.result c.turn-t.new.flows (memory c.turn-t.new.outstanding c.turn-t.new.marked c.turn-t.new.sizes
    c.turn-t.new.sent) c.turn-t.new.evs in (
      going_more c.loop-source.invariant.0 (taken) c.turn-t.ensures c.if-t.false c.stands_at.result
          c.stands_at.ensures _
          c.count.ensures c.count.auto.figures,
      lent (goal.at.loop-source-preserved c).After-turn-t,
    )
