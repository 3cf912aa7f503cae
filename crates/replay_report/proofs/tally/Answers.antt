-- `tally` tests number 2, then relies on it.
use Rattle.rules.specs.Verdict.{number_of}
use Rattle.ledger.specs.Memory.{memory}
use Rattle.context.specs.Context.{context}
use Rattle.replay.specs.Places.{feed}
use Rattle.replay_report.proofs.Tallies.{tally_tested, tally_refused, tally_made}
use Rattle.replay_report.proofs.tally.Goals as goal

pub returns-then-figures-whole : goal.returns-then-figures-whole
unfolding number_of
returns-then-figures-whole c =
    let given = let a = c.args in
    context a.state a.flows.now (memory a.outstanding.now a.marked.now a.sizes.now a.sent.now) a.evs.now in
    tally_refused (feed c.args.source c.args.log.now) c.args.place (given) c.args.figures.now _
    c.is_sound-whole.ensures c.if-figures-whole.true

pub tally_turns-requires : goal.tally_turns-requires
tally_turns-requires c =
    let given = let a = c.args in
    context a.state a.flows.now (memory a.outstanding.now a.marked.now a.sizes.now a.sent.now) a.evs.now in
    record {
      evs_value = (tally_tested (feed c.args.source c.args.log.now) c.args.place (given) c.args.figures.now _
          c.is_sound-whole.ensures c.if-figures-whole.false).0;
      figures_len = (tally_tested (feed c.args.source c.args.log.now) c.args.place (given) c.args.figures.now _
          c.is_sound-whole.ensures c.if-figures-whole.false).1;
    }

pub returns : goal.returns
unfolding number_of
returns c =
    let given = let a = c.args in
    context a.state a.flows.now (memory a.outstanding.now a.marked.now a.sizes.now a.sent.now) a.evs.now in
    tally_made (feed c.args.source c.args.log.now) c.args.place (given) c.args.figures.now _ c.is_sound-whole.ensures
    c.if-figures-whole.false _ c.tally_turns.ensures
