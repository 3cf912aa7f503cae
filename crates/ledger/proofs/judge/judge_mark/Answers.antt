-- `judge_mark` walks the rows of a NACK or a loss, on the packet that it finds.
use Rattle.std.proofs.Common.{refl, ◌∙◌}
use Rattle.rules.specs.Verdict.{number_of}
use Rattle.ledger.specs.Lent.{memory_of}
use Rattle.ledger.specs.Memory.{shown}
use Rattle.ledger.proofs.Signs.{sinks_word}
use Rattle.ledger.proofs.Judging.{mark_10, mark_11, mark_0}
use Rattle.ledger.proofs.judge.judge_mark.Goals as goal

pub returns-then-x-ne-FLYING : goal.returns-then-x-ne-FLYING
unfolding number_of
returns-then-x-ne-FLYING c =
    let slots = shown c.args.books.flow.low c.args.books.flow.next
    (memory_of c.args.ring) in
    mark_10 c.args.books.flow c.args.books.totals.in_flight (slots) c.args.psn c.find-x.result c.find-x.ensures
    c.if-x-ne-FLYING.true

pub returns-then-would_sink : goal.returns-then-would_sink
unfolding number_of
returns-then-would_sink c =
    let slots = shown c.args.books.flow.low c.args.books.flow.next
    (memory_of c.args.ring) in
    let z = c.args.books.totals.in_flight in
    mark_11 c.args.books.flow z (slots) c.args.psn c.find-x.result c.find-x.ensures c.if-x-ne-FLYING.false
    (sinks_word z c.requires.flown c.find-x.result.size _ refl c.would_sink.result c.would_sink.ensures ∙ c.if-would_sink.true)

pub returns : goal.returns
unfolding number_of
returns c =
    let slots = shown c.args.books.flow.low c.args.books.flow.next
    (memory_of c.args.ring) in
    let z = c.args.books.totals.in_flight in
    mark_0 c.args.books.flow z (slots) c.args.psn c.find-x.result c.find-x.ensures c.if-x-ne-FLYING.false
    (sinks_word z c.requires.flown c.find-x.result.size _ refl c.would_sink.result c.would_sink.ensures ∙ c.if-would_sink.false)
