-- `judge_ack` walks the rows of an ACK: each branch opens one.
use Rattle.std.proofs.Common.{sym, ◌∙◌}
use Rattle.rules.specs.Verdict.{number_of}
use Rattle.ledger.proofs.Signs.{sinks_word}
use Rattle.ledger.proofs.Judging.{ack_9, ack_11, ack_0}
use Rattle.ledger.proofs.judge.judge_ack.Goals as goal

pub returns-then-unsent_or_old : goal.returns-then-unsent_or_old
unfolding number_of
returns-then-unsent_or_old c =
    let a = c.args in
    ack_9 a.books.flow a.books.totals.in_flight a.cum a.map a.count
    (sym c.unsent_or_old.ensures ∙ c.if-unsent_or_old.true)

pub returns-then-would_sink : goal.returns-then-would_sink
unfolding number_of
returns-then-would_sink c =
    let a = c.args in
    ack_11 a.books.flow a.books.totals.in_flight a.cum a.map a.count
    (sym c.unsent_or_old.ensures ∙ c.if-unsent_or_old.false)
    (sinks_word a.books.totals.in_flight c.requires c.newly.result _ c.newly.ensures.0 c.would_sink.result
    c.would_sink.ensures ∙ c.if-would_sink.true)

pub returns : goal.returns
unfolding number_of
returns c =
    let a = c.args in
    ack_0 a.books.flow a.books.totals.in_flight a.cum a.map a.count
    (sym c.unsent_or_old.ensures ∙ c.if-unsent_or_old.false)
    (sinks_word a.books.totals.in_flight c.requires c.newly.result _ c.newly.ensures.0 c.would_sink.result
    c.would_sink.ensures ∙ c.if-would_sink.false)
