-- `judge_loss` walks the rows of a loss: each branch opens one, and the last are the ledger's.
use mathlib.Core.Path.{sym, ◌∙◌}
use Rattle.rules.specs.Verdict.{number_of}
use borrow.Author.Tests.{le-leb, lt-leb}
use Rattle.ledger.specs.Lent.{memory_of}
use Rattle.ledger.specs.Memory.{shown}
use Rattle.ledger.specs.Rows.{mark_rows}
use Rattle.sender.proofs.Rowing.{judged_3, judged_field, judged_on}
use Rattle.sender.proofs.judge.judge_loss.Goals as goal

pub returns-then-bad_time : goal.returns-then-bad_time
unfolding number_of
returns-then-bad_time c = judged_3 _ _ _ _ (sym c.bad_time.ensures ∙ c.if-bad_time.true)

pub returns-then-c-a : goal.returns-then-c-a
unfolding number_of
returns-then-c-a c =
    judged_field _ _ _ _ (sym c.bad_time.ensures ∙ c.if-bad_time.false) (le-leb _ _ c.if-c-a.true)

pub returns : goal.returns
unfolding number_of
returns c =
    let slots = shown c.args.c.flow.low c.args.c.flow.next
    (memory_of c.args.ring) in
    let a = c.args in
    judged_on _ _ _ (mark_rows a.c.flow a.c.totals.in_flight (slots) a.a.psn)
    (sym c.bad_time.ensures ∙ c.if-bad_time.false)
    (lt-leb _ _ c.if-c-a.false) (number_of c.judge_mark.result) c.judge_mark.ensures
