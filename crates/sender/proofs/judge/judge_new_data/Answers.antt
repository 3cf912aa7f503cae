-- `judge_new_data` walks the rows of new data: each branch opens one. The code tests the backlog's room, the row a sum: `over_test`.
use mathlib.Core.Path.{sym, ◌∙◌}
use Rattle.rules.specs.Verdict.{number_of}
use Rattle.rules.specs.Rows.{first_none}
use Rattle.ledger.specs.Bounds.{backlog_most}
use Rattle.sender.proofs.Rowing.{judged_3, judged_field, judged_on, over_test}
use Rattle.sender.proofs.judge.judge_new_data.Goals as goal

pub returns-then-bad_time : goal.returns-then-bad_time
unfolding number_of
returns-then-bad_time c = judged_3 _ _ _ _ (sym c.bad_time.ensures ∙ c.if-bad_time.true)

pub returns-then-bytes-c : goal.returns-then-bytes-c
unfolding number_of
returns-then-bytes-c c =
    judged_field _ _ _ _ (sym c.bad_time.ensures ∙ c.if-bad_time.false)
    (rw (← over_test backlog_most c.args.c.flow.backlog c.args.bytes c.requires.backlog_high) c.if-bytes-c.true)

pub returns : goal.returns
unfolding number_of
returns c =
    judged_on _ _ _ _ (sym c.bad_time.ensures ∙ c.if-bad_time.false)
    (rw (← over_test backlog_most c.args.c.flow.backlog c.args.bytes c.requires.backlog_high) c.if-bytes-c.false) 0 first_none
