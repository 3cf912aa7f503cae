-- `judge_new` walks the rows of a new packet: each branch opens one.
use Rattle.std.proofs.Common.{sym, ◌∙◌}
use Rattle.rules.specs.Verdict.{number_of}
use Rattle.ledger.proofs.Judging.{new_8, new_5, new_7, new_0}
use Rattle.ledger.proofs.judge.judge_new.Goals as goal

pub returns-then-psn-flow : goal.returns-then-psn-flow
unfolding number_of
returns-then-psn-flow c = let a = c.args in new_8 a.flow a.cap a.psn a.size c.if-psn-flow.true

pub returns-then-flow-size : goal.returns-then-flow-size
unfolding number_of
returns-then-flow-size c =
    let a = c.args in
    new_5 a.flow a.cap a.psn a.size c.if-psn-flow.false c.if-flow-size.true

pub returns-then-long-cap : goal.returns-then-long-cap
unfolding number_of
returns-then-long-cap c =
    let a = c.args in
    new_7 a.flow a.cap a.psn a.size c.if-psn-flow.false c.if-flow-size.false
    (sym c.long.ensures ∙ c.if-long-cap.true)

pub returns : goal.returns
unfolding number_of
returns c =
    let a = c.args in
    new_0 a.flow a.cap a.psn a.size c.if-psn-flow.false c.if-flow-size.false
    (λ e. c.if-long-cap.false (c.long.ensures ∙ e))
