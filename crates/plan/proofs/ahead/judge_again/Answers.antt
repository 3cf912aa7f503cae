-- `judge_again` tests the packet that it finds, and then the sends before (proofs/Judging).
use mathlib.Core.Path.{sym, ◌∙◌}
use Rattle.rules.specs.Verdict.{number_of}
use Rattle.plan.proofs.Judging.{again_differs, again_sent, again_waits}
use Rattle.plan.proofs.ahead.judge_again.Goals as goal

pub returns-then-x-a : goal.returns-then-x-a
unfolding number_of
returns-then-x-a c =
    again_differs _ c.args.plan.now c.args.i c.args.k c.args.a c.packet_at-x.result c.packet_at-x.ensures
    c.if-x-a.true

pub returns-then-sent_again : goal.returns-then-sent_again
unfolding number_of
returns-then-sent_again c =
    again_sent _ c.args.plan.now c.args.i c.args.k c.args.a c.packet_at-x.result c.packet_at-x.ensures
    c.if-x-a.false (sym c.sent_again.ensures ∙ c.if-sent_again.true)

pub returns : goal.returns
unfolding number_of
returns c =
    again_waits _ c.args.plan.now c.args.i c.args.k c.args.a c.packet_at-x.result c.packet_at-x.ensures
    c.if-x-a.false (sym c.sent_again.ensures ∙ c.if-sent_again.false)
