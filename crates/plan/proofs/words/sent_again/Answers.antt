-- `sent_again` goes send by send: none below i sends the packet again (proofs/Judging).
use mathlib.Core.Path.{◌≡◌, sym}
use native.Mathlib.Omega.{arith}
use Rattle.plan.specs.Ahead.{is_again}
use Rattle.plan.proofs.Judging.{again_none, again_not, again_some}
use Rattle.plan.proofs.words.sent_again.Goals as goal

pub loop-i-init : goal.loop-i-init
loop-i-init c = again_none _ _ _

pub returns-then-p-flow : goal.returns-then-p-flow
unfolding is_again
returns-then-p-flow c =
    let a = c.args in
    sym
    (again_some a.plan.now a.flow a.psn a.n c.loop-i.i c.send_at-p.result c.send_at-p.ensures
    c.loop-i-test.true c.if-p-flow.true)

pub loop-i-preserved : goal.loop-i-preserved
unfolding is_again
loop-i-preserved c = again_not _ _ _ c.loop-i.i c.send_at-p.result c.send_at-p.ensures c.loop-i.invariant c.if-p-flow.false

pub returns : goal.returns
returns c =
    let a = c.args in
    let l = c.loop-i in
    let end : l.i ≡ a.n = omega arith in
    sym (rw end at l.invariant)
