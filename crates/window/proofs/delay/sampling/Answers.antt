-- `sampling` says what M-103 has it say, branch by branch.
use mathlib.Core.Path.{◌≡◌}
use Prim.Native.Nat.{◌+◌, ◌-◌, ◌≤◌, ◌<◌}
use native.Mathlib.Omega.{arith}
use borrow.Author.Rules.{rules}
use Rattle.rules.specs.Branch.{branches}
use Rattle.window.specs.Delays.{sampling_of}
use Rattle.window.proofs.delay.sampling.Goals as goal

pub returns-then-not-outstanding : goal.returns-then-not-outstanding
unfolding sampling_of
returns-then-not-outstanding c = search (rules, branches) depth 12

pub returns-then-not-one_send : goal.returns-then-not-one_send
unfolding sampling_of
returns-then-not-one_send c = simp (← c.one_send.ensures) (search (rules, branches) depth 12)

pub returns-then-time-sent : goal.returns-then-time-sent
unfolding sampling_of
returns-then-time-sent c =
    let late : c.args.time ≤ c.args.sent + c.args.service = omega arith in
    simp (← c.one_send.ensures)
    (search (branches, late, c.if-not-one_send.false, c.if-not-outstanding.false) depth 12)

pub returns-then-time-sent-2 : goal.returns-then-time-sent-2
unfolding sampling_of
returns-then-time-sent-2 c =
    let late : c.args.time ≤ c.args.sent + c.args.service = omega arith in
    simp (← c.one_send.ensures)
    (search (branches, late, c.if-not-one_send.false, c.if-not-outstanding.false) depth 12)

pub returns : goal.returns
unfolding sampling_of
returns c =
    let time = c.args.time in
    let spent = c.args.sent + c.args.service in
    let more : spent < time = omega arith in
    let ticks : time - c.args.sent - c.args.service ≡ time - spent = omega arith in
    simp (← c.one_send.ensures, ← ticks, ← c.take_sample.ensures)
    (search (branches, more, c.if-not-one_send.false, c.if-not-outstanding.false) depth 12)
