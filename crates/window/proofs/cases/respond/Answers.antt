-- `respond` is the four cases, branch by branch.
use native.Mathlib.Omega.{arith}
use Rattle.rules.specs.Branch.{branches}
use Rattle.window.specs.Cases.{respond_of}
use Rattle.window.proofs.Keeps.{cwnd_most}
use Rattle.window.proofs.cases.respond.Goals as goal

pub proportional_increase-requires : goal.proportional_increase-requires
proportional_increase-requires c =
    let q = c.requires in
    record {
      in_range = q.in_range;
      cwnd_le_window_most = omega (arith, cwnd_most q.in_range q.sound_window);
    }

pub returns-then-delay-target : goal.returns-then-delay-target
unfolding respond_of
returns-then-delay-target c =
    simp (← c.proportional_increase.ensures)
    (search (branches, c.if-delay-target.true) depth 12)

pub returns-then-not-marked : goal.returns-then-not-marked
unfolding respond_of
returns-then-not-marked c =
    simp (← c.fair_increase.ensures)
    (search (branches, c.if-delay-target.false) depth 12)

pub returns-then-delay-target-2 : goal.returns-then-delay-target-2
unfolding respond_of
returns-then-delay-target-2 c =
    simp (← c.leave_fast_mode.ensures)
    (search (branches, c.if-delay-target-2.true) depth 12)

pub returns : goal.returns
unfolding respond_of
returns c =
    simp (← c.multiplicative_decrease.ensures)
    (search (branches, c.if-delay-target-2.false) depth 12)
