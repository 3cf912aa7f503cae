-- `multiplicative_decrease` leaves fast mode and cuts, branch by branch; its product fits by the bounds.
use mathlib.Core.Path.{sym, ◌∙◌}
use Prim.Native.Nat.{◌^◌, ◌≤◌}
use native.Mathlib.Omega.{arith}
use Rattle.rules.specs.Branch.{branches}
use Rattle.window.specs.Limits.{window_most, parts}
use Rattle.window.specs.Delays.{avg_delay_of}
use Rattle.window.specs.Cases.{multiplicative_decrease_of}
use Rattle.window.proofs.Numbers.{product}
use Rattle.window.proofs.Keeps.{may_decrease_above, factor_high, cwnd_most}
use Rattle.window.proofs.cases.multiplicative_decrease.Goals as goal

pub factor-left-requires : goal.factor-left-requires
unfolding avg_delay_of
factor-left-requires c =
    let above = may_decrease_above _ _ _ (sym c.may_decrease.ensures ∙ c.if-may_decrease.true) in
    omega (arith, above, c.avg_delay.ensures, c.requires.in_range.gamma_high, c.requires.sound_window.avg_high)

pub overflow_mul-w : goal.overflow_mul-w
overflow_mul-w c =
    let q = c.requires in
    let left : c.factor-left.result ≤ parts = rw c.factor-left.ensures (factor_high q.in_range _) in
    omega (arith, product window_most parts (2 ^ 36) (cwnd_most q.in_range q.sound_window) left tt)

pub returns-then-may_decrease : goal.returns-then-may_decrease
unfolding multiplicative_decrease_of
returns-then-may_decrease c =
    simp (
      ← c.leave_fast_mode-n.ensures,
      ← c.may_decrease.ensures,
      ← c.avg_delay.ensures,
      ← c.factor-left.ensures,
      ← c.most.ensures,
    )
    (search (branches, c.if-may_decrease.true) depth 12)

pub returns : goal.returns
unfolding multiplicative_decrease_of
returns c =
    simp (← c.leave_fast_mode-n.ensures, ← c.may_decrease.ensures)
    (search (branches, c.if-may_decrease.false) depth 12)
