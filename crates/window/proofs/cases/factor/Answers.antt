-- `factor` answers what a cut leaves; its products and differences fit by the ranges.
use Prim.Native.Nat.{◌-◌, ◌^◌, ◌≤◌}
use native.Mathlib.Omega.{arith}
use Rattle.window.specs.Limits.{parts, avg_most}
use Rattle.window.specs.Cases.{factor_of}
use Rattle.window.proofs.Numbers.{product, share}
use Rattle.window.proofs.cases.factor.Goals as goal

pub overflow_mul-s : goal.overflow_mul-s
overflow_mul-s c =
    let left : c.args.avg - c.args.s.target_qdelay ≤ avg_most = omega arith in
    omega (arith, product parts avg_most (2 ^ 40) c.requires.0 left tt)

pub overflow_sub-s : goal.overflow_sub-s
overflow_sub-s c =
    omega (arith, share c.args.s.gamma (c.args.avg - c.args.s.target_qdelay) c.args.avg (omega arith))

pub returns : goal.returns
unfolding factor_of
returns c = cc
