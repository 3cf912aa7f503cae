-- `fair_increase` adds fi·newly to inc_bytes, by what it calls; the product fits by the ranges.
use native.Mathlib.Omega.{arith}
use Rattle.window.specs.Cases.{leave_fast_mode_of, fair_increase_of}
use Rattle.window.proofs.Numbers.{fi_fits}
use Rattle.window.proofs.cases.fair_increase.Goals as goal

pub overflow_mul-s : goal.overflow_mul-s
overflow_mul-s c = omega (arith, fi_fits c.args.s.fi c.args.newly c.requires.in_range.fi_high c.requires.inc_bytes_bound.1)

pub add_inc_bytes-requires : goal.add_inc_bytes-requires
unfolding leave_fast_mode_of
add_inc_bytes-requires c =
    let q = c.requires in
    let fits = fi_fits c.args.s.fi c.args.newly q.in_range.fi_high q.inc_bytes_bound.1 in
    rw c.leave_fast_mode.ensures (q.inc_bytes_bound.0, fits)

pub returns : goal.returns
unfolding fair_increase_of
returns c = simp (← c.leave_fast_mode.ensures, ← c.add_inc_bytes.ensures)
