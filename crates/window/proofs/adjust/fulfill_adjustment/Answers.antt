-- `fulfill_adjustment` adds the share of inc_bytes and the extra, up to max_wnd, by what it calls.
use native.Mathlib.Nat.{div-le_self}
use native.Mathlib.Omega.{arith}
use Rattle.window.specs.Adjust.{fulfill_adjustment_of}
use Rattle.window.proofs.adjust.fulfill_adjustment.Goals as goal

pub overflow_add-w : goal.overflow_add-w
overflow_add-w c = omega (arith, div-le_self c.args.w.inc_bytes c.args.w.cwnd)

pub overflow_add-w-2 : goal.overflow_add-w-2
overflow_add-w-2 c = omega (arith, div-le_self c.args.w.inc_bytes c.args.w.cwnd)

pub returns : goal.returns
unfolding fulfill_adjustment_of
returns c = cc
