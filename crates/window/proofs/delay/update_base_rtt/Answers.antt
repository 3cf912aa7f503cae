-- `update_base_rtt` lowers the base by a sample, and cwnd to max_wnd of that base: no sample, one that does not lower it, one that does.
use native.Mathlib.Omega.{arith}
use Rattle.window.proofs.Steps.{update_base_rtt_none, update_base_rtt_same, update_base_rtt_by}
use Rattle.window.proofs.delay.update_base_rtt.Goals as goal

pub returns-in_default : goal.returns-in_default
returns-in_default c = update_base_rtt_none _ _ _ c.in_default.is

pub returns-then-w-t : goal.returns-then-w-t
returns-then-w-t c =
    update_base_rtt_same _ _ _ _ c.in-Some.is c.if-w-t.true c.requires.base_bound.1

pub returns : goal.returns
returns c =
    update_base_rtt_by _ _ _ _ _ _ c.in-Some.is (omega arith) c.max_wnd.ensures c.least.ensures
