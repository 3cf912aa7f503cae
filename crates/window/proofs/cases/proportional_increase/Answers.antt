-- `proportional_increase` goes on from fast increase, branch by branch; its products fit by the ranges.
use Prim.Native.Nat.{ℕ, ◌-◌, ◌*◌, ◌≤◌, ◌<◌}
use native.Mathlib.Omega.{arith}
use Rattle.rules.specs.Branch.{branches}
use Rattle.window.specs.Limits.{inc_stop, newly_end}
use Rattle.window.specs.Range.{InRange}
use Rattle.window.specs.declared.Settings.{Settings}
use Rattle.window.specs.Cases.{proportional_increase_of}
use Rattle.window.proofs.Numbers.{alpha_fits}
use Rattle.window.proofs.Keeps.{fast_increase_inc_bytes}
use Rattle.window.proofs.cases.proportional_increase.Goals as goal

-- alpha·newly, and that times (target - delay)
rise :
    {s : Settings} → InRange s → (newly delay : ℕ) → newly < newly_end →
    (s.alpha * newly ≤ inc_stop) × (s.alpha * newly * (s.target_qdelay - delay) ≤ inc_stop)
rise R newly delay h = alpha_fits _ _ _ _ R.alpha_high h R.target_high

pub returns-then-is_on : goal.returns-then-is_on
unfolding proportional_increase_of
returns-then-is_on c = simp (← c.fast_increase-v.ensures, ← c.is_on.ensures) (search (branches, c.if-is_on.true) depth 12)

pub overflow_mul-s : goal.overflow_mul-s
overflow_mul-s c = omega (arith, rise c.requires.in_range c.args.newly c.args.delay c.requires.cwnd_le_window_most.1)

pub overflow_mul-s-2 : goal.overflow_mul-s-2
overflow_mul-s-2 c = omega (arith, rise c.requires.in_range c.args.newly c.args.delay c.requires.cwnd_le_window_most.1)

pub add_inc_bytes-requires : goal.add_inc_bytes-requires
add_inc_bytes-requires c =
    let same = fast_increase_inc_bytes c.args.s c.args.newly c.args.delay c.args.w in
    let q = c.requires in
    let fits = rise q.in_range c.args.newly c.args.delay q.cwnd_le_window_most.1 in
    rw c.fast_increase-v.ensures (omega (arith, same, q.cwnd_le_window_most.4), fits.1)

pub returns : goal.returns
unfolding proportional_increase_of
returns c =
    simp (← c.fast_increase-v.ensures, ← c.is_on.ensures, ← c.add_inc_bytes.ensures)
    (search (branches, c.if-is_on.false) depth 12)
