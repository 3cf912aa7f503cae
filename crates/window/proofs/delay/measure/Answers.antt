-- `measure` takes the sample and feeds the filter: the two cases of the sample.
use mathlib.Core.Path.{◌≡◌, ap, ◌∙◌}
use Prim.Native.Nat.{ℕ, min}
use native.Mathlib.Omega.{arith}
use Rattle.window.specs.Delays.{update_base_rtt_of}
use Rattle.window.specs.declared.Settings.{Settings}
use Rattle.window.specs.declared.Window.{Window}
use Rattle.std.specs.Prelude.{Some}
use Rattle.window.proofs.Steps.{update_base_rtt_base, measure_none, measure_by, feed_under}
use Rattle.window.proofs.delay.measure.Goals as goal

-- the base that the sample's ticks leave
base_is :
    (s : Settings) (t : ℕ) (w : Window) {v : Window} → v ≡ update_base_rtt_of s (Some t) w →
    v.base ≡ min w.base t
base_is s t w e = ap (λ (w : Window). w.base) e ∙ update_base_rtt_base s t w

pub returns-in_default : goal.returns-in_default
returns-in_default c = measure_none _ _ _ _ _ c.in_default.is c.avg_delay.ensures

pub overflow_sub-delay : goal.overflow_sub-delay
overflow_sub-delay c = omega (arith, base_is c.args.s c.in-Some.t c.args.w c.update_base_rtt-v.ensures)

pub feed-requires : goal.feed-requires
feed-requires c =
    let base = base_is c.args.s c.in-Some.t c.args.w c.update_base_rtt-v.ensures in
    omega (arith, base, c.requires.in_range.rtt_high, c.requires.base_bound.0)

pub update_delay-requires : goal.update_delay-requires
update_delay-requires c =
    let high = c.requires.sampled.high _ c.in-Some.is in
    let base = base_is c.args.s c.in-Some.t c.args.w c.update_base_rtt-v.ensures in
    (c.requires.base_bound.2, rw c.feed.ensures (feed_under _ _ _ _ _ (omega (arith, base, high)) (omega (arith, high))))

pub returns : goal.returns
returns c =
    let a = c.args in
    measure_by a.s a.sample a.w a.marked c.in-Some.t c.update_base_rtt-v.result _ _
    c.in-Some.is c.update_base_rtt-v.ensures c.feed.ensures c.update_delay.ensures
