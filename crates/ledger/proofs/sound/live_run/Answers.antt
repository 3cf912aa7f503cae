-- `live_run` looks at the numbers and at the times; `in_and` puts them together.
use Rattle.std.proofs.Common.{Bool, ◌&&◌, refl, ◌∙◌, ap₂}
use Rattle.ledger.specs.Bounds.{size_least, resent_most}
use Rattle.ledger.specs.Stretch.{sized_at, timed_at, live_at}
use Rattle.ledger.proofs.Stretches.{in_and}
use Rattle.ledger.proofs.sound.live_run.Goals as goal

pub returns : goal.returns
unfolding live_at
returns c =
    let a = c.args in
    ap₂ (λ (x y : Bool). x && y) c.sizes_within.ensures c.times_until.ensures
    ∙ in_and (sized_at size_least a.mtu resent_most a.sizes.now) (timed_at a.clock a.sent.now)
    (live_at a.mtu a.clock a.sizes.now a.sent.now) a.from a.to (λ i. refl)
