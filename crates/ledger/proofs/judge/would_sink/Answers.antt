-- `would_sink` compares what `less` leaves with -2^24, by `sinks_is`.
use Rattle.std.proofs.Common.{ℤ, pos, ◌-ℤ◌, ap, ◌∙◌}
use Rattle.ledger.proofs.Signs.{word, sinks_is}
use Rattle.ledger.proofs.judge.would_sink.Goals as goal

pub returns : goal.returns
returns c =
    let a = c.args in
    sinks_is a.in_flight a.bytes c.requires.flown c.requires.bytes_bound c.less.result
    (c.less.ensures ∙ ap (λ (z : ℤ). z -ℤ pos a.bytes) (word a.in_flight c.requires.flown))
