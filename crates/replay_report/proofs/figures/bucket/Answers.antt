-- `bucket` asks for the highest set bit, which a sample of 0 lacks.
use Rattle.std.proofs.Common.{sym, ◌∙◌, ap}
use Rattle.replay_report.specs.Figures.{bucket_of}
use Rattle.replay_report.proofs.Buckets.{bucket_none, bucket_bit}
use Rattle.replay_report.proofs.figures.bucket.Goals as goal

pub returns-then-ticks-eq0 : goal.returns-then-ticks-eq0
returns-then-ticks-eq0 c = bucket_none ∙ ap bucket_of (sym c.if-ticks-eq0.true)

pub returns : goal.returns
returns c =
    let bit = c.ilog2-highest.ensures in
    c.min.ensures ∙ bucket_bit c.ilog2-highest.result c.args.ticks bit.power_le bit.next_power_gt
