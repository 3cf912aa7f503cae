-- `count_ticks` keeps the least and the greatest, then counts the bucket.
use mathlib.Core.Path.{◌∙◌}
use lib.ListN.{length-set}
use native.Mathlib.Omega.{arith}
use Rattle.replay_report.proofs.Buckets.{bucket_most}
use Rattle.replay_report.proofs.Adding.{ticks_none, ticks_one}
use Rattle.replay_report.proofs.figures.count_ticks.Goals as goal

pub returns-in_default : goal.returns-in_default
returns-in_default c = ticks_none _ _ c.in_default.is

pub overflow_add-bucket : goal.overflow_add-bucket
overflow_add-bucket c = omega (arith, c.bucket.ensures, bucket_most c.in-Some.ticks)

pub add-requires : goal.add-requires
add-requires c =
    simp length-set
    (omega (
      arith,
      c.bucket.ensures,
      bucket_most c.in-Some.ticks,
      c.requires,
    ))

pub shape_of-figures : goal.shape_of-figures
shape_of-figures c = c.add.auto.figures ∙ simp length-set

pub returns : goal.returns
returns c =
    ticks_one _ _ _ c.in-Some.is _ _ _ _
    c.lesser_of.ensures c.most.ensures
    c.bucket.ensures c.add.ensures
