-- `count_sample` counts the kind, then the ticks.
use native.Mathlib.Omega.{arith}
use Rattle.replay_report.proofs.Adding.{kind_inside, sample_none, sample_one}
use Rattle.replay_report.proofs.figures.count_sample.Goals as goal

pub returns-in_default : goal.returns-in_default
returns-in_default c = sample_none _ _ c.in_default.not-Sample

pub add-requires : goal.add-requires
add-requires c = omega (arith, kind_inside _ c.kind_at.ensures, c.requires)

pub returns : goal.returns
returns c =
    sample_one _ _ _ c.in-Sample.is _ _ _ _
    c.kind_at.ensures c.add.ensures
    c.sample_in.ensures c.count_ticks.ensures
