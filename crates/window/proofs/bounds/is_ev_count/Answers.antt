-- `is_ev_count` is the definition's chain of comparisons.
use mathlib.Core.Path.{refl}
use Rattle.window.specs.Range.{is_ev_count}
use Rattle.window.proofs.bounds.is_ev_count.Goals as goal

pub returns : goal.returns
unfolding is_ev_count
returns c = refl
