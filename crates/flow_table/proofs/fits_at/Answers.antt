-- `fits_at` makes the two tests of `fits_at`, of the words that `flow_at` reads.
use mathlib.Core.Path.{refl}
use Rattle.flow_table.specs.Words.{fits_at, flow_at}
use Rattle.flow_table.proofs.fits_at.Goals as goal

pub returns : goal.returns
unfolding fits_at flow_at
returns c = refl
