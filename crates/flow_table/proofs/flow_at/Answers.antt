-- `flow_at` is `flow_at`, word by word; that low and next are PSNs is what their casts need.
use mathlib.Core.Path.{refl}
use Rattle.flow_table.specs.Words.{flow_at}
use Rattle.flow_table.proofs.flow_at.Goals as goal

pub overflow_cast-result : goal.overflow_cast-result
unfolding flow_at
overflow_cast-result c = record { fits = c.requires.fits.low }

pub overflow_cast-result-2 : goal.overflow_cast-result-2
unfolding flow_at
overflow_cast-result-2 c = record { fits = c.requires.fits.next }

pub returns : goal.returns
unfolding flow_at
returns c = refl
