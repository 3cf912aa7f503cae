-- `totals_ok` makes the tests of `totals_ok`.
use Rattle.std.proofs.Common.{refl}
use Rattle.ledger.specs.Stretch.{totals_ok}
use Rattle.ledger.proofs.sound.totals_ok.Goals as goal

pub returns : goal.returns
unfolding totals_ok
returns c = refl
