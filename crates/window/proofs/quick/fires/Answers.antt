-- `fires` tests what makes quick adapt fire, by its definition and what `is_on` tests.
use Rattle.window.specs.Quick.{fires_of}
use Rattle.window.proofs.quick.fires.Goals as goal

pub returns : goal.returns
unfolding fires_of
returns c = cc
