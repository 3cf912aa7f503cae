-- `text::below_zero` meets its contract. `Below` has what each step asks.
-- Assumes nothing.
use Rattle.text.proofs.Signs.{below}
use Rattle.text.proofs.below_zero.Goals as goal

pub overflow_add-less : goal.overflow_add-less
overflow_add-less c = (below c.args.z c.ranges.z c.requires).up

pub overflow_sub-less : goal.overflow_sub-less
overflow_sub-less c = (below c.args.z c.ranges.z c.requires).down

pub overflow_cast-less : goal.overflow_cast-less
overflow_cast-less c = (below c.args.z c.ranges.z c.requires).cast

pub overflow_add-result : goal.overflow_add-result
overflow_add-result c = (below c.args.z c.ranges.z c.requires).sum

pub returns : goal.returns
returns c = (below c.args.z c.ranges.z c.requires).is
