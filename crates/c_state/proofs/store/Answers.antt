-- `store` copies what `pack` answers.
use Rattle.std.proofs.Common.{◌∙◌}
use Rattle.c_state.proofs.store.Goals as goal

pub returns : goal.returns
returns c = c.copy_from_slice.ensures.after ∙ c.pack.ensures
