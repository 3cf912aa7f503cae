-- `from_words` reads the records of the first n flows in turn (`first_read`).
use mathlib.Core.Path.{◌≡◌}
use Rattle.flow_table.proofs.Turns.{first_read}
use Rattle.flow_table.proofs.lent.from_words.Given as goal

abbrev pub invariant-loop-k : goal.invariant-loop-k
invariant-loop-k l = l.fs ≡ first_read l.n l.words l.k
