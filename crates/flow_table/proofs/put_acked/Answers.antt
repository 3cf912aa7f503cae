-- `put_acked` stores two words; the others are as they stand (`with_acked_lem`).
use lib.ListN.{length-set}
use native.Mathlib.Omega.{arith}
use Rattle.flow_table.proofs.Places.{with_acked_lem}
use Rattle.flow_table.proofs.put_acked.Goals as goal

pub bounds-words-at-2 : goal.bounds-words-at-2
bounds-words-at-2 c = simp length-set (omega arith)

pub returns : goal.returns
returns c = let a = c.args in with_acked_lem a.words.now a.k a.f
