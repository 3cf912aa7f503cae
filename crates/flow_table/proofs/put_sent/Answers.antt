-- `put_sent` stores two words; the others are as they stand (`with_sent_lem`).
use lib.ListN.{length-set}
use native.Mathlib.Omega.{arith}
use Rattle.flow_table.proofs.Places.{with_sent_lem}
use Rattle.flow_table.proofs.put_sent.Goals as goal

pub bounds-words-at-2 : goal.bounds-words-at-2
bounds-words-at-2 c = simp length-set (omega arith)

pub returns : goal.returns
returns c = let a = c.args in with_sent_lem a.words.now a.k a.f
