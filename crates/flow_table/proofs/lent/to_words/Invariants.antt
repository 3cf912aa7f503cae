-- `to_words` stores the words of each of the eight records in turn (`Spelt`).
use Rattle.flow_table.proofs.Turns.{Spelt}
use Rattle.flow_table.proofs.lent.to_words.Given as goal

abbrev pub invariant-loop-k : goal.invariant-loop-k
invariant-loop-k l = Spelt l.fs.at l.k l.words
