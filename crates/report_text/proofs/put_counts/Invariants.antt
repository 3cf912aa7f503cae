-- `sheet::put_counts` meets its contract. A count a turn; `Listed` is the loop's invariant.
-- Assumes nothing.
use Rattle.report_text.proofs.Counting.{Listed}
use Rattle.report_text.proofs.put_counts.Given as goal

abbrev pub invariant-loop-k : goal.invariant-loop-k
invariant-loop-k l = Listed l.initial.out l.at l.label l.number l.place l.figures l.out l.p l.k
