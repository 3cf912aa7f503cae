-- `sheet::put_counts` meets its contract. A count a turn; `Listed` is the loop's invariant.
-- Assumes nothing.
use Rattle.report_text.proofs.Counting.{listed_none, listed_more}
use Rattle.report_text.proofs.put_counts.Goals as goal

pub loop-k-init : goal.loop-k-init
loop-k-init c = listed_none _ _ _ _ _ _

pub loop-k-preserved : goal.loop-k-preserved
loop-k-preserved c =
    listed_more _ _ _ _ c.loop-k.invariant c.put_count-p.ensures.0 c.put_count-p.ensures.1
