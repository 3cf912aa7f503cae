-- `sheet::put_samples` meets its contract. One part after the other, by `then`.
-- Assumes nothing.
use native.Mathlib.Omega.{arith}
use Rattle.text.proofs.Puts.{then}
use Rattle.report_text.specs.Sheet.{sample_lines}
use Rattle.report_text.proofs.put_samples.Goals as goal

pub returns : goal.returns
unfolding sample_lines
returns c =
    let buckets = c.put_counts.ensures in
    let greatest = c.put_figure-p-2.ensures in
    let least = c.put_figure-p.ensures in
    (then least.0 (then greatest.0 buckets.0), omega arith)
