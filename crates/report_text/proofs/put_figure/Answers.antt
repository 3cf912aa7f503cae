-- `sheet::put_figure` meets its contract. The label, the figure and the line's end, by `then`.
-- Assumes nothing.
use native.Mathlib.Omega.{arith}
use Rattle.text.proofs.Puts.{then}
use Rattle.report_text.specs.Sheet.{figure_line}
use Rattle.report_text.proofs.put_figure.Goals as goal

pub returns : goal.returns
unfolding figure_line
returns c =
    let end = c.put.ensures in
    let figure = c.put_column-p.ensures in
    let label = c.put-p.ensures in
    (then label (then figure.0 end), omega arith)
