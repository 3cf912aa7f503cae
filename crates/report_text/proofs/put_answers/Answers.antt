-- `sheet::put_answers` meets its contract. One part after the other, by `then`.
-- Assumes nothing.
use native.Mathlib.Omega.{arith}
use Rattle.text.proofs.Puts.{then}
use Rattle.report_text.specs.Sheet.{answer_lines}
use Rattle.report_text.proofs.put_answers.Goals as goal

pub returns : goal.returns
unfolding answer_lines
returns c =
    let refused = c.put_counts.ensures in
    let accepted = c.put_figure-p.ensures in
    (then accepted.0 refused.0, omega arith)
