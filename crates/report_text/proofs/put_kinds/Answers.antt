-- `sheet::put_kinds` meets its contract. One line after the other, by `then`.
-- Assumes nothing.
use native.Mathlib.Omega.{arith}
use Rattle.text.proofs.Puts.{then}
use Rattle.report_text.specs.Sheet.{kind_lines}
use Rattle.report_text.proofs.put_kinds.Goals as goal

pub returns : goal.returns
unfolding kind_lines
returns c =
    let taken = c.put_figure-p.ensures in
    let cut = c.put_figure-p-2.ensures in
    let gone = c.put_figure-p-3.ensures in
    let ambiguous = c.put_figure-p-4.ensures in
    let notPositive = c.put_figure.ensures in
    (then taken.0 (then cut.0 (then gone.0 (then ambiguous.0 notPositive.0))), omega arith)
