-- `sheet::put_bytes` meets its contract. One line after the other, by `then`.
-- Assumes nothing.
use native.Mathlib.Omega.{arith}
use Rattle.text.proofs.Puts.{then}
use Rattle.report_text.specs.Sheet.{byte_lines}
use Rattle.report_text.proofs.put_bytes.Goals as goal

pub returns : goal.returns
unfolding byte_lines
returns c =
    let again = c.put_figure.ensures in
    let new = c.put_figure-p.ensures in
    (then new.0 again.0, omega arith)
