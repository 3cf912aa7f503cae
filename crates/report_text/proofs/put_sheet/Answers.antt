-- `sheet::put_sheet` meets its contract. One part after the other, by `then`.
-- Assumes nothing.
use native.Mathlib.Omega.{arith}
use Rattle.text.proofs.Puts.{then}
use Rattle.report_text.specs.Sheet.{sheet_text}
use Rattle.report_text.proofs.put_sheet.Goals as goal

pub returns : goal.returns
unfolding sheet_text
returns c =
    let bytes = c.put_bytes.ensures in
    let samples = c.put_samples-p.ensures in
    let kinds = c.put_kinds-p.ensures in
    let answers = c.put_answers-p.ensures in
    (then answers.0 (then kinds.0 (then samples.0 bytes.0)), omega arith)
