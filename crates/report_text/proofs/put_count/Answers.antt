-- `sheet::put_count` meets its contract. The label, the number, the count and the line's end, by `then`; nothing where the count is 0.
-- Assumes nothing.
use native.Mathlib.Omega.{arith}
use Rattle.text.proofs.Puts.{then, renamed}
use Rattle.report_text.proofs.Counting.{put_none, count_none, count_some}
use Rattle.report_text.proofs.put_count.Goals as goal

pub returns-then-n-eq0 : goal.returns-then-n-eq0
returns-then-n-eq0 c =
    let a = c.args in
    (rw (count_none a.label.now a.number a.n c.if-n-eq0.true) (put_none _ _), omega arith)

pub returns : goal.returns
returns c =
    let end = c.put.ensures in
    let count = c.put_column-p-2.ensures in
    let number = c.put_column-p.ensures in
    let label = c.put-p.ensures in
    let a = c.args in (
      renamed (count_some a.label.now a.number a.n c.if-n-eq0.false) (then label (then number.0 (then count.0 end))),
      omega arith,
    )
