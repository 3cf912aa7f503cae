-- `sheet::sheet` meets its contract. The figures and the room are tested, then the report is put.
-- Assumes nothing.
use native.Mathlib.Omega.{arith}
use Rattle.report_text.proofs.Sheeting.{no_figures, no_room, room, counts_none, counts}
use Rattle.report_text.proofs.sheet.Goals as goal

pub returns-then-figures-ne-FIGURES : goal.returns-then-figures-ne-FIGURES
returns-then-figures-ne-FIGURES c =
    record {
      out_after = no_figures _ _ c.if-figures-ne-FIGURES.true;
      prefix_len = counts_none c.args.out.now;
    }

pub returns-then-out-lt-SHEET_MOST : goal.returns-then-out-lt-SHEET_MOST
returns-then-out-lt-SHEET_MOST c =
    record {
      out_after = no_room _ _ c.if-figures-ne-FIGURES.false c.if-out-lt-SHEET_MOST.true;
      prefix_len = counts_none c.args.out.now;
    }

pub returns : goal.returns
returns c =
    let put = c.put_sheet.ensures in
    record {
      out_after = room _ _ c.if-figures-ne-FIGURES.false c.if-out-lt-SHEET_MOST.false put.0;
      prefix_len = counts _ _ (omega (arith, put.1, c.put_sheet.auto.out, c.if-out-lt-SHEET_MOST.false));
    }
