-- `judge_nack` walks the rows of a NACK: each branch opens one, and the last are the ledger's.
use mathlib.Core.Path.{sym, refl, ◌∙◌}
use Rattle.rules.specs.Verdict.{number_of}
use borrow.Author.Tests.{le-leb, lt-leb, le-ltb, lt-ltb}
use Rattle.rules.specs.Rows.{first_here, first_later}
use Rattle.sender.proofs.Rowing.{judged_3, judged_field, judged_on}
use Rattle.sender.proofs.judge.judge_nack.Goals as goal

pub returns-then-bad_time : goal.returns-then-bad_time
unfolding number_of
returns-then-bad_time c = judged_3 _ _ _ _ (sym c.bad_time.ensures ∙ c.if-bad_time.true)

pub returns-then-a-gt-REASON_MOST : goal.returns-then-a-gt-REASON_MOST
unfolding number_of
returns-then-a-gt-REASON_MOST c =
    judged_field _ _ _ _ (sym c.bad_time.ensures ∙ c.if-bad_time.false) (lt-ltb _ _ c.if-a-gt-REASON_MOST.true)

pub returns-then-c-a : goal.returns-then-c-a
unfolding number_of
returns-then-c-a c =
    judged_on _ _ _ _ (sym c.bad_time.ensures ∙ c.if-bad_time.false) (le-ltb _ _ c.if-a-gt-REASON_MOST.false) _
    (first_here _ _ _ _ (le-leb _ _ c.if-c-a.true) refl)

pub returns : goal.returns
unfolding number_of
returns c =
    judged_on _ _ _ _ (sym c.bad_time.ensures ∙ c.if-bad_time.false) (le-ltb _ _ c.if-a-gt-REASON_MOST.false) _
    (first_later _ _ _ _ (lt-leb _ _ c.if-c-a.false) c.judge_mark.ensures)
