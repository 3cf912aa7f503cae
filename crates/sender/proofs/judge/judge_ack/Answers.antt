-- `judge_ack` walks the rows of an ACK: each branch opens one, and the last are the ledger's.
use mathlib.Core.Path.{sym, ap, refl, ◌∙◌}
use mathlib.Core.Bool.{not}
use Rattle.rules.specs.Verdict.{number_of}
use borrow.Author.Tests.{le-leb, lt-leb}
use Rattle.rules.specs.Rows.{first_here, first_later}
use Rattle.sender.proofs.Rowing.{judged_3, judged_field, judged_on}
use Rattle.sender.proofs.judge.judge_ack.Goals as goal

pub returns-then-bad_time : goal.returns-then-bad_time
unfolding number_of
returns-then-bad_time c = judged_3 _ _ _ _ (sym c.bad_time.ensures ∙ c.if-bad_time.true)

pub returns-then-a-ge-COUNTS : goal.returns-then-a-ge-COUNTS
unfolding number_of
returns-then-a-ge-COUNTS c =
    judged_field _ _ _ _ (sym c.bad_time.ensures ∙ c.if-bad_time.false) (le-leb _ _ c.if-a-ge-COUNTS.true)

pub returns-then-c-a : goal.returns-then-c-a
unfolding number_of
returns-then-c-a c =
    judged_on _ _ _ _ (sym c.bad_time.ensures ∙ c.if-bad_time.false) (lt-leb _ _ c.if-a-ge-COUNTS.false) _
    (first_here _ _ _ _ (le-leb _ _ c.if-c-a.true) refl)

pub returns-then-not-covers : goal.returns-then-not-covers
unfolding number_of
returns-then-not-covers c =
    judged_on _ _ _ _ (sym c.bad_time.ensures ∙ c.if-bad_time.false) (lt-leb _ _ c.if-a-ge-COUNTS.false) _
    (first_later _ _ _ _ (lt-leb _ _ c.if-c-a.false) (first_here _ _ _ _ (ap not (sym c.covers.ensures ∙ c.if-not-covers.true)) refl))

pub returns : goal.returns
unfolding number_of
returns c =
    judged_on _ _ _ _ (sym c.bad_time.ensures ∙ c.if-bad_time.false) (lt-leb _ _ c.if-a-ge-COUNTS.false) _
    (first_later _ _ _ _ (lt-leb _ _ c.if-c-a.false)
    (first_later _ _ _ _ (ap not (sym c.covers.ensures ∙ c.if-not-covers.false)) c.judge_ack.ensures))
