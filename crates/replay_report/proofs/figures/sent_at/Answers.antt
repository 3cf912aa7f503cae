-- `sent_at` tests whether it is a resend.
use mathlib.Core.Path.{refl}
use Rattle.rules.specs.Branch.{so_yes, so_no}
use Rattle.replay_report.proofs.figures.sent_at.Goals as goal

pub returns-then-resend : goal.returns-then-resend
returns-then-resend c = so_yes _ _ _ _ c.if-resend.true refl

pub returns : goal.returns
returns c = so_no _ _ _ _ c.if-resend.false refl
