-- `count_event` adds the bytes of a send that is accepted.
use native.Mathlib.Omega.{arith}
use Rattle.rules.specs.Verdict.{accepted_zero, refused_not}
use Rattle.replay_report.proofs.Adding.{sent_inside, send_none, send_refused, send_one}
use Rattle.replay_report.proofs.figures.count_event.Goals as goal

pub returns-in_default : goal.returns-in_default
returns-in_default c = send_none _ _ _ c.in_default.not-Send

pub add-requires : goal.add-requires
add-requires c =
    omega (arith, sent_inside _ c.sent_at.ensures, c.requires)

pub returns-then-is_ok : goal.returns-then-is_ok
returns-then-is_ok c =
    send_one _ _ _ _ _ _ c.in-Send.is (accepted_zero _ _ c.is_ok.ensures.value c.if-is_ok.true)
    (rw c.sent_at.ensures at c.add.ensures)

pub returns-else-is_ok : goal.returns-else-is_ok
returns-else-is_ok c =
    send_refused _ _ _ _ _ _ c.in-Send.is
    (refused_not _ _ c.is_ok.ensures.value c.if-is_ok.false)
