-- `count_bytes` looks for a whole record.
use Rattle.replay_report.proofs.Adding.{stands_none, stands_one}
use Rattle.replay_report.proofs.figures.count_bytes.Goals as goal

pub returns-in_default : goal.returns-in_default
returns-in_default c = stands_none _ _ _ c.in_default.not-Whole

pub returns : goal.returns
returns c =
    stands_one _ _ _ _ _ c.in-Whole.is c.count_event.ensures
