-- `count` counts one after another.
use Rattle.replay_report.proofs.Adding.{all_counted}
use Rattle.replay_report.proofs.figures.count.Goals as goal

pub returns : goal.returns
returns c =
    all_counted _ _ _ _ _ _ _ c.count_answer.ensures
    c.count_sample.ensures c.count_bytes.ensures
