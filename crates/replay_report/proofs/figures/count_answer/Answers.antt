-- `count_answer` counts the numbers that have a figure.
use Rattle.replay_report.proofs.Adding.{answer_one, answer_none}
use Rattle.replay_report.proofs.figures.count_answer.Goals as goal

pub returns-then-number-lt-ANSWERS : goal.returns-then-number-lt-ANSWERS
returns-then-number-lt-ANSWERS c =
    let n = c.number_of-number.ensures in
    answer_one _ _ (rw n at c.if-number-lt-ANSWERS.true) (rw n at c.add.ensures)

pub returns-else-number-lt-ANSWERS : goal.returns-else-number-lt-ANSWERS
returns-else-number-lt-ANSWERS c = answer_none _ _ (rw c.number_of-number.ensures at c.if-number-lt-ANSWERS.false)
