-- `start` is what the judge starts with, the packets that wait, and the held turn.
use Rattle.plan.specs.Course.{course_of}
use Rattle.plan.proofs.course.start.Goals as goal

pub returns : goal.returns
unfolding course_of
returns c = rw (c.start.ensures, c.all_waiting.ensures)
