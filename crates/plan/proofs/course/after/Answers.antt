-- `after` moves what is kept, part by part; the turn is the flow behind the one that sent, of as many as are counted.
use Rattle.plan.specs.Course.{course_after}
use Rattle.plan.proofs.course.after.Goals as goal

pub returns : goal.returns
unfolding course_after
returns c =
    rw (c.after.ensures, c.waits_after.ensures, c.after-2.ensures, c.count.ensures)
