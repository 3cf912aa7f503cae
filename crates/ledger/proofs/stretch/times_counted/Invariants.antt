-- `times_counted` counts the late ones: by its invariant there is none exactly where the test holds so far.
use Rattle.std.proofs.Common.{◌≡◌, ◌+◌, ◌≤◌, eqb}
use Rattle.ledger.specs.Stretch.{all_in, timed_at}
use Rattle.ledger.proofs.stretch.times_counted.Given as goal

abbrev pub invariant-loop-x : goal.invariant-loop-x
invariant-loop-x l = (l.late ≤ l.x-index) × (eqb l.late 0 ≡ all_in (timed_at l.most l.sent) l.from (l.from + l.x-index))
