-- `times_below_top` gathers top bits: by its invariant there is none exactly where the test holds so far, and a turn is `top_more`.
use Rattle.std.proofs.Common.{◌≡◌, ◌+◌, ◌^◌, ltb}
use Rattle.ledger.specs.Stretch.{all_in, timed_at}
use Rattle.ledger.proofs.stretch.times_below_top.Given as goal

abbrev pub invariant-loop-x : goal.invariant-loop-x
invariant-loop-x l = ltb l.late (2 ^ 63) ≡ all_in (timed_at l.most l.sent) l.from (l.from + l.x-index)
