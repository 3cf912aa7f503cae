-- `sent_again` goes send by send: none below i sends the packet again (proofs/Judging).
use mathlib.Core.Path.{◌≡◌}
use mathlib.Core.Bool.{false}
use Rattle.plan.specs.Ahead.{again_to}
use Rattle.plan.proofs.words.sent_again.Given as goal

abbrev pub invariant-loop-i : goal.invariant-loop-i
invariant-loop-i l = again_to l.plan l.i l.flow l.psn ≡ false
