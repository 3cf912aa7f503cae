-- `slots::status_of` goes by the tests that `status_of` goes by.
use Rattle.std.proofs.Common.{refl}
use Rattle.rules.specs.Branch.{if_so}
use Rattle.ledger.specs.Memory.{status_of}
use Rattle.ledger.proofs.slots.status_of.Goals as goal

pub returns-then-mark : goal.returns-then-mark
unfolding status_of if_so
returns-then-mark c = rw (c.if-out.true, c.if-mark.true) refl

pub returns-then-out : goal.returns-then-out
unfolding status_of if_so
returns-then-out c = rw (c.if-out.true, c.if-mark.false) refl

pub returns-then-mark-2 : goal.returns-then-mark-2
unfolding status_of if_so
returns-then-mark-2 c = rw (c.if-out.false, c.if-mark-2.true) refl

pub returns : goal.returns
unfolding status_of if_so
returns c = rw (c.if-out.false, c.if-mark-2.false) refl
