-- `judge_resend` tests the row of a resend on the packet that it finds.
use Rattle.rules.specs.Verdict.{number_of}
use Rattle.ledger.specs.Lent.{memory_of}
use Rattle.ledger.specs.Memory.{shown}
use Rattle.ledger.proofs.Judging.{resend_8, resend_0}
use Rattle.ledger.proofs.judge.judge_resend.Goals as goal

pub returns-then-x-bytes : goal.returns-then-x-bytes
unfolding number_of
returns-then-x-bytes c =
    let slots = shown c.args.flow.low c.args.flow.next
    (memory_of c.args.ring) in
    resend_8 c.args.flow (slots) c.args.psn c.args.bytes c.find-x.result c.find-x.ensures c.if-x-bytes.true

pub returns : goal.returns
unfolding number_of
returns c =
    let slots = shown c.args.flow.low c.args.flow.next
    (memory_of c.args.ring) in
    resend_0 c.args.flow (slots) c.args.psn c.args.bytes c.find-x.result c.find-x.ensures c.if-x-bytes.false
