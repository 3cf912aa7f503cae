-- `judge_packet` hands on what the ledger says of a resend, or of a new packet: the rows of each are a send's.
use mathlib.Core.Path.{ap, ◌∙◌}
use Prim.Native.Nat.{ℕ}
use Rattle.rules.specs.Rows.{first_of}
use Rattle.ledger.specs.Lent.{memory_of}
use Rattle.ledger.specs.Memory.{shown}
use Rattle.ledger.specs.Rows.{new_rows}
use Rattle.sender.proofs.Views.{sent_cap}
use Rattle.sender.proofs.Rowing.{rows_resend, rows_new}
use Rattle.sender.proofs.judge.judge_packet.Goals as goal

pub returns-then-a : goal.returns-then-a
returns-then-a c =
    let a = c.args in
    let slots = shown a.flow.low a.flow.next (memory_of a.ring) in
    c.judge_resend.ensures ∙ rows_resend a.flow slots a.a.psn a.a.size a.a.resend c.if-a.true

pub returns : goal.returns
returns c =
    let a = c.args in
    let slots = shown a.flow.low a.flow.next (memory_of a.ring) in
    c.judge_new.ensures
    ∙ ap (λ (cap : ℕ). first_of (new_rows a.flow cap a.a.psn a.a.size)) (sent_cap a.flow _ c.requires)
    ∙ rows_new a.flow slots a.a.psn a.a.size a.a.resend c.if-a.false
