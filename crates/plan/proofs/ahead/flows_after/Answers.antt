-- `flows_after` leaves the records of a resend, and moves the sender's record for a new packet.
use mathlib.Core.Path.{refl, ap, ◌∙◌}
use Rattle.rules.specs.Branch.{so_yes, so_no}
use Rattle.ledger.specs.declared.Flow.{Flow}
use Rattle.flow_table.specs.Lent.{with_record}
use Rattle.plan.specs.Ahead.{pushed, flows_after}
use Rattle.plan.proofs.ahead.flows_after.Goals as goal

pub returns-then-send : goal.returns-then-send
unfolding flows_after
returns-then-send c = so_yes _ _ _ _ c.if-send.true refl

pub returns : goal.returns
unfolding flows_after
returns c =
    let a = c.args in
    so_no _ _ _ _ c.if-send.false
    (c.with_record.ensures
    ∙ ap (λ (f : Flow). with_record a.fs a.p.flow f) (c.push.ensures ∙ ap (pushed a.p.send.size) c.nth.ensures))
