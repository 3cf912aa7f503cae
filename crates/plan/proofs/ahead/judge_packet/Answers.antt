-- `judge_packet` hands on what `judge_again` says of a resend, or what the ledger says of a new packet by the record that is kept.
use native.Mathlib.Omega.{arith}
use Rattle.rules.specs.Branch.{so_yes, so_no}
use Rattle.context.proofs.Sounds.{context_facts}
use Rattle.plan.proofs.ahead.judge_packet.Goals as goal

pub returns-then-send : goal.returns-then-send
returns-then-send c = so_yes _ _ _ _ c.if-send.true c.judge_again.ensures

pub nth-requires : goal.nth-requires
nth-requires c =
    omega (arith, c.requires.flow_bound.0, (context_facts _ c.requires.evs_value).table.few)

pub returns : goal.returns
returns c = so_no _ _ _ _ c.if-send.false (rw (c.nth.ensures, c.count.ensures) at c.judge_new.ensures)
