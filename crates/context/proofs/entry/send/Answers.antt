-- `send` tests number 2 and then relies on it: either answer is a case of `on_send`.
use mathlib.Core.Path.{sym, ◌∙◌}
use Rattle.rules.specs.Verdict.{number_of}
use Rattle.ledger.specs.Memory.{memory}
use Rattle.context.specs.Context.{context}
use Rattle.context.specs.Events.{on_send, send_of, send_left}
use Rattle.context.proofs.Kept.{past_send_lem}
use Rattle.context.proofs.Entries.{unsound_answer}
use Rattle.context.proofs.entry.send.Goals as goal

pub returns-then-not-is_sound : goal.returns-then-not-is_sound
unfolding number_of on_send
returns-then-not-is_sound c =
    let handed = context c.args.c c.args.flows.now
    (memory c.args.outstanding.now c.args.marked.now c.args.sizes.now c.args.sent.now) c.args.evs.now in
    unsound_answer (handed) (sym c.is_sound.ensures ∙ c.if-not-is_sound.true)
    (send_of c.args.time c.args.flow c.args.a (handed))
    (send_left c.args.time c.args.flow c.args.a (handed))

pub send-requires : goal.send-requires
send-requires c =
    sym c.is_sound.ensures ∙ c.if-not-is_sound.false

pub returns : goal.returns
returns c =
    let handed = context c.args.c c.args.flows.now
    (memory c.args.outstanding.now c.args.marked.now c.args.sizes.now c.args.sent.now) c.args.evs.now in
    let so = sym c.is_sound.ensures ∙ c.if-not-is_sound.false in
    c.send.ensures ∙ past_send_lem (handed) so c.args.time c.args.flow c.args.a
