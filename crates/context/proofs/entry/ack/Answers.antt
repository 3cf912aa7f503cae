-- `ack` tests number 2 and then relies on it: either answer is a case of `on_ack`.
use mathlib.Core.Path.{sym, ◌∙◌}
use native.Mathlib.Omega.{arith}
use Rattle.rules.specs.Verdict.{number_of}
use Rattle.ledger.specs.Memory.{memory}
use Rattle.sender.specs.World.{view_of}
use Rattle.sender.specs.Steps.{ack_sampling}
use Rattle.sender.specs.Events.{says_of}
use Rattle.context.specs.Context.{context, world_at}
use Rattle.context.specs.Events.{on_ack, ack_of, ack_left}
use Rattle.context.proofs.Kept.{past_ack_lem, past_ack_says_lem}
use Rattle.context.proofs.Lifts.{no_flow_says}
use Rattle.context.proofs.Entries.{unsound_answer}
use Rattle.context.proofs.entry.ack.Goals as goal

pub returns-then-not-is_sound : goal.returns-then-not-is_sound
unfolding number_of on_ack says_of
returns-then-not-is_sound c =
    let handed = context c.args.c c.args.flows.now
    (memory c.args.outstanding.now c.args.marked.now c.args.sizes.now c.args.sent.now) c.args.evs.now in
    let answer =
    unsound_answer (handed) (sym c.is_sound.ensures ∙ c.if-not-is_sound.true)
    (ack_of c.args.time c.args.flow c.args.a (handed))
    (ack_left c.args.time c.args.flow c.args.a (handed)) in
    record {
      evs_value = answer;
      feedback_value = no_flow_says (ack_sampling c.args.time c.args.a (view_of (world_at c.args.flow (handed)))) answer
          (λ z. let n : ⊥ = omega (arith, z) in n);
    }

pub ack-requires : goal.ack-requires
ack-requires c =
    sym c.is_sound.ensures ∙ c.if-not-is_sound.false

pub returns : goal.returns
returns c =
    let handed = context c.args.c c.args.flows.now
    (memory c.args.outstanding.now c.args.marked.now c.args.sizes.now c.args.sent.now) c.args.evs.now in
    let so = sym c.is_sound.ensures ∙ c.if-not-is_sound.false in
    record {
      evs_value = c.ack.ensures.evs_value ∙ past_ack_lem (handed) so c.args.time c.args.flow c.args.a;
      feedback_value = c.ack.ensures.feedback_value ∙ past_ack_says_lem (handed) so c.args.time c.args.flow c.args.a;
    }
