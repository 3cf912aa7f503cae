-- `loss` judges the rows past 2, then takes the step: each answer is a case of `past_loss`, by the laws of `Rowing`.
use borrow.Author.Rules.{rules}
use mathlib.Core.Path.{refl, sym, ap, ◌∙◌}
use Rattle.rules.specs.Verdict.{number_of, accepted_zero, refused_not}
use Rattle.ledger.specs.Memory.{Memory, memory}
use Rattle.ledger.proofs.Shows.{memories}
use Rattle.sender.specs.World.{world, ring_of, view_of, world_of}
use Rattle.sender.specs.Rows.{loss_all_rows}
use Rattle.sender.specs.Steps.{loss_step}
use Rattle.sender.specs.Events.{past_loss}
use Rattle.sender.proofs.Sounds.{holds_bounded}
use Rattle.sender.proofs.Views.{sound_lengths}
use Rattle.sender.proofs.Rowing.{answer_refused, answer_accepted}
use Rattle.sender.proofs.rely.loss.Goals as goal

pub judge_loss-outcome-requires : goal.judge_loss-outcome-requires
judge_loss-outcome-requires c =
    let handed = world c.args.c (memory c.args.outstanding.now c.args.marked.now c.args.sizes.now c.args.sent.now)
    c.args.evs.now in
    record {
      bounded = holds_bounded (handed) c.requires;
      lengths = sound_lengths _ (handed) c.requires.so;
    }

pub loss-state-requires : goal.loss-state-requires
loss-state-requires c = record {
  holds = c.requires;
  evs_value = sym c.judge_loss-outcome.ensures ∙ accepted_zero _ _ c.is_ok.ensures.value c.if-is_ok.true;
}

pub returns-then-is_ok : goal.returns-then-is_ok
unfolding past_loss
returns-then-is_ok c =
    let handed = world c.args.c (memory c.args.outstanding.now c.args.marked.now c.args.sizes.now c.args.sent.now)
    c.args.evs.now in
    let rows = loss_all_rows c.args.time c.args.a c.args.c (ring_of (handed)) in
    let stepped = world_of (loss_step c.args.time c.args.a (view_of (handed))) in
    let zero = accepted_zero _ _ c.is_ok.ensures.value c.if-is_ok.true in
    answer_accepted (handed) (rows) (stepped) _ _ (number_of c.judge_loss-outcome.result) c.judge_loss-outcome.ensures zero
    c.loss-state.result _ c.loss-state.new.evs
    (ap (λ (m : Memory). world c.loss-state.result m c.loss-state.new.evs)
    (memories (search rules) (search rules) (search rules) (search rules)) ∙ c.loss-state.ensures.left) refl zero

pub returns-else-is_ok : goal.returns-else-is_ok
unfolding past_loss
returns-else-is_ok c =
    let handed = world c.args.c (memory c.args.outstanding.now c.args.marked.now c.args.sizes.now c.args.sent.now)
    c.args.evs.now in
    let rows = loss_all_rows c.args.time c.args.a c.args.c (ring_of (handed)) in
    let stepped = world_of (loss_step c.args.time c.args.a (view_of (handed))) in
    answer_refused (handed) (rows) (stepped) _ _ (number_of c.judge_loss-outcome.result) c.judge_loss-outcome.ensures
    (refused_not _ _ c.is_ok.ensures.value c.if-is_ok.false) refl refl
