-- `nack` judges the rows past 2, then takes the step: each answer is a case of `past_nack`, by the laws of `Rowing`.
use borrow.Author.Rules.{rules}
use mathlib.Core.Path.{refl, sym, ap, ◌∙◌}
use mathlib.Core.Option.{some}
use Rattle.std.specs.Prelude.{⊤, Err}
use Rattle.window.specs.declared.Sampling.{Sampling}
use Rattle.rules.specs.Verdict.{number_of, ok_zero, err_not, err_same}
use Rattle.ledger.specs.Memory.{Memory, memory}
use Rattle.ledger.proofs.Shows.{memories}
use Rattle.sender.specs.World.{world, ring_of, view_of, world_of}
use Rattle.sender.specs.Rows.{nack_all_rows}
use Rattle.sender.specs.Steps.{nack_sampling, nack_step}
use Rattle.sender.specs.Events.{says_of, past_nack}
use Rattle.sender.proofs.Sounds.{holds_bounded}
use Rattle.sender.proofs.Views.{sound_lengths}
use Rattle.sender.proofs.Rowing.{accepted_number, answer_refused, answer_accepted, says_nothing, says_sample}
use Rattle.sender.proofs.rely.nack.Goals as goal

pub judge_nack-requires : goal.judge_nack-requires
judge_nack-requires c =
    let handed = world c.args.c (memory c.args.outstanding.now c.args.marked.now c.args.sizes.now c.args.sent.now)
    c.args.evs.now in
    record {
      bounded = holds_bounded (handed) c.requires;
      lengths = sound_lengths _ (handed) c.requires.so;
    }

pub nack-step-requires : goal.nack-step-requires
nack-step-requires c = record {
  holds = c.requires;
  evs_value = sym c.judge_nack.ensures ∙ ok_zero _ _ c.in-Ok.is;
}

pub returns-in-Ok : goal.returns-in-Ok
unfolding says_of past_nack
returns-in-Ok c =
    let handed = world c.args.c (memory c.args.outstanding.now c.args.marked.now c.args.sizes.now c.args.sent.now)
    c.args.evs.now in
    let rows = nack_all_rows c.args.time c.args.a c.args.c (ring_of (handed)) in
    let stepped = world_of (nack_step c.args.time c.args.a (view_of (handed))) in
    let zero = ok_zero _ _ c.in-Ok.is in
    let answer = answer_accepted (handed) (rows) (stepped) _ _ (number_of c.judge_nack.result)
    c.judge_nack.ensures zero
    c.nack-step.result.state
    _ c.nack-step.new.evs
    (ap (λ (m : Memory). world c.nack-step.result.state m c.nack-step.new.evs)
    (memories (search rules) (search rules) (search rules) (search rules)) ∙ c.nack-step.ensures.evs_value_2) refl (accepted_number _) in
    record {
      evs_value = answer;
      feedback_value = says_sample answer (nack_sampling c.args.time c.args.a (view_of (handed))) (accepted_number _) (ap some c.nack-step.ensures.sampling_value);
    }

pub returns-in-Err : goal.returns-in-Err
unfolding says_of past_nack
returns-in-Err c =
    let handed = world c.args.c (memory c.args.outstanding.now c.args.marked.now c.args.sizes.now c.args.sent.now)
    c.args.evs.now in
    let rows = nack_all_rows c.args.time c.args.a c.args.c (ring_of (handed)) in
    let stepped = world_of (nack_step c.args.time c.args.a (view_of (handed))) in
    let refused = err_not {T = ⊤} _ _ refl in
    let same = err_same {T = ⊤} Sampling (Err c.in-Err.refusal) _ refl in
    let answer = answer_refused (handed) (rows) (stepped) _ _ (number_of {T = ⊤} (Err c.in-Err.refusal)) (c.in-Err.ensures) refused refl same in
    record {
      evs_value = answer;
      feedback_value = says_nothing answer (nack_sampling c.args.time c.args.a (view_of (handed))) (λ z. refused (sym same ∙ z)) refl;
    }
