-- `ack` judges the rows past 2, then takes the step: each answer is a case of `past_ack`, by the laws of `Rowing`.
use borrow.Author.Rules.{rules}
use mathlib.Core.Path.{refl, sym, ap, ◌∙◌}
use mathlib.Core.Option.{some}
use Rattle.std.specs.Prelude.{⊤, Err}
use Rattle.window.specs.declared.Sampling.{Sampling}
use Rattle.rules.specs.Verdict.{number_of, ok_zero, err_not, err_same}
use Rattle.ledger.specs.Memory.{Memory, memory}
use Rattle.ledger.proofs.Shows.{memories}
use Rattle.sender.specs.World.{world, view_of, world_of}
use Rattle.sender.specs.Rows.{ack_all_rows}
use Rattle.sender.specs.Steps.{ack_sampling, ack_step}
use Rattle.sender.specs.Events.{says_of, past_ack}
use Rattle.sender.proofs.Sounds.{holds_bounded}
use Rattle.sender.proofs.Rowing.{accepted_number, answer_refused, answer_accepted, says_nothing, says_sample}
use Rattle.sender.proofs.rely.ack.Goals as goal

pub judge_ack-requires : goal.judge_ack-requires
judge_ack-requires c =
    let handed = world c.args.c (memory c.args.outstanding.now c.args.marked.now c.args.sizes.now c.args.sent.now)
    c.args.evs.now in
    holds_bounded (handed) c.requires

pub returns-in-Err : goal.returns-in-Err
unfolding says_of past_ack
returns-in-Err c =
    let handed = world c.args.c (memory c.args.outstanding.now c.args.marked.now c.args.sizes.now c.args.sent.now)
    c.args.evs.now in
    let rows = ack_all_rows c.args.time c.args.a c.args.c in
    let stepped = world_of (ack_step c.args.time c.args.a (view_of (handed))) in
    let refused = err_not {T = ⊤} _ _ refl in
    let same = err_same {T = ⊤} Sampling (Err c.in-Err.refusal) _ refl in
    let answer = answer_refused (handed) (rows) (stepped) _ _ (number_of {T = ⊤} (Err c.in-Err.refusal)) (c.in-Err.ensures) refused refl same in
    record {
      evs_value = answer;
      feedback_value = says_nothing answer (ack_sampling c.args.time c.args.a (view_of (handed))) (λ z. refused (sym same ∙ z)) refl;
    }

pub ack-step-requires : goal.ack-step-requires
ack-step-requires c = record {
  holds = c.requires;
  c_value = sym c.judge_ack.ensures ∙ ok_zero _ _ c.in-Ok.is;
}

pub returns-in-Ok : goal.returns-in-Ok
unfolding says_of past_ack
returns-in-Ok c =
    let handed = world c.args.c (memory c.args.outstanding.now c.args.marked.now c.args.sizes.now c.args.sent.now)
    c.args.evs.now in
    let rows = ack_all_rows c.args.time c.args.a c.args.c in
    let stepped = world_of (ack_step c.args.time c.args.a (view_of (handed))) in
    let zero = ok_zero _ _ c.in-Ok.is in
    let answer = answer_accepted (handed) (rows) (stepped) _ _ (number_of c.judge_ack.result) c.judge_ack.ensures zero
    c.ack-step.result.state _ c.ack-step.new.evs
    (ap (λ (m : Memory). world c.ack-step.result.state m c.ack-step.new.evs)
    (memories (search rules) (search rules) (search rules) (search rules)) ∙ c.ack-step.ensures.evs_value) refl (accepted_number _) in
    record {
      evs_value = answer;
      feedback_value = says_sample answer (ack_sampling c.args.time c.args.a (view_of (handed))) (accepted_number _)
          (ap some c.ack-step.ensures.sampling_value);
    }
