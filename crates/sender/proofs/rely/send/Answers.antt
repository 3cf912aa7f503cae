-- `send` judges the rows past 2, then takes the step: each answer is a case of `past_send`, by the laws of `Rowing`.
use borrow.Author.Rules.{rules}
use mathlib.Core.Path.{refl, sym, ap, ◌∙◌}
use Rattle.std.specs.Prelude.{⊤, Err}
use Rattle.rules.specs.Verdict.{number_of, ok_zero, err_not}
use Rattle.ledger.specs.Memory.{Memory, memory}
use Rattle.ledger.proofs.Shows.{memories}
use Rattle.sender.specs.World.{world, ring_of, view_of, world_of}
use Rattle.sender.specs.Rows.{send_all_rows}
use Rattle.sender.specs.Steps.{send_step}
use Rattle.sender.specs.Events.{past_send}
use Rattle.sender.proofs.Sounds.{holds_bounded}
use Rattle.sender.proofs.Views.{sound_lengths}
use Rattle.sender.proofs.Rowing.{accepted_number, answer_refused, answer_accepted}
use Rattle.sender.proofs.rely.send.Goals as goal

pub judge_send-requires : goal.judge_send-requires
judge_send-requires c =
    let handed = world c.args.c (memory c.args.outstanding.now c.args.marked.now c.args.sizes.now c.args.sent.now)
    c.args.evs.now in
    record {
      bounded = holds_bounded (handed) c.requires;
      lengths = sound_lengths _ (handed) c.requires.so;
    }

pub returns-in-Err : goal.returns-in-Err
unfolding past_send
returns-in-Err c =
    let handed = world c.args.c (memory c.args.outstanding.now c.args.marked.now c.args.sizes.now c.args.sent.now)
    c.args.evs.now in
    let rows = send_all_rows c.args.time c.args.a c.args.c (ring_of (handed)) in
    let stepped = world_of (send_step c.args.time c.args.a (view_of (handed))) in
    answer_refused (handed) (rows) (stepped) _ _ (number_of {T = ⊤} (Err c.in-Err.refusal)) (c.in-Err.ensures)
    (err_not _ _ refl) refl refl

pub send-requires : goal.send-requires
send-requires c = record {
  holds = c.requires;
  evs_value = sym c.judge_send.ensures ∙ ok_zero _ _ c.in-Ok.is;
}

pub returns-in-Ok : goal.returns-in-Ok
unfolding past_send
returns-in-Ok c =
    let handed = world c.args.c (memory c.args.outstanding.now c.args.marked.now c.args.sizes.now c.args.sent.now)
    c.args.evs.now in
    let rows = send_all_rows c.args.time c.args.a c.args.c (ring_of (handed)) in
    let stepped = world_of (send_step c.args.time c.args.a (view_of (handed))) in
    let zero = ok_zero _ _ c.in-Ok.is in
    answer_accepted (handed) (rows) (stepped) _ _ (number_of c.judge_send.result) c.judge_send.ensures zero
    c.send.result _ (handed).times
    (ap (λ (m : Memory). world c.send.result m (handed).times) (memories (search rules) (search rules) (search rules) (search rules)) ∙ c.send.ensures.left)
    refl (accepted_number _)
