-- `new_data` judges the rows past 2, then takes the step: each answer is a case of `past_new_data`, by the laws of `Rowing`.
use mathlib.Core.Path.{refl, sym, ap₂, ◌∙◌}
use Rattle.std.specs.Prelude.{⊤, Err}
use Rattle.rules.specs.Verdict.{number_of, ok_zero, err_not}
use Rattle.ledger.specs.Lent.{memory_of}
use Rattle.ledger.specs.Memory.{Memory}
use Rattle.sender.specs.World.{world, view_of, world_of}
use Rattle.sender.specs.Rows.{new_data_rows}
use Rattle.sender.specs.Steps.{new_data_step}
use Rattle.sender.specs.Events.{past_new_data}
use Rattle.sender.specs.declared.Controller.{Controller}
use Rattle.sender.proofs.Sounds.{holds_bounded}
use Rattle.sender.proofs.Views.{stored_ring}
use Rattle.sender.proofs.Rowing.{accepted_number, answer_refused, answer_accepted}
use Rattle.sender.proofs.rely.new_data.Goals as goal

pub judge_new_data-requires : goal.judge_new_data-requires
judge_new_data-requires c =
    let handed = world c.args.c (memory_of c.args.ring)
    c.args.evs.now in
    holds_bounded (handed) c.requires

pub returns-in-Err : goal.returns-in-Err
unfolding past_new_data
returns-in-Err c =
    let handed = world c.args.c (memory_of c.args.ring)
    c.args.evs.now in
    let rows = new_data_rows c.args.time c.args.bytes c.args.c in
    let stepped = world_of (new_data_step c.args.time c.args.bytes (view_of (handed))) in
    answer_refused (handed) (rows) (stepped) _ _ (number_of {T = ⊤} (Err c.in-Err.refusal)) (c.in-Err.ensures)
    (err_not _ _ refl) refl refl

pub new_data-requires : goal.new_data-requires
new_data-requires c =
    let handed = world c.args.c (memory_of c.args.ring)
    c.args.evs.now in
    record {
      bounded = holds_bounded (handed) c.requires;
      c_value = sym c.judge_new_data.ensures ∙ ok_zero _ _ c.in-Ok.is;
    }

pub returns-in-Ok : goal.returns-in-Ok
unfolding past_new_data new_data_step
returns-in-Ok c =
    let handed = world c.args.c (memory_of c.args.ring)
    c.args.evs.now in
    let rows = new_data_rows c.args.time c.args.bytes c.args.c in
    let stepped = world_of (new_data_step c.args.time c.args.bytes (view_of (handed))) in
    let zero = ok_zero _ _ c.in-Ok.is in
    answer_accepted (handed) (rows) (stepped) _ _ (number_of c.judge_new_data.result) c.judge_new_data.ensures zero
    c.new_data.result (handed).slots (handed).times
    (ap₂ (λ (x : Controller) (m : Memory). world x m (handed).times) c.new_data.ensures
    (sym (stored_ring _ (handed) c.requires.so))) refl
    (accepted_number _)
