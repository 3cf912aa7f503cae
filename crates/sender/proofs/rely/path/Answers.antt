-- `path` judges the time, then chooses: each answer is a case of `past_path`, by the laws of `Rowing`.
use mathlib.Core.Path.{refl, sym, ap, ap₂, ◌∙◌}
use mathlib.Core.List.{[]}
use Prim.Native.Nat.{ℕ}
use Rattle.std.specs.Prelude.{⊤, Ok, Err}
use Rattle.rules.specs.Verdict.{number_of, ok_zero, err_not, err_same}
use Rattle.ledger.specs.Lent.{memory_of}
use Rattle.ledger.specs.Memory.{Memory}
use Rattle.sender.specs.World.{world, view_of, routed}
use Rattle.sender.specs.Rows.{path_rows}
use Rattle.sender.specs.Steps.{route_of, path_state, path_step}
use Rattle.sender.specs.Events.{past_path}
use Rattle.sender.specs.declared.Controller.{Controller}
use Rattle.sender.proofs.Sounds.{among_facts, holds_bounded}
use Rattle.sender.proofs.Views.{stored_ring}
use Rattle.sender.proofs.Stepping.{time_facts}
use Rattle.sender.proofs.Rowing.{accepted_number, entry_refused, entry_accepted, taken, untaken}
use Rattle.sender.proofs.rely.path.Goals as goal

pub returns-in-Err : goal.returns-in-Err
unfolding past_path
returns-in-Err c =
    let handed = world c.args.c (memory_of c.args.ring)
    c.args.evs.now in
    let n = number_of {T = ⊤} (Err c.in-Err.refusal) in
    let w = handed in
    let time = c.args.time in
    entry_refused (path_rows time w.state) (taken time w) (λ n. untaken n w) n (c.in-Err.ensures)
    (untaken (number_of {T = ℕ} (Err c.in-Err.refusal)) w) (err_not {T = ⊤} _ _ refl)
    (ap (λ (k : ℕ). untaken k w) (err_same {T = ⊤} ℕ (Err c.in-Err.refusal) _ refl))

pub path-step-requires : goal.path-step-requires
path-step-requires c =
    let handed = world c.args.c (memory_of c.args.ring)
    c.args.evs.now in
    let f = among_facts _ (view_of (handed)) c.requires.so in
    let j = c.judge_path in
    let zero = ok_zero _ _ c.in-Ok.is in
    let t = (time_facts c.args.time c.args.c [] (sym j.ensures ∙ zero)).0 in
    record {
      bounded = holds_bounded (handed) c.requires;
      evs_len = (f.times_long, f.cursor_ok);
      evs_value = (f.times_ok_lem, t.early);
    }

pub returns-in-Ok : goal.returns-in-Ok
unfolding past_path path_step
returns-in-Ok c =
    let handed = world c.args.c (memory_of c.args.ring)
    c.args.evs.now in
    let p = c.path-step in
    let j = c.judge_path in
    let w = handed in
    let time = c.args.time in
    let zero = ok_zero _ _ c.in-Ok.is in
    entry_accepted (path_rows time w.state) (taken time w) (λ n. untaken n w) (number_of j.result) j.ensures
    (routed (number_of (Ok p.result.gives)) p.result.gives p.result.state w.slots w.times) zero
    (ap (λ (n : ℕ). routed n p.result.gives p.result.state w.slots w.times) (accepted_number _)
    ∙ ap₂ (λ (c : ℕ) (x : Controller). routed 0 c x w.slots w.times) p.ensures.1 p.ensures.0
    ∙ ap (λ (m : Memory). routed 0 (route_of time (view_of w)).ev (path_state time (route_of time (view_of w)).cursor w.state) m w.times)
    (sym (stored_ring _ w c.requires.so)))
