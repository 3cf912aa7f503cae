-- `Controller::path` loads the table, makes the step and stores the table: `method_table`.
use mathlib.Core.Path.{◌≡◌, ap, ◌∙◌}
use Prim.Native.Nat.{ℕ, ◌≤◌}
use Rattle.std.proofs.Common.{rules}
use Rattle.std.specs.Prelude.{Result}
use Rattle.rules.specs.declared.verdict.Refusal.{Refusal}
use Rattle.flow_table.specs.Words.{flows_most}
use Rattle.std.specs.Result.{result_unwrap_or}
use Rattle.rules.specs.Verdict.{number_of}
use Rattle.ledger.specs.Memory.{memory}
use Rattle.context.specs.Context.{Context, Answered, Routing, context, routed}
use Rattle.context.specs.Events.{on_path}
use Rattle.context.specs.Table.{by_value, route_answer}
use Rattle.context.proofs.Events.{path_event, path_unsaid}
use Rattle.context.proofs.Tables.{event_keeps, step_answer, step_said, method_table, method_said}
use Rattle.context.proofs.Controller.path.Goals as goal

pub make_step-r-requires-clause-keeps : goal.make_step-r-requires-clause-keeps
make_step-r-requires-clause-keeps c p o m z s e r p' o' m' z' s' e' h =
    let a = c.args in
    let x = context a.self p.now (memory o.now m.now z.now s.now) e.now in
    let saw : routed (number_of r.outcome) (result_unwrap_or r.outcome 0) r.state p'.now (memory o'.now m'.now z'.now s'.now) e'.now
    ≡ on_path a.time a.flow (x) = search rules in
    event_keeps (λ x. route_answer (on_path a.time a.flow x)) (path_event a.time a.flow) (x) _ (ap route_answer saw)

pub returns : goal.returns
returns c =
    let a = c.args in
    let event = on_path a.time a.flow in
    let on : Context → Answered = λ x. route_answer (on_path a.time a.flow x) in
    let S = c.make_step-r.ensures in
    let r = c.make_step-r.result.answer in
    let saw : (few : c.load-fs.result.n ≤ flows_most) → let C = S.called few in
    routed (number_of r.outcome) (result_unwrap_or r.outcome 0) r.state C.6.now (memory C.7.now C.8.now C.9.now C.10.now) C.11.now
    ≡ event (context a.self C.0.now (memory C.1.now C.2.now C.3.now C.4.now) C.5.now) = λ few. search (rules, (S.called few).12) in (
      method_table on (path_event a.time a.flow) a.self (memory a.outstanding.now a.marked.now a.sizes.now a.sent.now) a.evs.now
          c.load-fs.ensures c.save.ensures
          (step_answer on (λ many. (S.many many).1) (λ few. let C = S.called few in
          C.14 ∙ ap (by_value c.load-fs.result.n) (ap route_answer (saw few) ∙ ap on C.13))),
      method_said (λ x. (event x).ev) 0 (path_unsaid a.time a.flow) a.table.now a.self
          (memory a.outstanding.now a.marked.now a.sizes.now a.sent.now) a.evs.now c.load-fs.ensures.0
          (step_said c.load-fs.result (λ many. ap (λ (v : Result ℕ Refusal). result_unwrap_or v 0) (S.many many).0)
          (λ few. ap (λ (r : Routing). r.ev) (saw few ∙ ap event (S.called few).13))),
    )
