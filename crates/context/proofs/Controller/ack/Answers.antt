-- `Controller::ack` loads the table, makes the step and stores the table: `method_table`.
use mathlib.Core.Path.{ap}
use mathlib.Core.Option.{none}
use Rattle.std.proofs.Common.{rules}
use Rattle.rules.specs.Verdict.{number_of}
use Rattle.ledger.specs.Memory.{memory}
use Rattle.sender.specs.Events.{says_of}
use Rattle.context.specs.Context.{context, answered}
use Rattle.context.specs.Events.{on_ack, ack_says}
use Rattle.context.proofs.Events.{ack_event, ack_unsaid}
use Rattle.context.proofs.Tables.{event_keeps, called_answer, called_said, step_answer, step_said, method_table, method_said}
use Rattle.context.proofs.Controller.ack.Goals as goal

pub make_step-r-requires-clause-keeps : goal.make_step-r-requires-clause-keeps
make_step-r-requires-clause-keeps c p o m z s e r p' o' m' z' s' e' h =
    let a = c.args in
    event_keeps (on_ack a.time a.flow a.a) (ack_event a.time a.flow a.a) (context a.self p.now (memory o.now m.now z.now s.now) e.now)
    (answered (number_of r.outcome) r.state p'.now (memory o'.now m'.now z'.now s'.now) e'.now) (search rules)

pub returns : goal.returns
unfolding says_of
returns c =
    let a = c.args in
    let on = on_ack a.time a.flow a.a in
    let S = c.make_step-r.ensures in
    let table = method_table on (ack_event a.time a.flow a.a) a.self (memory a.outstanding.now a.marked.now a.sizes.now a.sent.now) a.evs.now
    c.load-fs.ensures c.save.ensures
    (step_answer on (λ many. (S.many many).1) (λ few. called_answer on (S.called few) (λ p o m z s e p' o' m' z' s' e' h. search rules))) in
    let say = ack_says a.time a.flow a.a in (
      table,
      method_said say none (ack_unsaid a.time a.flow a.a) a.table.now a.self (memory a.outstanding.now a.marked.now a.sizes.now a.sent.now)
          a.evs.now c.load-fs.ensures.0 (step_said c.load-fs.result (λ many. ap says_of (S.many many).0)
          (λ few. called_said say (S.called few) (λ p o m z s e p' o' m' z' s' e' h. search rules))),
    )
