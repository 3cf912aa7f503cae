-- `Controller::loss` loads the table, makes the step and stores the table: `method_table`.
use Rattle.std.proofs.Common.{rules}
use Rattle.rules.specs.Verdict.{number_of}
use Rattle.ledger.specs.Memory.{memory}
use Rattle.context.specs.Context.{context, answered}
use Rattle.context.specs.Events.{on_loss}
use Rattle.context.proofs.Events.{loss_event}
use Rattle.context.proofs.Tables.{event_keeps, called_answer, step_answer, method_table}
use Rattle.context.proofs.Controller.loss.Goals as goal

pub make_step-r-requires-clause-keeps : goal.make_step-r-requires-clause-keeps
make_step-r-requires-clause-keeps c p o m z s e r p' o' m' z' s' e' h =
    let a = c.args in
    event_keeps (on_loss a.time a.flow a.a) (loss_event a.time a.flow a.a) (context a.self p.now (memory o.now m.now z.now s.now) e.now)
    (answered (number_of r.outcome) r.state p'.now (memory o'.now m'.now z'.now s'.now) e'.now) (search rules)

pub returns : goal.returns
returns c =
    let a = c.args in
    let on = on_loss a.time a.flow a.a in
    let S = c.make_step-r.ensures in
    method_table on (loss_event a.time a.flow a.a) a.self (memory a.outstanding.now a.marked.now a.sizes.now a.sent.now) a.evs.now
    c.load-fs.ensures c.save.ensures
    (step_answer on (λ many. (S.many many).1) (λ few. called_answer on (S.called few) (λ p o m z s e p' o' m' z' s' e' h. search rules)))
