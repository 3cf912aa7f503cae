-- `keep_acked` stores an accepted event's words (`stored_kept`); a refused one's record is the one that stands there (`refused_kept`).
use Rattle.std.proofs.Common.{◌∙◌}
use Rattle.rules.specs.Verdict.{ok_test}
use Rattle.context.proofs.Lifts.{stored_kept, refused_kept}
use Rattle.context.proofs.join.keep_acked.Goals as goal

pub returns-then-is_ok : goal.returns-then-is_ok
returns-then-is_ok c =
    let a = c.args in
    stored_kept a.flows.now a.k c.requires.leaves (c.is_ok.ensures.value ∙ ok_test a.outcome) c.if-is_ok.true c.put_acked.ensures

pub returns-else-is_ok : goal.returns-else-is_ok
returns-else-is_ok c =
    let a = c.args in
    refused_kept a.flows.now a.k c.requires.leaves (c.is_ok.ensures.value ∙ ok_test a.outcome) c.if-is_ok.false
