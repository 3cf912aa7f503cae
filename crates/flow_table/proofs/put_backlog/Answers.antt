-- `put_backlog` stores one word; the others are as they stand (`with_backlog_lem`).
use Rattle.flow_table.proofs.Places.{with_backlog_lem}
use Rattle.flow_table.proofs.put_backlog.Goals as goal

pub returns : goal.returns
returns c = let a = c.args in with_backlog_lem a.words.now a.k a.f
