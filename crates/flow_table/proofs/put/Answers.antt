-- `put` stores what a send can change, then what an ACK can: the whole record (`with_whole`).
use Rattle.flow_table.proofs.Places.{with_whole}
use Rattle.flow_table.proofs.put.Goals as goal

pub returns : goal.returns
returns c =
    let a = c.args in
    with_whole a.words.now a.k a.f c.put_sent.ensures c.put_acked.ensures
