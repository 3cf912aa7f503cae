-- `sampled` says what there is of a sample of a packet, by `window`'s rule: outstanding is flying or marked.
use Rattle.ledger.specs.Packets.{is_flying, is_marked, is_out}
use Rattle.sender.proofs.steps.sampled.Goals as goal

pub returns : goal.returns
unfolding is_out is_flying is_marked
returns c = c.sampling.ensures
