-- `more` adds: in-flight in its bounds and fewer than 2^32 bytes more fits the signed word, by `more_ok`.
use Rattle.ledger.proofs.Signs.{more_ok, more_is}
use Rattle.ledger.proofs.send.more.Goals as goal

pub overflow_add-result : goal.overflow_add-result
overflow_add-result c = more_ok c.args.in_flight c.args.bytes c.requires.flown c.requires.bytes_bound

pub returns : goal.returns
returns c = more_is c.args.in_flight c.args.bytes c.requires.flown c.requires.bytes_bound
