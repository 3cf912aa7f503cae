-- `less` subtracts: in-flight in its bounds less fewer than 2^32 bytes fits the signed word, by `less_ok`.
use Rattle.ledger.proofs.Signs.{less_ok, less_is}
use Rattle.ledger.proofs.judge.less.Goals as goal

pub overflow_sub-result : goal.overflow_sub-result
overflow_sub-result c = less_ok c.args.in_flight c.args.bytes c.requires.flown c.requires.bytes_bound

pub returns : goal.returns
returns c = less_is c.args.in_flight c.args.bytes c.requires.flown c.requires.bytes_bound
