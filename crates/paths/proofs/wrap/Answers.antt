-- `wrap` is x modulo n: x itself below n, and past n by one subtraction.
use Rattle.std.proofs.Common.{sym, mod-eq_of_lt, arith}
use Rattle.paths.proofs.Circle.{once_round}
use Rattle.paths.proofs.wrap.Goals as goal

pub returns-then-x-n : goal.returns-then-x-n
returns-then-x-n c = sym (mod-eq_of_lt (omega arith))

pub returns : goal.returns
returns c = once_round c.args.x c.args.n (omega arith) (omega arith)
