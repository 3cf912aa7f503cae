-- `one_late` is 0 for a time that is not past, and only for one.
use Rattle.std.proofs.Common.{sym, arith, le-leb}
use borrow.Author.Tests.{lt-leb}
use Rattle.ledger.proofs.stretch.one_late.Goals as goal

pub returns-then-x-most : goal.returns-then-x-most
returns-then-x-most c = (sym (lt-leb c.args.x c.args.most (omega arith)), omega arith)

pub returns-else-x-most : goal.returns-else-x-most
returns-else-x-most c = (sym (le-leb c.args.x c.args.most (omega arith)), omega arith)
