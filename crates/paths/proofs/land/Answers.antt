-- `land` goes so many steps from the cursor and one further: by two calls of `wrap`, each below twice n.
use Rattle.std.proofs.Common.{◌+◌, mod-lt, arith}
use Rattle.paths.specs.Path.{landed}
use Rattle.paths.proofs.land.Goals as goal

pub overflow_add-ev : goal.overflow_add-ev
overflow_add-ev c = omega (arith, mod-lt (c.args.cursor + c.args.s) {m = c.args.n} (omega arith))

pub wrap-next-requires : goal.wrap-next-requires
wrap-next-requires c = omega (arith, mod-lt (c.args.cursor + c.args.s) {m = c.args.n} (omega arith))

pub returns : goal.returns
unfolding landed
returns c = rw (c.wrap-next.ensures, c.wrap-ev.ensures)
