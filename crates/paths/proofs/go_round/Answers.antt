-- `go_round` passes the avoided EVs of the one part and then of the other, and counts on from the first free one.
use Rattle.std.proofs.Common.{◌-◌, length, arith}
use Rattle.paths.proofs.Walk.{early_part, avoided_append, avoided_lent, free_tail, free_head, avoided_head}
use Rattle.paths.proofs.go_round.Goals as goal

pub count_avoided-requires : goal.count_avoided-requires
count_avoided-requires c = let k = c.first_free-k.result in
    (early_part c.args.tail.now (length c.args.tail.now - k) k c.requires.early.0, c.requires.early.2)

pub returns-then-k-tail : goal.returns-then-k-tail
returns-then-k-tail c = let a = c.args in
    let k = c.first_free-k.result in
    let rest = avoided_lent a.time a.tail.now k c.count_avoided.result (omega arith)
    c.count_avoided.ensures.0 in
    let both = avoided_append a.time a.tail.now a.head.now in
    (omega (arith, free_tail a.time a.tail.now a.head.now (omega arith)), omega arith)

pub count_avoided-requires-2 : goal.count_avoided-requires-2
count_avoided-requires-2 c = let j = c.first_free-j.result in
    (early_part c.args.head.now (length c.args.head.now - j) j c.requires.early.1, c.requires.early.2)

pub returns : goal.returns
returns c = let a = c.args in
    let j = c.first_free-j.result in
    let rest = avoided_lent a.time a.head.now j c.count_avoided-2.result (omega arith) c.count_avoided-2.ensures.0 in
    let both = avoided_head a.time a.tail.now a.head.now (omega arith) in
    (omega (arith, free_head a.time a.tail.now a.head.now (omega arith)), omega arith)
