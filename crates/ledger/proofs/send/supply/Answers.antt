-- `supply` adds to the backlog and to the total, and changes nothing else.
use Rattle.std.proofs.Common.{refl, to_z-of_z, w64, rules}
use Rattle.ledger.specs.Steps.{supplied, supplied_totals}
use Rattle.ledger.proofs.send.supply.Goals as goal

pub returns : goal.returns
unfolding supplied supplied_totals
returns c = (refl, rw (to_z-of_z {w = w64} {z = c.args.books.totals.in_flight} (search (rules, c.ranges))) refl)
