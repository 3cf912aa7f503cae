-- `load` copies the records that there is room for over the first of eight records of zeros.
use Rattle.std.proofs.Common.{refl}
use Rattle.std.proofs.lemmas.List.{drop-replicate}
use Rattle.flow_table.proofs.lent.load.Goals as goal

pub returns : goal.returns
returns c = (rw (c.no_flows.ensures, c.copy_from_slice.ensures.after, c.taken-m.ensures, drop-replicate), refl)
