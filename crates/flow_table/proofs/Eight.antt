-- What a value of the machine has: a table by value has room for eight records, and low and next of a record are PSNs.
-- Assumes nothing.
use mathlib.Core.Path.{◌≡◌}
use mathlib.Core.List.{List}
use Prim.Native.Nat.{◌<◌}
use lib.ListN.{length}
use mir.Val.{Val}
use denote.Laws.{Is}
use denote.Struct.Laws as LL
use Rattle.serial.specs.Psn.{psns}
use Rattle.ledger.specs.declared.Flow.{Flow}
use Rattle.ledger.specs.contracts.Flow as T
use Rattle.ledger.proofs.Flow.TheLaws as T'
use Rattle.flow_table.specs.Words.{flows_most}
use Rattle.flow_table.specs.declared.lent.Flows.{Flows}
use Rattle.flow_table.specs.contracts.lent.Flows as F
use Rattle.flow_table.proofs.lent.Flows.TheLaws as F'

pub eight : (fs : Flows) (vs : List Val) → Is F.the_row fs vs → length fs.at ≡ flows_most
eight fs vs is = (LL.owed F.the_type F'.the_laws fs vs is).1.0.1.0.1

module _ (f : Flow) (vs : List Val) (is : Is T.the_row f vs) where
  pub low_fits : f.low < psns
  low_fits = (LL.owed T.the_type T'.the_laws f vs is).0.1

  pub next_fits : f.next < psns
  next_fits = (LL.owed T.the_type T'.the_laws f vs is).1.0.1
