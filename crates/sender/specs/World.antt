-- Everything that an event is handed, and everything that it hands back; and what that shows: document 01's state, ring and EV times.
-- Assumes nothing.
use Rattle.std.specs.Prelude.{List, ℕ}
use Rattle.ledger.specs.Ring.{Ring, Ledger, ledger}
use Rattle.ledger.specs.Memory.{Memory, shown, stored}
use Rattle.sender.specs.declared.Controller.{Controller}

-- the state, the ring's lent memory, the lent EV times
pub record World : Type 0 where
  pub state : Controller
  pub slots : Memory
  pub times : List ℕ

abbrev pub world : Controller → Memory → List ℕ → World
world c m t = record { state = c; slots = m; times = t }

-- the number that is answered, and the world afterwards
pub record Answered : Type 0 where
  pub number : ℕ
  pub after : World

abbrev pub answered : ℕ → Controller → Memory → List ℕ → Answered
answered n c m t = record { number = n; after = world c m t }

-- the same with the EV of a path choice, 0 where it is refused
pub record Routing : Type 0 where
  pub number : ℕ
  pub ev : ℕ
  pub after : World

abbrev pub routed : ℕ → ℕ → Controller → Memory → List ℕ → Routing
routed n e c m t = record { number = n; ev = e; after = world c m t }

-- ---- what a world shows: the ring of statuses in place of its memory

pub record View : Type 0 where
  pub state : Controller
  pub slots : Ring
  pub times : List ℕ

abbrev pub view : Controller → Ring → List ℕ → View
view c r t = record { state = c; slots = r; times = t }

-- the ring that a world shows
abbrev pub ring_of : World → Ring
ring_of w = shown w.state.flow.low w.state.flow.next w.slots

abbrev pub view_of : World → View
view_of w = view w.state (ring_of w) w.times

-- and back: the world that keeps a view
abbrev pub world_of : View → World
world_of v = world v.state (stored v.slots) v.times

-- the ledger of a view, and of a world
abbrev pub ledger_in : View → Ledger
ledger_in v = ledger v.state.flow v.state.totals v.slots

abbrev pub ledger_of : World → Ledger
ledger_of w = ledger w.state.flow w.state.totals (ring_of w)
