-- A context of one to eight flows under one window (request M-107): everything that an event is handed, and everything that it hands back;
-- and what one flow's step sees of it.
-- Assumes nothing.
use Rattle.std.specs.Prelude.{◌≡◌, List, ℕ, ◌/◌, length}
use Rattle.ledger.specs.Memory.{Memory, shown}
use Rattle.ledger.specs.Ring.{Ring}
use Rattle.ledger.specs.declared.Flow.{Flow}
use Rattle.flow_table.specs.Words.{count_of, flow_at, with_flow}
use Rattle.flow_table.specs.Parts.{part_of, put_part}
use Rattle.sender.specs.World.{World, world}
use Rattle.sender.specs.declared.Controller.{Controller as Sender}
use Rattle.context.specs.declared.Controller.{Controller}

-- "Window, base, average, in-flight, path and clock are shared": the state; "a lent table of flow records, one to eight", as words; "their
-- rings in one lent ring buffer cut into equal parts"; the EV times
pub record Context : Type 0 where
  pub state : Controller
  pub flows : List ℕ
  pub slots : Memory
  pub times : List ℕ

abbrev pub context : Controller → List ℕ → Memory → List ℕ → Context
context c f m t = record { state = c; flows = f; slots = m; times = t }

-- the number that is answered, and the context afterwards
pub record Answered : Type 0 where
  pub number : ℕ
  pub after : Context

abbrev pub answered : ℕ → Controller → List ℕ → Memory → List ℕ → Answered
answered n c f m t = record { number = n; after = context c f m t }

-- the same with the EV of a path choice, 0 where it is refused
pub record Routing : Type 0 where
  pub number : ℕ
  pub ev : ℕ
  pub after : Context

abbrev pub routed : ℕ → ℕ → Controller → List ℕ → Memory → List ℕ → Routing
routed n e c f m t = record { number = n; ev = e; after = context c f m t }

-- ---- one flow of it

-- how many flows there are, and how many slots the ring of each has
abbrev pub flow_count : Context → ℕ
flow_count x = count_of x.flows

abbrev pub cap_in : Context → ℕ
cap_in x = length x.slots.sizes / flow_count x

-- flow k's record, its ring's memory, and the ring that this shows
abbrev pub flow_in : Context → ℕ → Flow
flow_in x k = flow_at x.flows k

abbrev pub memory_in : Context → ℕ → Memory
memory_in x k = part_of (cap_in x) k x.slots

abbrev pub ring_in : Context → ℕ → Ring
ring_in x k = shown (flow_in x k).low (flow_in x k).next (memory_in x k)

-- what is shared, with a flow's own record: what the step of one flow works on; and back, with the held turn (request M-108), which it does
-- not see
unfoldable pub joined_of : Controller → Flow → Sender
joined_of c f =
    record {
      settings = c.settings;
      flow = f;
      totals = c.totals;
      window = c.window;
      clock = c.clock;
      cursor = c.cursor;
      phase = c.phase;
    }

unfoldable pub shared_of : ℕ → Sender → Controller
shared_of turn s =
    record {
      settings = s.settings;
      totals = s.totals;
      window = s.window;
      clock = s.clock;
      cursor = s.cursor;
      phase = s.phase;
      turn = turn;
    }

-- f is what an event of this answer leaves of a flow's record g: g where it was refused; else g but for the words that the event can change
pub record Leaves (change : Flow → Flow → Flow) (number : ℕ) (g f : Flow) : Type 0 where
  pub accepted : number ≡ 0 → f ≡ change g f
  pub refused : (number ≡ 0 → ⊥) → f ≡ g

-- what flow k's step sees of the context
unfoldable pub world_at : ℕ → Context → World
world_at k x = world (joined_of x.state (flow_in x k)) (memory_in x k) x.times

-- the context with what flow k's step leaves: every other flow is as it was
unfoldable pub put_world : ℕ → Context → World → Context
put_world k x w =
    context (shared_of x.state.turn w.state) (with_flow x.flows k w.state.flow) (put_part (cap_in x) k x.slots w.slots)
    w.times
