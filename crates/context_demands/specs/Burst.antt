-- What demand 3 speaks of, of one flow among others: a burst of its ACKs, the newest among them, and the whole table as the ledger.
-- Assumes nothing.
use Rattle.std.specs.Prelude.{◌≡◌, Bool, true, false, ◌&&◌, ◌||◌, ℕ, ◌<◌, eqb}
use mathlib.Core.List.{List, [], ◌∷◌, Memᴰ}
use Rattle.serial.specs.Wrap.{minus}
use Rattle.serial.specs.Count.{counts, half}
use Rattle.ledger.specs.Memory.{Memory}
use Rattle.ledger.specs.declared.Totals.{Totals}
use Rattle.sender.specs.declared.Ack.{Ack}
use Rattle.context.specs.Context.{Context, flow_in, world_at}
use Rattle.context.specs.Events.{on_ack}
use Rattle.demands.specs.Burst.{Arrival, Outstanding, psn_of, covers_psn}

-- "the whole table as the ledger": every flow's words, the whole ring buffer, and the totals, in-flight among them
pub record Ledgers : Type 0 where
  pub flows : List ℕ
  pub slots : Memory
  pub totals : Totals

abbrev pub ledgers_of : Context → Ledgers
ledgers_of x = record { flows = x.flows; slots = x.slots; totals = x.state.totals }

-- the context after a list of arrivals of flow k, "with no event of another between"
abbrev pub deliver : ℕ → Context → List Arrival → Context
deliver k x [] = x
deliver k x (d ∷ ds) = deliver k (on_ack d.time k d.ack x).after ds

-- "call one newest: accepted on its own at the start, its count not behind the count then held, every other count less than 2^23 units
-- behind it and none ahead, and each outstanding packet that another covers covered by it too"; count and packets are flow k's
pub record Newest (k : ℕ) (x : Context) (at : ℕ) (newest : Ack) (others : List Ack) : Type 0 where
  pub accepted : (on_ack at k newest x).number ≡ 0
  pub not_behind : minus counts newest.count (flow_in x k).held < half
  pub others_behind : (a : Ack) → Memᴰ a others → minus counts newest.count a.count < half
  pub covers_too : (a : Ack) → Memᴰ a others → (j : ℕ) → Outstanding (world_at k x) j
      → covers_psn a (psn_of (world_at k x) j) ≡ true → covers_psn newest (psn_of (world_at k x) j) ≡ true

-- "an accepted acknowledgement covered it"
abbrev pub was_covered : ℕ → Context → List Arrival → ℕ → Bool
was_covered k x [] psn = false
was_covered k x (d ∷ ds) psn =
    (eqb (on_ack d.time k d.ack x).number 0 && covers_psn d.ack psn)
    || was_covered k (on_ack d.time k d.ack x).after ds psn
