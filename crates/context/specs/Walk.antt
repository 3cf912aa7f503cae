-- A table and its ring buffer, as number 2's test walks over them flow by flow. Request M-107: "Refusal 2 tests every flow and the number
-- of flows"; the shared totals are over all flows.
-- Assumes nothing.
use Rattle.std.specs.Prelude.{◌≡◌, Bool, true, ◌&&◌, List, ℕ, ◌/◌, ◌≤◌, ◌<◌, length}
use Rattle.bits.specs.Bits.{sum_to}
use Rattle.ledger.specs.Bounds.{in_bounds}
use Rattle.ledger.specs.Ring.{Ring}
use Rattle.ledger.specs.Memory.{Memory, shown}
use Rattle.ledger.specs.Sound.{all_to, is_capacity, stands}
use Rattle.ledger.specs.Stretch.{tally_of, totals_ok}
use Rattle.ledger.specs.declared.sound.Tally.{Tally}
use Rattle.flow_table.specs.Words.{flows_most, count_of, is_table, flow_at}
use Rattle.flow_table.specs.Parts.{part_of, Rings}
use Rattle.context.specs.Sound.{is_cut}
use Rattle.context.specs.declared.Controller.{Controller}

-- ---- flow k, where the ring of each flow has `cap` slots

abbrev pub ring_at : ℕ → List ℕ → Memory → ℕ → Ring
ring_at cap ws m k = shown (flow_at ws k).low (flow_at ws k).next (part_of cap k m)

-- it and its ring hold together
unfoldable pub stands_on : ℕ → ℕ → ℕ → List ℕ → Memory → ℕ → Bool
stands_on mtu clock cap ws m k = stands mtu clock (flow_at ws k) (ring_at cap ws m k)

-- what it adds to the totals, and what the first n flows add up to
unfoldable pub tally_at : ℕ → List ℕ → Memory → ℕ → Tally
tally_at cap ws m k = tally_of (flow_at ws k) (part_of cap k m)

unfoldable pub tally_to : ℕ → List ℕ → Memory → ℕ → Tally
tally_to cap ws m n =
    record {
      outstanding = sum_to (λ k. (tally_at cap ws m k).outstanding) n;
      marked = sum_to (λ k. (tally_at cap ws m k).marked) n;
      marked_bytes = sum_to (λ k. (tally_at cap ws m k).marked_bytes) n;
      backlog = sum_to (λ k. (tally_at cap ws m k).backlog) n;
    }

-- ---- what each step of the walk relies on

-- at most eight flows, and a ring of `cap` slots for each
pub record Parted (cap : ℕ) (ws : List ℕ) (m : Memory) : Type 0 where
  pub few : count_of ws ≤ flows_most
  pub cap_ok : is_capacity cap ≡ true
  pub cut : Rings (count_of ws) cap m

-- every flow and its ring hold together, for some MTU and clock
pub record Standing (cap : ℕ) (ws : List ℕ) (m : Memory) : Type 0 where
  pub parted : Parted cap ws m
  pub mtu : ℕ
  pub clock : ℕ
  pub stand : (k : ℕ) → k < count_of ws → stands_on mtu clock cap ws m k ≡ true

-- ---- the tests in their order

unfoldable pub flows_ok : Controller → List ℕ → Memory → Bool
flows_ok c ws m =
    let n = count_of ws in
    let cap = length m.sizes / n in
    is_table ws
    && is_cut n cap m
    && all_to (stands_on c.settings.mtu c.clock cap ws m) n
    && (totals_ok c.totals (tally_to cap ws m n) && in_bounds c.settings.maxwnd c.totals.in_flight)
