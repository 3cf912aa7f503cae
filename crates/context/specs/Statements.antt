-- What the theorems on a context say: what an event of one flow leaves of the others.
-- Assumes nothing.
use Rattle.std.specs.Prelude.{◌≡◌, ◌≢◌, ℕ}
use Rattle.context.specs.Context.{Context, flow_count, cap_in, flow_in, memory_in, ring_in}

-- Request M-107: "an ACK of one flow changes no other flow's ring, low, next, count or backlog". Of the contexts before and after an event
-- of flow k; `memory` is the other flow's part of the ring buffer, word by word.
pub record OthersKept (k : ℕ) (before after : Context) : Type 0 where
  pub flows : flow_count after ≡ flow_count before
  pub slots : cap_in after ≡ cap_in before
  pub memory : (j : ℕ) → j ≢ k → memory_in after j ≡ memory_in before j
  pub ring : (j : ℕ) → j ≢ k → ring_in after j ≡ ring_in before j
  pub low : (j : ℕ) → j ≢ k → (flow_in after j).low ≡ (flow_in before j).low
  pub next : (j : ℕ) → j ≢ k → (flow_in after j).next ≡ (flow_in before j).next
  pub count : (j : ℕ) → j ≢ k → (flow_in after j).held ≡ (flow_in before j).held
  pub backlog : (j : ℕ) → j ≢ k → (flow_in after j).backlog ≡ (flow_in before j).backlog
