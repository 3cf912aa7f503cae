-- A look at flow k's ring: what is found where the context holds together and has the flow, else 2 or 25; and what a look at the part asks.
-- Assumes nothing.
use mathlib.Core.Path.{◌≡◌, refl, ap}
use mathlib.Core.Bool.{true, false}
use Prim.Native.Nat.{ℕ, ◌≤◌, ◌<◌}
use Rattle.rules.specs.Branch.{so_yes, so_no, lt_yes, lt_no}
use Rattle.ledger.specs.Memory.{ledger_shown}
use Rattle.ledger.specs.Sound.{Lengths, SoundLedger}
use Rattle.sender.specs.Look.{looked}
use Rattle.sender.proofs.Sounds.{holds_ledger}
use Rattle.context.specs.Context.{Context, flow_count, cap_in, flow_in, memory_in, joined_of, world_at}
use Rattle.context.specs.Sound.{sound_context}
use Rattle.context.specs.Look.{look_for}
use Rattle.context.proofs.Walks.{part_ring}
use Rattle.context.proofs.Sounds.{SoundContext, one_holds}
use Rattle.context.proofs.Joins.{sound_parted}

module _ (k found : ℕ) (x : Context) where
  -- 2
  pub look_unsound : sound_context x ≡ false → looked 2 0 ≡ look_for k found x
  unfolding look_for
  look_unsound s = so_no (sound_context x) _ _ _ s refl

  module _ (s : sound_context x ≡ true) where
    -- 25
    pub look_no_flow : flow_count x ≤ k → looked 25 0 ≡ look_for k found x
    unfolding look_for
    look_no_flow h = so_yes (sound_context x) _ _ _ s (lt_no k (flow_count x) _ _ _ h refl)

    pub look_found : {r : ℕ} → k < flow_count x → r ≡ found → looked 0 r ≡ look_for k found x
    unfolding look_for
    look_found h e = so_yes (sound_context x) _ _ _ s (lt_yes k (flow_count x) _ _ _ h (ap (looked 0) e))

module _ (x : Context) (S : SoundContext x) (k : ℕ) (h : k < flow_count x) where
  pub look_lengths : Lengths (memory_in x k)
  look_lengths = part_ring (cap_in x) x.flows x.slots (sound_parted x S) k h

  pub look_ledger : SoundLedger (ledger_shown (flow_in x k) x.state.totals (memory_in x k))
  unfolding world_at joined_of
  look_ledger = holds_ledger (world_at k x) (one_holds x S k h)
