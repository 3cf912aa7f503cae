-- The context with another world for one flow: as many flows, of as many slots each; that flow is the world's, and every other is as it
-- was.
-- Assumes nothing.
use mathlib.Core.Path.{◌≡◌, sym, ap, ◌∙◌}
use mathlib.Core.Logic.{◌≢◌}
use Prim.Native.Nat.{ℕ, ◌+◌, ◌<◌}
use native.Mathlib.Omega.{arith}
use lib.ListN.{length}
use Rattle.bits.specs.Bits.{sum_to}
use Rattle.ledger.specs.Packets.{sum_of}
use Rattle.ledger.specs.Ring.{packets}
use Rattle.ledger.specs.declared.Flow.{Flow}
use Rattle.ledger.specs.declared.Packet.{Packet}
use Rattle.flow_table.specs.Parts.{Rings, part_of}
use Rattle.flow_table.proofs.Places.{with_count, flow_same, flow_other}
use Rattle.flow_table.proofs.Cuts.{put_lengths, ring_same, ring_other}
use Rattle.sender.specs.World.{World, ring_of}
use Rattle.context.specs.Context.{Context, flow_count, cap_in, flow_in, memory_in, ring_in, put_world}
use Rattle.context.specs.Sound.{adds_at, adds_up, backlogs}
use Rattle.context.proofs.Sums.{sum_but, sum_split, but_same}
use Rattle.context.proofs.Sounds.{SoundContext}

module _ (x : Context) (S : SoundContext x) (k : ℕ) (h : k < flow_count x) (w : World) (P : Rings 1 (cap_in x) w.slots) where
  -- the context afterwards
  abbrev y : Context
  y = put_world k x w

  put_rings : Rings (flow_count x) (cap_in x) y.slots
  unfolding put_world
  put_rings = put_lengths (flow_count x) (cap_in x) k x.slots S.cut h w.slots P

  pub put_count : flow_count y ≡ flow_count x
  unfolding put_world
  put_count = with_count x.flows k w.state.flow

  pub put_cap : cap_in y ≡ cap_in x
  put_cap =
      let e : length y.slots.sizes ≡ length x.slots.sizes = put_rings.sizes ∙ sym S.cut.sizes in
      rw (put_count, e)

  pub put_cut : Rings (flow_count y) (cap_in y) y.slots
  put_cut = rw (put_cap, put_count) put_rings

  -- ---- flow k is the world's

  pub own_flow : flow_in y k ≡ w.state.flow
  unfolding put_world
  own_flow = flow_same x.flows k w.state.flow (omega (arith, S.table.whole))

  own_memory : memory_in y k ≡ w.slots
  unfolding put_world
  own_memory = ap (λ (c : ℕ). part_of c k y.slots) put_cap ∙ ring_same (flow_count x) (cap_in x) k x.slots S.cut h w.slots P

  pub own_ring : ring_in y k ≡ ring_of w
  own_ring = rw (own_flow, own_memory)

  -- ---- every other is as it was

  module _ (j : ℕ) (ne : j ≢ k) where
    pub other_flow : flow_in y j ≡ flow_in x j
    unfolding put_world
    other_flow = flow_other x.flows k w.state.flow j ne

    pub other_memory : memory_in y j ≡ memory_in x j
    unfolding put_world
    other_memory =
        ap (λ (c : ℕ). part_of c j y.slots) put_cap ∙ ring_other (flow_count x) (cap_in x) k x.slots S.cut h w.slots P j ne

    pub other_ring : ring_in y j ≡ ring_in x j
    other_ring = rw (other_flow, other_memory)

  -- ---- the sums: the others', and what the world adds

  sums : (f g : ℕ → ℕ) (own : ℕ) → g k ≡ own → ((j : ℕ) → j ≢ k → g j ≡ f j) → sum_but k f (flow_count x) + own ≡ sum_to g (flow_count y)
  sums f g own e same =
      rw put_count
      (omega (arith, e, sum_split k g (flow_count x) h, but_same k g f (flow_count x) (λ j l ne. same j ne)))

  pub put_adds : (adds : Packet → ℕ)
      → sum_but k (adds_at adds x) (flow_count x) + sum_of adds (packets w.state.flow (ring_of w)) ≡ adds_up adds y
  put_adds adds =
      sums (adds_at adds x) (adds_at adds y) _ (rw (own_ring, own_flow)) (λ j ne. rw (other_ring j ne, other_flow j ne))

  pub put_backlogs : sum_but k (λ j. (flow_in x j).backlog) (flow_count x) + w.state.flow.backlog ≡ backlogs y
  put_backlogs =
      sums (λ j. (flow_in x j).backlog) (λ j. (flow_in y j).backlog) _ (ap (λ (f : Flow). f.backlog) own_flow)
      (λ j ne. ap (λ (f : Flow). f.backlog) (other_flow j ne))
