-- A world and what it shows: a view that holds together is what its world shows (`view_world`), and a world that holds together is told by
-- what it shows (`world_view`). By the laws of the ring's memory (`ledger`, proofs/Shows).
-- Assumes nothing.
use mathlib.Core.Path.{◌≡◌, sym, ap, ◌∙◌}
use mathlib.Core.Bool.{true}
use Prim.Native.Nat.{ℕ, ◌<◌}
use native.Mathlib.Omega.{arith}
use lib.ListN.{length}
use Rattle.ledger.specs.Ring.{Ring, cap_of}
use Rattle.ledger.specs.Memory.{Memory, size_end, shown, stored}
use Rattle.ledger.specs.Sound.{stands, Others, sound_ledger, Lengths}
use Rattle.ledger.specs.declared.Flow.{Flow}
use Rattle.ledger.proofs.Facts.{sound_ledger_parts}
use Rattle.ledger.proofs.Shows.{slots_even, shown_cap, stored_shown, shown_stored, stands_lengths, stands_words}
use Rattle.sender.specs.World.{World, world, View, view, ring_of, view_of, world_of, ledger_in}
use Rattle.sender.specs.Sound.{sound_among}
use Rattle.sender.proofs.Sounds.{among_facts}

-- a view whose ledger holds together, for any settings and clock
pub ledger_view : (mtu maxwnd clock : ℕ) (o : Others) (v : View) → mtu < size_end → sound_ledger mtu maxwnd clock o (ledger_in v) ≡ true
    → view_of (world_of v) ≡ v
ledger_view mtu maxwnd clock o v b e =
    ap (λ (r : Ring). view v.state r v.times)
    (shown_stored mtu clock v.state.flow v.slots b (sound_ledger_parts mtu maxwnd clock o (ledger_in v) e).0)

-- there are as many send times as slots
pub sent_cap : (f : Flow) (m : Memory) → Lengths m → length m.sent ≡ cap_of (shown f.low f.next m)
sent_cap f m L = L.sent ∙ sym (slots_even m L) ∙ sym (shown_cap f.low f.next m)

module _ (o : Others) (v : View) (e : sound_among o v ≡ true) where
  pub view_world : view_of (world_of v) ≡ v
  view_world =
      let S = among_facts o v e in
      ledger_view v.state.settings.mtu v.state.settings.maxwnd v.state.clock o v (omega (arith, S.range.mtu_high))
      S.sound_ledger_lem

  -- the world that keeps it holds together
  pub world_sound : sound_among o (view_of (world_of v)) ≡ true
  world_sound = ap (sound_among o) view_world ∙ e

module _ (o : Others) (w : World) (e : sound_among o (view_of w) ≡ true) where
  stands_so : stands w.state.settings.mtu w.state.clock w.state.flow (ring_of w) ≡ true
  stands_so =
      (sound_ledger_parts w.state.settings.mtu w.state.settings.maxwnd w.state.clock o (ledger_in (view_of w))
      (among_facts o (view_of w) e).sound_ledger_lem).0

  pub sound_lengths : Lengths w.slots
  sound_lengths = stands_lengths w.state.settings.mtu w.state.clock w.state.flow w.slots stands_so

  -- the memory is the one of the ring that it shows
  pub stored_ring : stored (ring_of w) ≡ w.slots
  stored_ring =
      stored_shown w.state.flow.low w.state.flow.next w.slots sound_lengths
      (stands_words w.state.settings.mtu w.state.clock w.state.flow w.slots stands_so)

  pub world_view : world_of (view_of w) ≡ w
  world_view = ap (λ (m : Memory). world w.state m w.times) stored_ring
