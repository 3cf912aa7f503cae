-- A send of flow k that 01 permits is accepted: none of its rows applies. By the ledger's rows of a new packet and of a resend.
-- Assumes nothing.
use mathlib.Core.Path.{◌≡◌, refl, sym, ap, ap₂, ◌∙◌}
use mathlib.Core.Logic.{⊎_elim}
use mathlib.Core.Bool.{not, ◌||◌}
use Prim.Native.Nat.{ℕ, ◌<◌}
use native.Mathlib.Omega.{arith}
use borrow.Author.Tests.{le-ltb, lt-leb, eq-eqb}
use Rattle.rules.specs.Branch.{eq_yes, so_yes}
use Rattle.rules.specs.Rows.{first_of, first_later}
use Rattle.rules.specs.Test.{inside_yes}
use Rattle.ledger.specs.Packets.{is_marked}
use Rattle.ledger.specs.Bounds.{size_least}
use Rattle.ledger.specs.Ring.{cap_of, packet_of}
use Rattle.ledger.specs.Rows.{send_rows}
use Rattle.ledger.proofs.Judging.{new_0, resend_0}
use Rattle.ledger.proofs.Shows.{slots_even, shown_cap}
use Rattle.flow_table.proofs.Cuts.{ring_lengths, one_ring}
use Rattle.window.specs.Limits.{time_end}
use Rattle.sender.specs.World.{view_of, world_of}
use Rattle.sender.specs.Bounds.{room_after}
use Rattle.sender.specs.Steps.{send_step}
use Rattle.sender.specs.declared.Send.{Send}
use Rattle.sender.proofs.Rowing.{send_numbered, rows_new, rows_resend, room_row}
use Rattle.context.specs.Context.{Context, flow_count, cap_in, flow_in, memory_in, ring_in, joined_of, world_at, put_world}
use Rattle.context.specs.Events.{decided, on_send}
use Rattle.context.proofs.Sounds.{SoundContext, context_facts}
use Rattle.demands.specs.Events.{send}
use Rattle.context_demands.specs.Events.{rows_at}
use Rattle.context_demands.specs.Permitted.{Permitted, PermittedNew, PermittedResend}
use Rattle.context_demands.specs.Demands.{PermittedSend}

-- flow k's ring has its share of the slots
ring_cap : (x : Context) (S : SoundContext x) (k : ℕ) → k < flow_count x → cap_of (ring_in x k) ≡ cap_in x
ring_cap x S k h =
    let R = ring_lengths (flow_count x) (cap_in x) k x.slots S.cut h in
    let L = one_ring (cap_in x) (memory_in x k) S.cap R in
    omega (arith, shown_cap (flow_in x k).low (flow_in x k).next (memory_in x k), slots_even (memory_in x k) L, L.sizes, R.sizes)

module _ (time k : ℕ) (a : Send) (x : Context) where
  -- no row applies to a permitted send
  permitted_none : Permitted time k a x → first_of (send_rows (flow_in x k) (ring_in x k) a.psn a.size a.resend) ≡ 0
      → 0 ≡ first_of (rows_at k (send time a) x)
  unfolding room_after world_at joined_of
  permitted_none p e =
      let c = joined_of x.state (flow_in x k) in
      first_later 0 2 _ _ (ap not p.holds_together)
      (first_later 0 3 _ _ (ap₂ ◌||◌ (le-ltb time x.state.clock p.not_before) (lt-leb time_end time p.in_time))
      (first_later 0 25 _ _ (lt-leb (flow_count x) k p.there)
      (first_later 0 4 _ _ (ap not (inside_yes size_least a.size x.state.settings.mtu p.size_least_lem p.size_most))
      (eq_yes _ 0 0 _ _ e (so_yes _ 0 0 6 p.room refl)
      ∙ room_row c (send_rows (flow_in x k) (ring_in x k) a.psn a.size a.resend)
      (send_numbered (flow_in x k) (ring_in x k) a.psn a.size a.resend)))))

  permitted_so : Permitted time k a x → first_of (send_rows (flow_in x k) (ring_in x k) a.psn a.size a.resend) ≡ 0
      → on_send time k a x ≡ record { number = 0; after = put_world k x (world_of (send_step time a (view_of (world_at k x)))) }
  unfolding on_send decided
  permitted_so p e = sym (eq_yes (first_of (rows_at k (send time a) x)) 0 _ _ _ (sym (permitted_none p e)) refl)

  permitted_new : PermittedNew time k a x
      → on_send time k a x ≡ record { number = 0; after = put_world k x (world_of (send_step time a (view_of (world_at k x)))) }
  permitted_new p =
      let f = flow_in x k in
      let q = p.permitted in
      permitted_so q
      (sym (new_0 f (cap_of (ring_in x k)) a.psn a.size p.psn_next p.in_backlog
      (λ z. p.slot_free (z ∙ ring_cap x (context_facts x q.holds_together) k q.there))
      ∙ rows_new f (ring_in x k) a.psn a.size a.resend p.is_new))

  permitted_resend : PermittedResend time k a x
      → on_send time k a x ≡ record { number = 0; after = put_world k x (world_of (send_step time a (view_of (world_at k x)))) }
  unfolding is_marked
  permitted_resend p =
      let f = flow_in x k in
      let y = packet_of f (ring_in x k) a.psn in
      permitted_so p.permitted
      (sym (resend_0 f (ring_in x k) a.psn a.size y refl
      (ap₂ (λ m s. not m || not s) p.psn_marked (eq-eqb a.size y.size p.same_size))
      ∙ rows_resend f (ring_in x k) a.psn a.size a.resend p.is_resend))

pub permitted_send : PermittedSend
permitted_send time k a x = ⊎_elim (permitted_new time k a x) (permitted_resend time k a x)
