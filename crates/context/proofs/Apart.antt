-- FLOWS ARE APART (request M-107): no event of a flow changes another flow's ring, low, next, count or backlog, whatever the context,
-- whatever the flow's number and whatever is answered.
-- Assumes nothing.
use mathlib.Core.Path.{◌≡◌, refl, ap}
use mathlib.Core.Bool.{not}
use mathlib.Core.List.{List}
use Prim.Native.Nat.{ℕ, ◌<◌}
use native.Mathlib.Omega.{arith}
use borrow.Author.Tests.{not-false}
use Rattle.rules.specs.Branch.{eq_both}
use Rattle.rules.specs.Rows.{Row, first_of, none_here}
use Rattle.ledger.specs.declared.Flow.{Flow}
use Rattle.flow_table.specs.Parts.{Rings}
use Rattle.sender.specs.World.{World, View, world_of}
use Rattle.sender.specs.declared.Send.{Send}
use Rattle.sender.specs.declared.Ack.{Ack}
use Rattle.sender.specs.declared.Nack.{Nack}
use Rattle.sender.specs.declared.Loss.{Loss}
use Rattle.context.specs.Context.{Context, Answered, Routing, flow_count, cap_in, put_world}
use Rattle.context.specs.Sound.{sound_context}
use Rattle.context.specs.Rows.{with_sound}
use Rattle.context.specs.Events.{decided, chosen, path_of, on_new_data, on_send, on_ack, on_nack, on_loss, on_path}
use Rattle.context.specs.Statements.{OthersKept}
use Rattle.context.proofs.Sounds.{SoundContext, context_facts}
use Rattle.context.proofs.Puts.{put_count, put_cap, other_flow, other_memory, other_ring}
use Rattle.context.proofs.Kept.{Stepped, stepped_rings}
use Rattle.context.proofs.Kept.{new_data_stepped, send_stepped, ack_stepped, nack_stepped, loss_stepped, path_stepped}

-- another world for flow k
pub put_apart : (x : Context) (S : SoundContext x) (k : ℕ) → k < flow_count x → (w : World) → Rings 1 (cap_in x) w.slots
    → OthersKept k x (put_world k x w)
put_apart x S k h w P =
    record {
      flows = put_count x S k h w P;
      slots = put_cap x S k h w P;
      memory = other_memory x S k h w P;
      ring = other_ring x S k h w P;
      low = λ j ne. ap (λ (f : Flow). f.low) (other_flow x S k h w P j ne);
      next = λ j ne. ap (λ (f : Flow). f.next) (other_flow x S k h w P j ne);
      count = λ j ne. ap (λ (f : Flow). f.held) (other_flow x S k h w P j ne);
      backlog = λ j ne. ap (λ (f : Flow). f.backlog) (other_flow x S k h w P j ne);
    }

-- the context as it was
same_apart : (k : ℕ) (x : Context) → OthersKept k x x
same_apart k x =
    record {
      flows = refl;
      slots = refl;
      memory = λ j ne. refl;
      ring = λ j ne. refl;
      low = λ j ne. refl;
      next = λ j ne. refl;
      count = λ j ne. refl;
      backlog = λ j ne. refl;
    }

module _ (time k : ℕ) (x : Context) where
  -- no row refuses the event: the context is sound, and the step's world stands in flow k's place
  step_apart : (v : View) (xs : List Row) → ((S : SoundContext x) → first_of xs ≡ 0 → Stepped k x v) → first_of (with_sound x xs) ≡ 0
      → OthersKept k x (put_world k x (world_of v))
  step_apart v xs T z =
      let p = none_here 2 (not (sound_context x)) xs (omega arith) z in
      let S = context_facts x (not-false (sound_context x) p.0) in
      let U = T S p.1 in
      put_apart x S k U.there (world_of v) (stepped_rings x S k U)

  decided_apart : (v : View) (xs : List Row) → ((S : SoundContext x) → first_of xs ≡ 0 → Stepped k x v)
      → OthersKept k x (decided (first_of (with_sound x xs)) x (put_world k x (world_of v))).after
  unfolding decided
  decided_apart v xs T =
      eq_both (λ (a : Answered). OthersKept k x a.after) (first_of (with_sound x xs)) 0 _ _ (step_apart v xs T) (λ _. same_apart k x)

  -- "an ACK of one flow changes no other flow's ring, low, next, count or backlog"
  pub flow_apart : (a : Ack) → OthersKept k x (on_ack time k a x).after
  unfolding on_ack
  flow_apart a = decided_apart _ _ (λ S. ack_stepped x S time k a)

  -- and no other event does
  pub new_data_apart : (bytes : ℕ) → OthersKept k x (on_new_data time k bytes x).after
  unfolding on_new_data
  new_data_apart bytes = decided_apart _ _ (λ S. new_data_stepped x S time k bytes)

  pub send_apart : (a : Send) → OthersKept k x (on_send time k a x).after
  unfolding on_send
  send_apart a = decided_apart _ _ (λ S. send_stepped x S time k a)

  pub nack_apart : (a : Nack) → OthersKept k x (on_nack time k a x).after
  unfolding on_nack
  nack_apart a = decided_apart _ _ (λ S. nack_stepped x S time k a)

  pub loss_apart : (a : Loss) → OthersKept k x (on_loss time k a x).after
  unfolding on_loss
  loss_apart a = decided_apart _ _ (λ S. loss_stepped x S time k a)

  pub path_apart : OthersKept k x (on_path time k x).after
  unfolding on_path chosen
  path_apart =
      eq_both (λ (a : Routing). OthersKept k x a.after) (first_of (with_sound x (path_of time k x))) 0 _ _
      (step_apart _ _ (λ S. path_stepped x S time k)) (λ _. same_apart k x)
