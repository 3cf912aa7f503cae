-- WHAT THE HEADER CALLS CONST IS LEFT AS IT WAS, whatever is answered: the ring buffer and the EV times by new data, the table of flows too
-- by a path choice, the EV times by a send, and all but the marked bits and the EV times by a NACK and by a loss. Assumes nothing.
use mathlib.Core.Path.{◌≡◌, refl, sym, ap, ◌∙◌}
use mathlib.Core.Bool.{true, not}
use mathlib.Core.List.{List}
use Prim.Native.Nat.{ℕ, ◌*◌, ◌%◌, ◌<◌}
use native.Mathlib.Omega.{arith}
use lib.IntN.{pos, ◌-ℤ◌}
use lib.ListN.{length}
use borrow.Author.Tests.{not-false}
use Rattle.rules.specs.Branch.{so_both, eq_both}
use Rattle.rules.specs.Rows.{Row, first_of, none_here}
use Rattle.serial.specs.Psn.{psns}
use Rattle.ledger.specs.Packets.{is_flying}
use Rattle.ledger.specs.Ring.{packet_of}
use Rattle.ledger.specs.Sound.{SoundLedger}
use Rattle.ledger.specs.Memory.{Memory, stored, Kept, kept_of}
use Rattle.ledger.specs.Steps.{mark_of}
use Rattle.ledger.proofs.Marks.{mark_some}
use Rattle.ledger.proofs.Keeping.{mark_kept}
use Rattle.flow_table.specs.Parts.{around, words_in, put_part}
use Rattle.flow_table.proofs.Places.{with_same}
use Rattle.flow_table.proofs.Cuts.{put_part_lem}
use Rattle.sender.specs.World.{World, ring_of, view_of, ledger_of}
use Rattle.sender.specs.Steps.{state_of, settled, new_data_step, send_step, nack_step, loss_step, path_state, path_step}
use Rattle.sender.specs.declared.Send.{Send}
use Rattle.sender.specs.declared.Nack.{Nack}
use Rattle.sender.specs.declared.Loss.{Loss}
use Rattle.sender.proofs.Sounds.{among_facts, holds_ledger}
use Rattle.sender.proofs.Views.{stored_ring}
use Rattle.sender.proofs.Stepping.{Markable, nack_facts, loss_facts, mark_flies}
use Rattle.context.specs.Context.{Context, context, Answered, Routing, flow_count, cap_in, memory_in, joined_of, world_at, put_world}
use Rattle.context.specs.Sound.{sound_context}
use Rattle.context.specs.Rows.{with_sound}
use Rattle.context.specs.Events.{decided, chosen, nack_of, loss_of, path_of, on_new_data, on_send, on_nack, on_loss, on_path}
use Rattle.context.proofs.Sounds.{SoundContext, context_facts, others_of, one_among, one_holds}
use Rattle.context.proofs.Lifts.{flow_passed}
use Rattle.context.proofs.Kept.{new_data_stepped, nack_stepped, loss_stepped, path_stepped}
use Rattle.c_state.specs.Layout.{state_from, words_ok}
use Rattle.c_api.specs.Calls.{Called, path_beside, nack_beside, on_words, on_beside_words}

-- ---- an event keeps what its step keeps

module _ {A : Type 0} (view : Context → A) (x after : Context) where
  decided_keeps : (n : ℕ) → (n ≡ 0 → view after ≡ view x) → view (decided n x after).after ≡ view x
  unfolding decided
  decided_keeps n same = eq_both (λ (a : Answered). view a.after ≡ view x) n 0 _ _ same (λ _. refl)

  chosen_keeps : (n ev : ℕ) → (n ≡ 0 → view after ≡ view x) → view (chosen n ev x after).after ≡ view x
  unfolding chosen
  chosen_keeps n ev same = eq_both (λ (a : Routing). view a.after ≡ view x) n 0 _ _ same (λ _. refl)

-- where no row applies, number 2 does not
none_sound : (x : Context) (xs : List Row) → first_of (with_sound x xs) ≡ 0 → SoundContext x × (first_of xs ≡ 0)
none_sound x xs e =
    let p = none_here 2 (not (sound_context x)) xs (omega arith) e in
    (context_facts x (not-false (sound_context x) p.0), p.1)

-- ---- flow k's ring, put back

pub record Fields (x r : Memory) : Type 0 where
  pub outstanding_same : x.outstanding ≡ r.outstanding
  pub sizes_same : x.sizes ≡ r.sizes
  pub sent_same : x.sent ≡ r.sent

fields_here : (r : Memory) → Fields r r
fields_here r = record { outstanding_same = refl; sizes_same = refl; sent_same = refl }

module _ (x : Context) (S : SoundContext x) (k : ℕ) (h : k < flow_count x) where
  -- as it was
  ring_back : put_part (cap_in x) k x.slots (stored (ring_of (world_at k x))) ≡ x.slots
  unfolding world_at
  ring_back =
      ap (put_part (cap_in x) k x.slots) (stored_ring (others_of k x) (world_at k x) (one_among x S k h))
      ∙ put_part_lem (flow_count x) (cap_in x) k x.slots S.cut h

  -- with other marked bits
  fields_back : (p : Memory) → Fields p (memory_in x k) → Fields (put_part (cap_in x) k x.slots p) x.slots
  unfolding put_part
  fields_back p f =
      let w = words_in (cap_in x) in
      let c = cap_in x in
      let m = x.slots in
      let same = put_part_lem (flow_count x) c k m S.cut h in
      record {
        outstanding_same =
            ap (around (k * w) w m.outstanding) f.outstanding_same ∙ ap (λ (n : Memory). n.outstanding) same;
        sizes_same = ap (around (k * c) c m.sizes) f.sizes_same ∙ ap (λ (n : Memory). n.sizes) same;
        sent_same = ap (around (k * c) c m.sent) f.sent_same ∙ ap (λ (n : Memory). n.sent) same;
      }

-- ---- a packet that is marked keeps all but its marked bit

module _ (w : World) (c : SoundLedger (ledger_of w)) (psn : ℕ) (fits : psn < psns)
    (flies : is_flying (packet_of w.state.flow (ring_of w) psn) ≡ true) where
  marked_fields : Fields (stored (mark_of psn (ledger_of w)).slots) w.slots
  unfolding kept_of
  marked_fields =
      let l = ledger_of w in
      let x = packet_of l.flow l.slots psn in
      let is = mark_kept l.flow l.totals w.slots c psn (psn % length w.slots.sent) fits refl x refl
      (mark_some l psn flies x refl) flies (l.totals.in_flight -ℤ pos x.size) refl _ refl in
      record {
        outstanding_same = sym (ap (λ (k : Kept). k.slots.outstanding) is);
        sizes_same = sym (ap (λ (k : Kept). k.slots.sizes) is);
        sent_same = sym (ap (λ (k : Kept). k.slots.sent) is);
      }

module _ (x : Context) (S : SoundContext x) (k : ℕ) (h : k < flow_count x) (time psn ev : ℕ) (fits : psn < psns)
    (m : Markable time psn ev (world_at k x).state (ring_of (world_at k x))) where
  one_marked : Fields (put_part (cap_in x) k x.slots (stored (mark_of psn (ledger_of (world_at k x))).slots)) x.slots
  unfolding world_at
  one_marked =
      let w = world_at k x in
      fields_back x S k h _
      (marked_fields w (holds_ledger w (one_holds x S k h)) psn fits
      (mark_flies (among_facts (others_of k x) (view_of w) (one_among x S k h)) m))

-- ---- the events of flow k

module _ (time k : ℕ) (x : Context) where
  nack_fields_lem : (a : Nack) → a.psn < psns → Fields (on_nack time k a x).after.slots x.slots
  unfolding on_nack nack_step settled decided put_world
  nack_fields_lem a fits =
      eq_both (λ (r : Answered). Fields r.after.slots x.slots) (first_of (with_sound x (nack_of time k a x))) 0 _ _
      (λ none.
      let n = none_sound x (nack_of time k a x) none in
      let h = (nack_stepped x n.0 time k a n.1).there in
      one_marked x n.0 k h time a.psn a.ev fits
      (nack_facts time a (world_at k x).state (ring_of (world_at k x)) (flow_passed k x _ _ h ∙ n.1)))
      (λ _. fields_here x.slots)

  loss_fields_lem : (a : Loss) → a.psn < psns → Fields (on_loss time k a x).after.slots x.slots
  unfolding on_loss loss_step settled decided put_world
  loss_fields_lem a fits =
      eq_both (λ (r : Answered). Fields r.after.slots x.slots) (first_of (with_sound x (loss_of time k a x))) 0 _ _
      (λ none.
      let n = none_sound x (loss_of time k a x) none in
      let h = (loss_stepped x n.0 time k a n.1).there in
      one_marked x n.0 k h time a.psn a.ev fits
      (loss_facts time a (world_at k x).state (ring_of (world_at k x)) (flow_passed k x _ _ h ∙ n.1)))
      (λ _. fields_here x.slots)

  nack_flows : (a : Nack) → (on_nack time k a x).after.flows ≡ x.flows
  unfolding on_nack nack_step settled state_of mark_of put_world world_at joined_of
  nack_flows a = decided_keeps (λ (y : Context). y.flows) x _ _ (λ _. with_same x.flows k)

  loss_flows : (a : Loss) → (on_loss time k a x).after.flows ≡ x.flows
  unfolding on_loss loss_step settled state_of mark_of put_world world_at joined_of
  loss_flows a = decided_keeps (λ (y : Context). y.flows) x _ _ (λ _. with_same x.flows k)

  new_data_slots : (bytes : ℕ) → (on_new_data time k bytes x).after.slots ≡ x.slots
  unfolding on_new_data new_data_step put_world
  new_data_slots bytes =
      decided_keeps (λ (y : Context). y.slots) x _ _
      (λ none.
      let n = none_sound x _ none in
      ring_back x n.0 k (new_data_stepped x n.0 time k bytes n.1).there)

  new_data_times : (bytes : ℕ) → (on_new_data time k bytes x).after.times ≡ x.times
  unfolding on_new_data new_data_step put_world world_at
  new_data_times bytes = decided_keeps (λ (y : Context). y.times) x _ _ (λ _. refl)

  send_times : (a : Send) → (on_send time k a x).after.times ≡ x.times
  unfolding on_send send_step settled put_world world_at
  send_times a = decided_keeps (λ (y : Context). y.times) x _ _ (λ _. refl)

  path_flows : (on_path time k x).after.flows ≡ x.flows
  unfolding on_path path_step path_state state_of put_world world_at joined_of
  path_flows = chosen_keeps (λ (y : Context). y.flows) x _ _ _ (λ _. with_same x.flows k)

  path_slots : (on_path time k x).after.slots ≡ x.slots
  unfolding on_path path_step put_world
  path_slots =
      chosen_keeps (λ (y : Context). y.slots) x _ _ _
      (λ none.
      let n = none_sound x (path_of time k x) none in
      ring_back x n.0 k (path_stepped x n.0 time k n.1).there)

  path_times : (on_path time k x).after.times ≡ x.times
  unfolding on_path path_step put_world world_at
  path_times = chosen_keeps (λ (y : Context). y.times) x _ _ _ (λ _. refl)

-- ---- over lent words

module _ (ws fs : List ℕ) (r : Memory) (t : List ℕ) (time k : ℕ) where
  abbrev given : Context
  given = context (state_from ws) fs r t

  pub new_data_const : (bytes : ℕ) → let x = on_words ws fs r t (on_new_data time k bytes) in (x.slots ≡ r) × (x.times ≡ t)
  unfolding on_words
  new_data_const bytes =
      so_both (λ (x : Called). (x.slots ≡ r) × (x.times ≡ t)) (words_ok ws) _ _
      (λ _. (new_data_slots time k given bytes, new_data_times time k given bytes))
      (λ _. (refl, refl))

  pub send_const : (a : Send) → (on_words ws fs r t (on_send time k a)).times ≡ t
  unfolding on_words
  send_const a = so_both (λ (x : Called). x.times ≡ t) (words_ok ws) _ _ (λ _. send_times time k given a) (λ _. refl)

  pub nack_const : (a : Nack) → a.psn < psns
      → let x = on_beside_words ws fs r t (nack_beside time k a) in (x.flows ≡ fs) × Fields x.slots r
  unfolding on_beside_words
  nack_const a fits =
      so_both (λ (x : Called). (x.flows ≡ fs) × Fields x.slots r) (words_ok ws) _ _
      (λ _. (nack_flows time k given a, nack_fields_lem time k given a fits))
      (λ _. (refl, fields_here r))

  pub loss_const : (a : Loss) → a.psn < psns
      → let x = on_words ws fs r t (on_loss time k a) in (x.flows ≡ fs) × Fields x.slots r
  unfolding on_words
  loss_const a fits =
      so_both (λ (x : Called). (x.flows ≡ fs) × Fields x.slots r) (words_ok ws) _ _
      (λ _. (loss_flows time k given a, loss_fields_lem time k given a fits))
      (λ _. (refl, fields_here r))

  pub path_const : let x = on_beside_words ws fs r t (path_beside time k) in (x.flows ≡ fs) × (x.slots ≡ r) × (x.times ≡ t)
  unfolding on_beside_words
  path_const =
      so_both (λ (x : Called). (x.flows ≡ fs) × (x.slots ≡ r) × (x.times ≡ t)) (words_ok ws) _ _
      (λ _. (path_flows time k given, path_slots time k given, path_times time k given))
      (λ _. (refl, refl, refl))
