-- A context in which one flow's world is replaced by one that is sound among the same others is sound (`put_sound`). So each event leaves a
-- sound context sound, whatever it answers and whether or not there is such a flow (..-lasts). By what an event keeps of one flow among
-- others (`sender`, proofs/Kept).
-- Assumes nothing.
use mathlib.Core.Path.{◌≡◌, refl, sym, ap, ◌∙◌}
use mathlib.Core.Bool.{Bool, true, false, not}
use mathlib.Core.List.{List, ◌∷◌}
use Prim.Native.Nat.{ℕ, ◌≤◌, ◌<◌}
use native.Mathlib.Omega.{arith}
use lib.Dec.{eqb, leb}
use lib.ListN.{length}
use borrow.Author.Tests.{leb-false, eqb-true, eqb-false}
use Rattle.rules.specs.Branch.{so_both, eq_both}
use Rattle.rules.specs.Rows.{Row, row, first_of, first_later, none_here}
use Rattle.ledger.specs.Memory.{stored}
use Rattle.ledger.specs.Packets.{flying_one, marked_one, marked_size}
use Rattle.ledger.specs.Ring.{Ring, Ledger, cap_of}
use Rattle.ledger.specs.Sound.{stands, Even, is_capacity}
use Rattle.ledger.specs.Steps.{changed, resend_of, push_of, mark_of, acknowledge_of}
use Rattle.ledger.proofs.Facts.{stands_facts, stands_later, sound_ledger_parts}
use Rattle.ledger.proofs.Geometry.{cap_facts, laid_cap}
use Rattle.ledger.proofs.Shows.{slots_even, shown_cap, stored_lengths}
use Rattle.flow_table.specs.Parts.{Rings}
use Rattle.flow_table.proofs.Places.{with_table, table_facts, facts_table}
use Rattle.flow_table.proofs.Cuts.{ring_lengths, one_ring}
use Rattle.sender.specs.World.{World, View, view_of, world_of, ledger_in}
use Rattle.sender.specs.Sound.{sound_among}
use Rattle.sender.specs.Rows.{time_row}
use Rattle.sender.specs.Events.{says}
use Rattle.sender.specs.Steps.{state_of, settled, new_data_state, new_data_step, send_step, ack_sampling, ack_step, nack_sampling, nack_step}
use Rattle.sender.specs.Steps.{loss_step, path_state, path_step, route_of}
use Rattle.sender.specs.declared.Send.{Send}
use Rattle.sender.specs.declared.Ack.{Ack}
use Rattle.sender.specs.declared.Nack.{Nack}
use Rattle.sender.specs.declared.Loss.{Loss}
use Rattle.sender.proofs.Sounds.{SoundFacts, among_facts}
use Rattle.sender.proofs.Views.{world_sound}
use Rattle.sender.proofs.Stepping.{time_facts}
use Rattle.sender.proofs.Kept.{new_data_kept, send_kept, ack_kept, nack_kept, loss_kept, path_kept}
use Rattle.context.specs.Context.{Context, Answered, Routing, flow_count, cap_in, flow_in, memory_in, ring_in}
use Rattle.context.specs.Context.{joined_of, shared_of, world_at, put_world}
use Rattle.context.specs.Sound.{stands_at, sound_context}
use Rattle.context.specs.Rows.{flow_row, with_sound}
use Rattle.context.specs.Events.{decided, chosen, new_data_of, send_of, ack_of, nack_of, loss_of, path_of}
use Rattle.context.specs.Events.{path_left, past_ack_says, past_nack_says, ack_says, nack_says}
use Rattle.context.specs.Events.{past_new_data, past_send, past_ack, past_nack, past_loss, past_path}
use Rattle.context.specs.Events.{on_new_data, on_send, on_ack, on_nack, on_loss, on_path}
use Rattle.context.proofs.Sounds.{SoundContext, context_facts, facts_context, others_of, one_among}
use Rattle.context.proofs.Puts.{put_count, put_cap, put_cut, own_flow, own_ring, other_flow, other_ring, put_adds, put_backlogs}

-- ---- one flow's world replaced

module _ (x : Context) (S : SoundContext x) (k : ℕ) (h : k < flow_count x) (w : World) (P : Rings 1 (cap_in x) w.slots)
    (e : sound_among (others_of k x) (view_of w) ≡ true) (same : w.state.settings ≡ x.state.settings)
    (later : x.state.clock ≤ w.state.clock) where
  abbrev y : Context
  y = put_world k x w

  F : SoundFacts (others_of k x) (view_of w)
  F = among_facts (others_of k x) (view_of w) e

  -- the flow stands as it did in its world, and every other as it stood, since the clock only goes on
  put_stands : (j : ℕ) → j < flow_count y → stands_at y j ≡ true
  unfolding stands_at put_world shared_of
  put_stands j l = by (eqb j k) refl
    where
      by : (t : Bool) → eqb j k ≡ t → stands w.state.settings.mtu w.state.clock (flow_in y j) (ring_in y j) ≡ true
      by true q =
          rw (eqb-true j k q, own_ring x S k h w P, own_flow x S k h w P)
          (sound_ledger_parts _ _ _ (others_of k x) (ledger_in (view_of w)) F.sound_ledger_lem).0
      by false q =
          let ne = eqb-false j k q in
          rw (other_ring x S k h w P j ne, other_flow x S k h w P j ne, same)
          (stands_later _ x.state.clock w.state.clock (flow_in x j) (ring_in x j)
          (S.stand j (omega (arith, put_count x S k h w P))) later)

  put_facts : SoundContext y
  unfolding put_world shared_of others_of
  put_facts =
      let T = (sound_ledger_parts _ _ _ (others_of k x) (ledger_in (view_of w)) F.sound_ledger_lem).1 in
      record {
        range = F.range;
        sound_window_lem = F.sound_window_lem;
        table = table_facts y.flows (with_table x.flows k w.state.flow ∙ facts_table x.flows S.table);
        cap = ap is_capacity (put_cap x S k h w P) ∙ S.cap;
        cut = put_cut x S k h w P;
        stand = put_stands;
        flying = T.flying ∙ put_adds x S k h w P flying_one;
        marked = T.marked ∙ put_adds x S k h w P marked_one;
        bytes = T.bytes ∙ put_adds x S k h w P marked_size;
        backlog = T.backlog ∙ put_backlogs x S k h w P;
        flown = T.flown;
        clock_ok = F.clock_ok;
        times_long = F.times_long;
        times_ok_lem = F.times_ok_lem;
        cursor_ok = F.cursor_ok;
        turn_ok = omega (arith, S.turn_ok, put_count x S k h w P);
        named = F.named;
      }

  -- A SOUND CONTEXT WITH A SOUND WORLD FOR ONE OF ITS FLOWS is sound
  pub put_sound : sound_context (put_world k x w) ≡ true
  put_sound = facts_context y put_facts

-- ---- a step of flow k

-- the memory of a ring is one ring of its capacity
sent_long : (r : Ring) → Even r → length (stored r).sent ≡ cap_of r
unfolding stored
sent_long r E = E.sent

stored_rings : (r : Ring) → is_capacity (cap_of r) ≡ true → Even r → Rings 1 (cap_of r) (stored r)
stored_rings r c E =
    let L = stored_lengths r (cap_facts (cap_of r) c) E c in
    let n = sent_long r E in
    record {
      outstanding = omega (arith, L.sent, n);
      marked = omega (arith, L.marked, L.sent, n);
      sizes = omega (arith, L.sizes, L.sent, n);
      sent = omega (arith, n);
    }

-- what is asked of the view that a step of flow k comes to: there is such a flow, and the step keeps what it shares with the others
pub record Stepped (k : ℕ) (x : Context) (v : View) : Type 0 where
  pub there : k < flow_count x
  pub sound_so : sound_among (others_of k x) v ≡ true
  pub settings_same : v.state.settings ≡ x.state.settings
  pub later : x.state.clock ≤ v.state.clock
  pub cap_same : cap_of v.slots ≡ cap_of (ring_in x k)

-- flow k's ring has its share of the slots
pub ring_cap : (x : Context) (S : SoundContext x) (k : ℕ) → k < flow_count x → cap_of (ring_in x k) ≡ cap_in x
ring_cap x S k h =
    let R = ring_lengths (flow_count x) (cap_in x) k x.slots S.cut h in
    let L = one_ring (cap_in x) (memory_in x k) S.cap R in
    omega (arith, shown_cap (flow_in x k).low (flow_in x k).next (memory_in x k), slots_even (memory_in x k) L, L.sizes, R.sizes)

module _ (x : Context) (S : SoundContext x) (k : ℕ) {v : View} (T : Stepped k x v) where
  pub stepped_rings : Rings 1 (cap_in x) (world_of v).slots
  stepped_rings =
      let F = stands_facts _ _ _ _ (sound_ledger_parts _ _ _ (others_of k x) (ledger_in v)
      (among_facts (others_of k x) v T.sound_so).sound_ledger_lem).0 in
      rw (← ring_cap x S k T.there, ← T.cap_same) (stored_rings v.slots F.cap F.even)

  pub stepped_sound : sound_context (put_world k x (world_of v)) ≡ true
  stepped_sound =
      put_sound x S k T.there (world_of v) stepped_rings (world_sound (others_of k x) v T.sound_so) T.settings_same T.later

-- where no row refuses an event, there is such a flow, and none of the flow's own rows refuses it
rows_passed : (k : ℕ) (x : Context) (late : Bool) (rows : List Row) → first_of (row late 3 ∷ flow_row k x ∷ rows) ≡ 0
    → (k < flow_count x) × (first_of (row late 3 ∷ rows) ≡ 0)
rows_passed k x late rows e =
    let p = none_here 3 late (flow_row k x ∷ rows) (omega arith) e in
    let q = none_here 25 (leb (flow_count x) k) rows (omega arith) p.1 in
    (leb-false (flow_count x) k q.0, sym (first_later 0 3 late rows p.0 (sym q.1)))

-- each event that no row refuses
module _ (x : Context) (S : SoundContext x) (time k : ℕ) where
  -- flow k, and the view of it
  abbrev seen : View
  seen = view_of (world_at k x)

  stepped : (v : View) (rows : List Row) → first_of (time_row time seen.state ∷ flow_row k x ∷ rows) ≡ 0
      → (sound_among (others_of k x) seen ≡ true → first_of (time_row time seen.state ∷ rows) ≡ 0 → sound_among (others_of k x) v ≡ true)
      → v.state.settings ≡ x.state.settings → v.state.clock ≡ time → cap_of v.slots ≡ cap_of (ring_in x k) → Stepped k x v
  unfolding world_at joined_of
  stepped v rows e kept same clock cap =
      let p = rows_passed k x _ rows e in
      record {
        there = p.0;
        sound_so = kept (one_among x S k p.0) p.1;
        settings_same = same;
        later = omega (arith, (time_facts time seen.state rows p.1).0.later, clock);
        cap_same = cap;
      }

  pub new_data_stepped : (bytes : ℕ) → first_of (new_data_of time k bytes x) ≡ 0 → Stepped k x (new_data_step time bytes seen)
  unfolding world_at joined_of new_data_step new_data_state state_of
  new_data_stepped bytes e = stepped _ _ e (new_data_kept (others_of k x) time bytes seen) refl refl refl

  pub send_stepped : (a : Send) → first_of (send_of time k a x) ≡ 0 → Stepped k x (send_step time a seen)
  unfolding world_at joined_of send_step settled state_of resend_of push_of changed
  send_stepped a e =
      stepped _ _ e (send_kept (others_of k x) time a seen) refl refl
      (so_both (λ (l : Ledger). cap_of l.slots ≡ cap_of (ring_in x k)) a.resend _ _ (λ _. laid_cap _ _ _) (λ _. laid_cap _ _ _))

  pub ack_stepped : (a : Ack) → first_of (ack_of time k a x) ≡ 0 → Stepped k x (ack_step time a seen)
  unfolding world_at joined_of ack_step settled state_of acknowledge_of
  ack_stepped a e = stepped _ _ e (ack_kept (others_of k x) time a seen) refl refl (laid_cap _ _ _)

  pub nack_stepped : (a : Nack) → first_of (nack_of time k a x) ≡ 0 → Stepped k x (nack_step time a seen)
  unfolding world_at joined_of nack_step settled state_of mark_of changed
  nack_stepped a e = stepped _ _ e (nack_kept (others_of k x) time a seen) refl refl (laid_cap _ _ _)

  pub loss_stepped : (a : Loss) → first_of (loss_of time k a x) ≡ 0 → Stepped k x (loss_step time a seen)
  unfolding world_at joined_of loss_step settled state_of mark_of changed
  loss_stepped a e = stepped _ _ e (loss_kept (others_of k x) time a seen) refl refl (laid_cap _ _ _)

  pub path_stepped : first_of (path_of time k x) ≡ 0 → Stepped k x (path_step time seen)
  unfolding world_at joined_of path_step path_state state_of
  path_stepped e = stepped _ _ e (path_kept (others_of k x) time seen) refl refl refl

-- ---- whatever is answered

module _ (x : Context) (e : sound_context x ≡ true) (time k : ℕ) where
  S : SoundContext x
  S = context_facts x e

  decided_lasts : (v : View) (xs : List Row) → (first_of xs ≡ 0 → Stepped k x v)
      → sound_context (decided (first_of xs) x (put_world k x (world_of v))).after ≡ true
  unfolding decided
  decided_lasts v xs T =
      eq_both (λ (a : Answered). sound_context a.after ≡ true) (first_of xs) 0 _ _ (λ z. stepped_sound x S k (T z)) (λ _. e)

  pub past_new_data_lasts : (bytes : ℕ) → sound_context (past_new_data time k bytes x).after ≡ true
  unfolding past_new_data
  past_new_data_lasts bytes = decided_lasts _ _ (new_data_stepped x S time k bytes)

  pub past_send_lasts : (a : Send) → sound_context (past_send time k a x).after ≡ true
  unfolding past_send
  past_send_lasts a = decided_lasts _ _ (send_stepped x S time k a)

  pub past_ack_lasts : (a : Ack) → sound_context (past_ack time k a x).after ≡ true
  unfolding past_ack
  past_ack_lasts a = decided_lasts _ _ (ack_stepped x S time k a)

  pub past_nack_lasts : (a : Nack) → sound_context (past_nack time k a x).after ≡ true
  unfolding past_nack
  past_nack_lasts a = decided_lasts _ _ (nack_stepped x S time k a)

  pub past_loss_lasts : (a : Loss) → sound_context (past_loss time k a x).after ≡ true
  unfolding past_loss
  past_loss_lasts a = decided_lasts _ _ (loss_stepped x S time k a)

  pub past_path_lasts : sound_context (past_path time k x).after ≡ true
  unfolding past_path chosen
  past_path_lasts =
      eq_both (λ (a : Routing). sound_context a.after ≡ true) (first_of (path_of time k x)) 0 _ _
      (λ z. stepped_sound x S k (path_stepped x S time k z)) (λ _. e)

  -- ---- an event of a sound context, with its test of number 2 and past it

  sound_passed : (xs : List Row) → first_of xs ≡ first_of (with_sound x xs)
  sound_passed xs = first_later (first_of xs) 2 (not (sound_context x)) xs (ap not e) refl

  past_decided : (xs : List Row) (after : Context) → decided (first_of xs) x after ≡ decided (first_of (with_sound x xs)) x after
  past_decided xs after = ap (λ (n : ℕ). decided n x after) (sound_passed xs)

  pub past_new_data_lem : (bytes : ℕ) → past_new_data time k bytes x ≡ on_new_data time k bytes x
  unfolding past_new_data on_new_data
  past_new_data_lem bytes = past_decided _ _

  pub past_send_lem : (a : Send) → past_send time k a x ≡ on_send time k a x
  unfolding past_send on_send
  past_send_lem a = past_decided _ _

  pub past_ack_lem : (a : Ack) → past_ack time k a x ≡ on_ack time k a x
  unfolding past_ack on_ack
  past_ack_lem a = past_decided _ _

  pub past_ack_says_lem : (a : Ack) → past_ack_says time k a x ≡ ack_says time k a x
  past_ack_says_lem a = ap (λ (r : Answered). says r.number (ack_sampling time a (view_of (world_at k x)))) (past_ack_lem a)

  pub past_nack_lem : (a : Nack) → past_nack time k a x ≡ on_nack time k a x
  unfolding past_nack on_nack
  past_nack_lem a = past_decided _ _

  pub past_nack_says_lem : (a : Nack) → past_nack_says time k a x ≡ nack_says time k a x
  past_nack_says_lem a = ap (λ (r : Answered). says r.number (nack_sampling time a (view_of (world_at k x)))) (past_nack_lem a)

  pub past_loss_lem : (a : Loss) → past_loss time k a x ≡ on_loss time k a x
  unfolding past_loss on_loss
  past_loss_lem a = past_decided _ _

  pub past_path_lem : past_path time k x ≡ on_path time k x
  unfolding past_path on_path
  past_path_lem =
      ap (λ (n : ℕ). chosen n (route_of time (view_of (world_at k x))).ev x (path_left time k x)) (sound_passed (path_of time k x))

  -- EACH EVENT LEAVES A SOUND CONTEXT SOUND
  pub new_data_lasts : (bytes : ℕ) → sound_context (on_new_data time k bytes x).after ≡ true
  new_data_lasts bytes = ap (λ (r : Answered). sound_context r.after) (sym (past_new_data_lem bytes)) ∙ past_new_data_lasts bytes

  pub send_lasts : (a : Send) → sound_context (on_send time k a x).after ≡ true
  send_lasts a = ap (λ (r : Answered). sound_context r.after) (sym (past_send_lem a)) ∙ past_send_lasts a

  pub ack_lasts : (a : Ack) → sound_context (on_ack time k a x).after ≡ true
  ack_lasts a = ap (λ (r : Answered). sound_context r.after) (sym (past_ack_lem a)) ∙ past_ack_lasts a

  pub nack_lasts : (a : Nack) → sound_context (on_nack time k a x).after ≡ true
  nack_lasts a = ap (λ (r : Answered). sound_context r.after) (sym (past_nack_lem a)) ∙ past_nack_lasts a

  pub loss_lasts : (a : Loss) → sound_context (on_loss time k a x).after ≡ true
  loss_lasts a = ap (λ (r : Answered). sound_context r.after) (sym (past_loss_lem a)) ∙ past_loss_lasts a

  pub path_lasts : sound_context (on_path time k x).after ≡ true
  path_lasts = ap (λ (r : Routing). sound_context r.after) (sym past_path_lem) ∙ past_path_lasts
