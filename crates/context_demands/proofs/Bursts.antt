-- `burst`: a burst of one flow's ACKs leaves the whole table, ring buffer and totals as its newest alone does, by the demand of one flow
-- among others (`burst_among`) and because the memory of a ring that holds together is told by what it shows. `delivers` likewise; where
-- every ACK is refused, nothing moves.
-- Assumes nothing.
use mathlib.Core.Path.{◌≡◌, refl, sym, ap, ap₂, ◌∙◌}
use mathlib.Core.Logic.{by_cases}
use mathlib.Core.Bool.{Bool, true, false, true≢false, ◌&&◌, ◌||◌}
use mathlib.Core.List.{List, [], ◌∷◌}
use Prim.Native.Nat.{ℕ, ◌<◌}
use native.Mathlib.Decide.{dec_lt}
use lib.Dec.{eqb}
use borrow.Author.Tests.{ne_eqb}
use Rattle.ledger.specs.Memory.{Memory, stored}
use Rattle.ledger.specs.Ring.{Ledger}
use Rattle.ledger.specs.Sound.{Others}
use Rattle.flow_table.specs.Words.{with_flow}
use Rattle.flow_table.specs.Parts.{put_part}
use Rattle.sender.specs.World.{World, view_of, ledger_of}
use Rattle.sender.specs.Sound.{sound_among}
use Rattle.sender.specs.Events.{past_ack}
use Rattle.sender.specs.declared.Ack.{Ack}
use Rattle.sender.proofs.Views.{stored_ring}
use Rattle.context.specs.Context.{Context, flow_count, cap_in, joined_of, shared_of, world_at, put_world}
use Rattle.context.specs.Sound.{sound_context}
use Rattle.context.specs.Events.{on_ack}
use Rattle.context.proofs.Sounds.{context_facts, others_of, one_among}
use Rattle.demands.specs.Events.{ack}
use Rattle.demands.specs.Burst.{Arrival, Outstanding, psn_of, covers_psn, is_delivered}
use Rattle.demands.specs.Past.{past_deliver, past_covered, NewestPast}
use Rattle.demands.proofs.Sounded.{past_lasts}
use Rattle.demands.proofs.Bursts.{burst_among}
use Rattle.demands.proofs.Delivered.{delivers_among}
use Rattle.demands.proofs.Delivered.{delivers as one-delivers}
use Rattle.context_demands.specs.Burst.{Ledgers, ledgers_of, deliver, was_covered}
use Rattle.context_demands.specs.Demands.{Burst, Delivers}
use Rattle.context_demands.proofs.Runs.{refused_same, accepted, event_stepped}
use Rattle.context_demands.proofs.Ones.{own_world, deliver_one, after_one, one_after, one_number, one_sound, one_there, one_own}

-- where an ACK of flow k is accepted, there is such a flow
there : (k at : ℕ) (a : Ack) (x : Context) → (on_ack at k a x).number ≡ 0 → (sound_context x ≡ true) × (k < flow_count x)
there k at a x n =
    let A = accepted k (ack at a) x n in
    (A.sound_so, (event_stepped k (ack at a) x (context_facts x A.sound_so) A.none_refuses).there)

-- ---- the newest

-- two worlds of one ledger put in for flow k leave one table, one ring buffer and the same totals
module _ (k : ℕ) (x : Context) (o : Others) (u v : World) (hu : sound_among o (view_of u) ≡ true) (hv : sound_among o (view_of v) ≡ true) where
  abbrev kept : Ledger → Memory → Ledgers
  kept l m = record { flows = with_flow x.flows k l.flow; slots = put_part (cap_in x) k x.slots m; totals = l.totals }

  put_ledgers : ledger_of u ≡ ledger_of v → ledgers_of (put_world k x u) ≡ ledgers_of (put_world k x v)
  unfolding put_world shared_of
  put_ledgers e =
      ap (λ (m : Memory). kept (ledger_of u) m) (sym (stored_ring o u hu))
      ∙ ap (λ (l : Ledger). kept l (stored l.slots)) e
      ∙ ap (λ (m : Memory). kept (ledger_of v) m) (stored_ring o v hv)

deliver_sound : (o : Others) (ds : List Arrival) (w : World) → sound_among o (view_of w) ≡ true
    → sound_among o (view_of (past_deliver w ds)) ≡ true
deliver_sound o [] w h = h
deliver_sound o (d ∷ ds) w h = deliver_sound o ds (past_ack d.time d.ack w).after (past_lasts o (ack d.time d.ack) w h)

pub burst : Burst
unfolding world_at joined_of
burst k x at n others ds nw of ar tm =
    let T = there k at n x nw.accepted in
    let h = T.0 in
    let l = T.1 in
    let o = others_of k x in
    let w = world_at k x in
    let H = one_among x (context_facts x h) k l in
    let single : Arrival = record { time = at; ack = n } in
    let N : NewestPast w at n others = record {
      accepted = sym (one_number k x h l single) ∙ nw.accepted;
      not_behind = nw.not_behind;
      others_behind = nw.others_behind;
      covers_too = nw.covers_too;
    } in
    ap ledgers_of (deliver_one k ds x h l).is
    ∙ put_ledgers k x o (past_deliver w ds) (past_ack at n w).after (deliver_sound o ds w H) (past_lasts o (ack at n) w H)
    (burst_among o w at n others ds H N of ar tm)
    ∙ ap ledgers_of (sym (one_after k x h l single))

-- ---- before it

covered_one : (k : ℕ) (psn : ℕ) (ds : List Arrival) (x : Context) → sound_context x ≡ true → k < flow_count x
    → past_covered (world_at k x) ds psn ≡ was_covered k x ds psn
covered_one k psn [] x h l = refl
covered_one k psn (d ∷ ds) x h l =
    let w = after_one k x h l d in
    let y = put_world k x w in
    let I : past_covered w ds psn ≡ was_covered k y ds psn =
    ap (λ (v : World). past_covered v ds psn) (sym (one_own k x h l d))
    ∙ covered_one k psn ds y (one_sound k x h l d) (one_there k x h l d) in
    ap₂ (λ (n : ℕ) (b : Bool). (eqb n 0 && covers_psn d.ack psn) || b) (sym (one_number k x h l d))
    (I ∙ ap (λ (z : Context). was_covered k z ds psn) (sym (one_after k x h l d)))

-- where every ACK is refused, nothing moves, and an outstanding packet stays so
module _ (k : ℕ) (x : Context) (no : (time : ℕ) (a : Ack) → (on_ack time k a x).number ≡ 0 → ⊥) where
  stays : (d : Arrival) → (on_ack d.time k d.ack x).after ≡ x
  stays d = refused_same (record { flow = k; event = ack d.time d.ack }) x (no d.time d.ack)

  none_moves : (ds : List Arrival) → deliver k x ds ≡ x
  none_moves [] = refl
  none_moves (d ∷ ds) = ap (λ (y : Context). deliver k y ds) (stays d) ∙ none_moves ds

  none_covers : (psn : ℕ) (ds : List Arrival) → was_covered k x ds psn ≡ false
  none_covers psn [] = refl
  none_covers psn (d ∷ ds) =
      rw (ne_eqb (on_ack d.time k d.ack x).number 0 (no d.time d.ack), stays d) (none_covers psn ds)

  none_delivers : (ds : List Arrival) (j : ℕ) → Outstanding (world_at k x) j
      → is_delivered (ledger_of (world_at k (deliver k x ds))) (psn_of (world_at k x) j) ≡ was_covered k x ds (psn_of (world_at k x) j)
  none_delivers ds j out =
      let psn = psn_of (world_at k x) j in
      ap (λ (y : Context). is_delivered (ledger_of (world_at k y)) psn) (none_moves ds)
      ∙ one-delivers (world_at k x) [] j out
      ∙ sym (none_covers psn ds)

pub delivers : Delivers
delivers k x ds j out = go (sound_context x) refl
  where
    go : (b : Bool) → sound_context x ≡ b
        → is_delivered (ledger_of (world_at k (deliver k x ds))) (psn_of (world_at k x) j) ≡ was_covered k x ds (psn_of (world_at k x) j)
    go true h =
        let psn = psn_of (world_at k x) j in
        by_cases (dec_lt k (flow_count x))
        (λ l.
        let D = deliver_one k ds x h l in
        let S = context_facts x h in
        ap (λ (y : Context). is_delivered (ledger_of (world_at k y)) psn) D.is
        ∙ ap (λ (v : World). is_delivered (ledger_of v) psn) (own_world x S k l (past_deliver (world_at k x) ds) D.rings)
        ∙ delivers_among (others_of k x) (world_at k x) ds j (one_among x S k l) out
        ∙ covered_one k psn ds x h l)
        (λ l. none_delivers k x (λ time a n. l (there k time a x n).1) ds j out)
    go false h = none_delivers k x (λ time a n. true≢false (sym (there k time a x n).0 ∙ h)) ds j out
