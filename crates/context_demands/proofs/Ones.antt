-- One flow's part in a context: what is put in for flow k is what it sees, and the last put counts (`own_world`, `put_put`). So an event of
-- flow k of a sound context is the sender's event past number 2 on what flow k sees, put back (`lift_step`), and a list of its ACKs too
-- (`deliver_one`).
-- Assumes nothing.
use mathlib.Core.Path.{◌≡◌, refl, sym, ap, ap₂, ◌∙◌, subst}
use mathlib.Core.Logic.{by_cases}
use mathlib.Core.Bool.{true, not}
use mathlib.Core.List.{List, [], ◌∷◌}
use Prim.Native.Nat.{ℕ, ◌<◌}
use native.Mathlib.Decide.{ℕ_discrete}
use native.Mathlib.Omega.{arith}
use Rattle.rules.specs.Branch.{eq_yes, eq_no, eq_both}
use Rattle.rules.specs.Rows.{first_of, first_later}
use Rattle.ledger.specs.Memory.{Memory}
use Rattle.ledger.specs.declared.Flow.{Flow}
use Rattle.flow_table.specs.Words.{with_flow}
use Rattle.flow_table.specs.Parts.{part_of, put_part, Rings}
use Rattle.flow_table.proofs.Places.{with_length, flow_same, flow_other}
use Rattle.flow_table.proofs.Records.{flows_same}
use Rattle.flow_table.proofs.Cuts.{ring_lengths, put_lengths, ring_same, ring_other, rings_same}
use Rattle.sender.specs.World.{World, world}
use Rattle.sender.specs.World.{Answered as OneAnswered, Routing as OneRouting}
use Rattle.sender.specs.Rows.{path_rows}
use Rattle.sender.specs.Events.{decided as oneDecided}
use Rattle.sender.specs.Events.{past_new_data, past_send, past_ack, past_nack, past_loss, past_path}
use Rattle.context.specs.Context.{Context, context, Answered, flow_count, cap_in, memory_in, joined_of, shared_of, world_at, put_world}
use Rattle.context.specs.Sound.{sound_context}
use Rattle.context.specs.Rows.{with_flow_row}
use Rattle.context.specs.Events.{decided, on_ack}
use Rattle.context.proofs.Sounds.{SoundContext, context_facts}
use Rattle.context.proofs.Joins.{put_same}
use Rattle.context.proofs.Lifts.{flow_passed}
use Rattle.context.proofs.Puts.{put_count, put_cap, own_flow}
use Rattle.context.proofs.Kept.{stepped_rings}
use Rattle.demands.specs.Events.{Event, new_data, send, ack, nack, loss, path}
use Rattle.demands.specs.Events.{step_of as oneStep}
use Rattle.demands.specs.Burst.{Arrival}
use Rattle.demands.specs.Past.{past_rows, past_answer, past_deliver}
use Rattle.demands.proofs.Runs.{past_cases}
use Rattle.context_demands.specs.Events.{rows_at, answer_at, step_at}
use Rattle.context_demands.specs.Burst.{deliver}
use Rattle.context_demands.proofs.Runs.{answer_decided, event_stepped, answer_lasts}

-- ---- a world put in for flow k

module _ (x : Context) (S : SoundContext x) (k : ℕ) (h : k < flow_count x) (w : World) (P : Rings 1 (cap_in x) w.slots) where
  -- flow k sees it
  pub own_world : world_at k (put_world k x w) ≡ w
  unfolding world_at put_world joined_of shared_of
  own_world =
      let y = put_world k x w in
      let m : memory_in y k ≡ w.slots = ap (λ (c : ℕ). part_of c k y.slots) (put_cap x S k h w P)
      ∙ ring_same (flow_count x) (cap_in x) k x.slots S.cut h w.slots P in
      ap₂ (λ (f : Flow) (q : Memory). world (joined_of (shared_of x.state.turn w.state) f) q w.times) (own_flow x S k h w P) m

  -- another one put in afterwards: as if it were put in alone
  module _ (v : World) (Q : Rings 1 (cap_in x) v.slots) where
    table_put : with_flow (with_flow x.flows k w.state.flow) k v.state.flow ≡ with_flow x.flows k v.state.flow
    table_put =
        let f = w.state.flow in
        let g = v.state.flow in
        let once = with_flow x.flows k f in
        let n = with_length x.flows k f in
        flows_same (flow_count x) _ _ (with_length once k g ∙ n ∙ S.table.whole) (with_length x.flows k g ∙ S.table.whole)
        (λ j l. by_cases (ℕ_discrete j k)
        (λ q. rw q (flow_same once k g (omega (arith, n, S.table.whole))
        ∙ sym (flow_same x.flows k g (omega (arith, S.table.whole)))))
        (λ ne. flow_other once k g j ne ∙ flow_other x.flows k f j ne ∙ sym (flow_other x.flows k g j ne)))

    slots_put : put_part (cap_in x) k (put_part (cap_in x) k x.slots w.slots) v.slots ≡ put_part (cap_in x) k x.slots v.slots
    slots_put =
        let n = flow_count x in
        let cap = cap_in x in
        let m = x.slots in
        let once = put_part cap k m w.slots in
        let R = put_lengths n cap k m S.cut h w.slots P in
        rings_same n cap _ _ (put_lengths n cap k once R h v.slots Q) (put_lengths n cap k m S.cut h v.slots Q)
        (λ j l. by_cases (ℕ_discrete j k)
        (λ q. rw q (ring_same n cap k once R h v.slots Q ∙ sym (ring_same n cap k m S.cut h v.slots Q)))
        (λ ne. ring_other n cap k once R h v.slots Q j ne ∙ ring_other n cap k m S.cut h w.slots P j ne
        ∙ sym (ring_other n cap k m S.cut h v.slots Q j ne)))

    pub put_put : put_world k (put_world k x w) v ≡ put_world k x v
    unfolding put_world shared_of
    put_put =
        let y = put_world k x w in
        ap₂ (λ (f : List ℕ) (m : Memory). context (shared_of x.state.turn v.state) f m v.times) table_put
        (ap (λ (c : ℕ). put_part c k y.slots v.slots) (put_cap x S k h w P) ∙ slots_put)

-- ---- an event of flow k

abbrev pub lifted : ℕ → Context → OneAnswered → Answered
lifted k x a = record { number = a.number; after = put_world k x a.after }

lift_decided : (k : ℕ) (x : Context) → put_world k x (world_at k x) ≡ x → (n : ℕ) (w : World)
    → decided n x (put_world k x w) ≡ lifted k x (oneDecided n (world_at k x) w)
unfolding oneDecided decided
lift_decided k x same n w =
    eq_both (λ (a : Answered). a ≡ lifted k x (oneDecided n (world_at k x) w)) n 0 _ _
    (λ z. ap (lifted k x) (eq_yes n 0 _ _ _ z refl))
    (λ z. ap (λ (y : Context). record { number = n; after = y }) (sym same) ∙ ap (lifted k x) (eq_no n 0 _ _ _ z refl))

-- the sender's event past number 2, by the number of its rows; a path choice too, once its EV is left out
past_decided : (e : Event) (w : World) → past_answer e w ≡ oneDecided (first_of (past_rows e w)) w (oneStep e w)
unfolding past_new_data past_send past_ack past_nack past_loss past_path oneDecided
past_decided (new_data time bytes) w = refl
past_decided (send time a) w = refl
past_decided (ack time a) w = refl
past_decided (nack time a) w = refl
past_decided (loss time a) w = refl
past_decided (path time) w =
    let n = first_of (path_rows time w.state) in
    eq_both (λ (r : OneRouting). record { number = r.number; after = r.after } ≡ oneDecided n w (oneStep (path time) w)) n 0 _ _
    (λ z. eq_yes n 0 _ _ _ z refl) (λ z. eq_no n 0 _ _ _ z refl)

module _ (k : ℕ) (e : Event) (x : Context) (l : k < flow_count x) where
  -- a flow in range: its own rows tell
  flow_one : (e : Event) → first_of (past_rows e (world_at k x)) ≡ first_of (with_flow_row k x (past_rows e (world_at k x)))
  flow_one (new_data time bytes) = flow_passed k x _ _ l
  flow_one (send time a) = flow_passed k x _ _ l
  flow_one (ack time a) = flow_passed k x _ _ l
  flow_one (nack time a) = flow_passed k x _ _ l
  flow_one (loss time a) = flow_passed k x _ _ l
  flow_one (path time) = flow_passed k x _ _ l

  module _ (h : sound_context x ≡ true) where
    rows_one : first_of (past_rows e (world_at k x)) ≡ first_of (rows_at k e x)
    rows_one =
        flow_one e
        ∙ first_later _ 2 (not (sound_context x)) (with_flow_row k x (past_rows e (world_at k x))) (ap not h) refl

    -- AN EVENT OF FLOW k is the sender's on what flow k sees, put back ..
    pub lift_step : answer_at k e x ≡ lifted k x (past_answer e (world_at k x))
    lift_step =
        answer_decided k e x
        ∙ ap (λ (n : ℕ). decided n x (step_at k e x)) (sym rows_one)
        ∙ lift_decided k x (put_same x (context_facts x h) k l) (first_of (past_rows e (world_at k x))) (oneStep e (world_at k x))
        ∙ ap (lifted k x) (sym (past_decided e (world_at k x)))

    -- .. and leaves a ring of flow k's length
    pub step_rings : Rings 1 (cap_in x) (past_answer e (world_at k x)).after.slots
    unfolding world_at
    step_rings =
        let S = context_facts x h in
        past_cases (λ a. Rings 1 (cap_in x) a.after.slots) e (world_at k x)
        (λ z. stepped_rings x S k (event_stepped k e x S (sym (flow_one e) ∙ z)))
        (λ n z. ring_lengths (flow_count x) (cap_in x) k x.slots S.cut l)

-- ---- a list of ACKs of flow k

pub record One (k : ℕ) (x after : Context) (w : World) : Type 0 where
  pub is : after ≡ put_world k x w
  pub rings : Rings 1 (cap_in x) w.slots

-- an ACK, and then the others
module _ (k : ℕ) (x : Context) (h : sound_context x ≡ true) (l : k < flow_count x) (d : Arrival) where
  abbrev pub after_one : World
  after_one = (past_ack d.time d.ack (world_at k x)).after

  pub one_after : (on_ack d.time k d.ack x).after ≡ put_world k x after_one
  one_after = ap (λ (a : Answered). a.after) (lift_step k (ack d.time d.ack) x l h)

  pub one_number : (on_ack d.time k d.ack x).number ≡ (past_ack d.time d.ack (world_at k x)).number
  one_number = ap (λ (a : Answered). a.number) (lift_step k (ack d.time d.ack) x l h)

  pub one_rings : Rings 1 (cap_in x) after_one.slots
  one_rings = step_rings k (ack d.time d.ack) x l h

  pub one_sound : sound_context (put_world k x after_one) ≡ true
  one_sound = ap sound_context (sym one_after) ∙ answer_lasts k (ack d.time d.ack) x h

  pub one_there : k < flow_count (put_world k x after_one)
  one_there = omega (arith, put_count x (context_facts x h) k l after_one one_rings)

  pub one_own : world_at k (put_world k x after_one) ≡ after_one
  one_own = own_world x (context_facts x h) k l after_one one_rings

pub deliver_one : (k : ℕ) (ds : List Arrival) (x : Context) → sound_context x ≡ true → k < flow_count x
    → One k x (deliver k x ds) (past_deliver (world_at k x) ds)
unfolding world_at
deliver_one k [] x h l =
    let S = context_facts x h in
    record { is = sym (put_same x S k l); rings = ring_lengths (flow_count x) (cap_in x) k x.slots S.cut l }
deliver_one k (d ∷ ds) x h l =
    let S = context_facts x h in
    let w = after_one k x h l d in
    let y = put_world k x w in
    let R = one_rings k x h l d in
    let I = deliver_one k ds y (one_sound k x h l d) (one_there k x h l d) in
    let J = subst (λ (v : World). One k y (deliver k y ds) (past_deliver v ds)) (one_own k x h l d) I in
    let Q = subst (λ (c : ℕ). Rings 1 c (past_deliver w ds).slots) (put_cap x S k l w R) J.rings in
    subst (λ (z : Context). One k x (deliver k z ds) (past_deliver w ds)) (sym (one_after k x h l d))
    (record { is = J.is ∙ put_put x S k l w R (past_deliver w ds) Q; rings = Q })
