-- A send that the planner proposes, written into the plan: the sends before it are as they were (`planned_kept`) and it is the plan's next
-- (`planned_put`), so what is kept follows the context that it leaves (`follows_after`).
-- Assumes nothing.
use mathlib.Core.Path.{◌≡◌, refl, sym, ap, ap₂, ◌∙◌}
use mathlib.Core.Logic.{by_cases}
use mathlib.Core.Bool.{Bool, true, false, not, ◌&&◌, ◌||◌}
use mathlib.Core.List.{List, [], ◌∷◌, ◌++◌}
use Prim.Native.Nat.{ℕ, zero, suc, ◌+◌, ◌*◌, ◌%◌, ◌≤◌, ◌<◌}
use native.Mathlib.Decide.{ℕ_discrete}
use native.Mathlib.Nat.{mod-eq_of_lt}
use native.Mathlib.Omega.{arith}
use lib.Dec.{eqb}
use lib.ListN.{length, get_or, set, length-set, length-replicate}
use lib.Seq.{get_or-set_same, get_or-set_other}
use borrow.Author.Tests.{eq-eqb, ne_eqb}
use Rattle.std.proofs.lemmas.Bool.{and_right}
use Rattle.rules.specs.Branch.{so_yes, so_both, eq_both}
use Rattle.rules.specs.Mode.{mode_of}
use Rattle.serial.specs.Psn.{psns, plus}
use Rattle.serial.proofs.Cover.{plus_lt}
use Rattle.ledger.specs.Ring.{long_of, offset_of}
use Rattle.ledger.specs.declared.Flow.{Flow}
use Rattle.flow_table.specs.Words.{flows_most, no_flow}
use Rattle.flow_table.specs.declared.lent.Flows.{Flows}
use Rattle.context.specs.Context.{Context, flow_count, flow_in, ring_in, shared_of, put_world}
use Rattle.context.specs.Sound.{sound_context}
use Rattle.context.specs.Events.{send_left}
use Rattle.context.specs.Look.{packet_in}
use Rattle.context.specs.Turns.{with_turn, with_turn_of}
use Rattle.context.proofs.Sounds.{SoundContext, context_facts, flow_facts}
use Rattle.plan.specs.Plan.{send_words, send_count, plan_place, flow_place, resend_place, psn_place, size_place, planned_at}
use Rattle.plan.specs.Plan.{with_send, written}
use Rattle.plan.specs.Ahead.{is_again, again_to, waits_as}
use Rattle.plan.specs.Course.{waiting_from, waits_to, course_of, wait_by, send_by, waits_after, course_after}
use Rattle.plan.specs.declared.Planned.{Planned}
use Rattle.plan.specs.declared.ahead.Ahead.{Ahead}
use Rattle.plan.specs.declared.course.Course.{Course}
use Rattle.plan.proofs.Agrees.{Agrees}
use Rattle.plan.proofs.Seeks.{differs, Seeks, behind, seeks_start, seeks_like, seeks_after}
use Rattle.plan.proofs.Courses.{Follows, low_zero, first_sought, waits_so}

-- ---- a send written into the plan

module _ (ws : List ℕ) (i : ℕ) (p : Planned) where
  abbrev w₁ : List ℕ
  w₁ = set ws (plan_place i flow_place) p.flow

  abbrev w₂ : List ℕ
  w₂ = set w₁ (plan_place i resend_place) (mode_of p.send.resend)

  abbrev w₃ : List ℕ
  w₃ = set w₂ (plan_place i psn_place) p.send.psn

  pub with_length : length (with_send ws i p) ≡ length ws
  unfolding with_send
  with_length = simp length-set

  -- a number that is none of send i's is as it was
  with_other : (j : ℕ) → (j < send_words * i) → get_or (with_send ws i p) j 0 ≡ get_or ws j 0
  unfolding with_send
  with_other j h =
      get_or-set_other w₃ (plan_place i size_place) j _ 0 (apart size_place) ∙ get_or-set_other w₂ (plan_place i psn_place) j _ 0 (apart psn_place)
      ∙ get_or-set_other w₁ (plan_place i resend_place) j _ 0 (apart resend_place)
      ∙ get_or-set_other ws (plan_place i flow_place) j _ 0 (apart flow_place)
    where
      apart : (place : ℕ) → j ≡ plan_place i place → ⊥
      apart place e = omega arith

  -- an earlier send is
  pub planned_kept : (j : ℕ) → j < i → planned_at (with_send ws i p) j ≡ planned_at ws j
  unfolding planned_at
  planned_kept j h =
      rw (
        with_other (plan_place j flow_place) (omega arith),
        with_other (plan_place j resend_place) (omega arith),
        with_other (plan_place j psn_place) (omega arith),
        with_other (plan_place j size_place) (omega arith),
      )

  pub again_kept : (n k psn : ℕ) → n ≤ i → again_to (with_send ws i p) n k psn ≡ again_to ws n k psn
  unfolding again_to
  again_kept zero k psn h = refl
  again_kept (suc n) k psn h =
      ap₂ (λ (b : Bool) (q : Planned). b || is_again q k psn) (again_kept n k psn (omega arith)) (planned_kept n (omega arith))

  -- send i is p
  module _ (h : i < send_count ws) (fits : p.send.psn < psns) where
    long₁ : length w₁ ≡ length ws
    long₁ = length-set ws (plan_place i flow_place) p.flow

    long₂ : length w₂ ≡ length ws
    long₂ = length-set w₁ (plan_place i resend_place) (mode_of p.send.resend) ∙ long₁

    long₃ : length w₃ ≡ length ws
    long₃ = length-set w₂ (plan_place i psn_place) p.send.psn ∙ long₂

    flow_put : get_or (with_send ws i p) (plan_place i flow_place) 0 ≡ p.flow
    unfolding with_send
    flow_put =
        get_or-set_other w₃ _ _ _ 0 (λ e. omega arith) ∙ get_or-set_other w₂ _ _ _ 0 (λ e. omega arith)
        ∙ get_or-set_other w₁ _ _ _ 0 (λ e. omega arith) ∙ get_or-set_same ws _ _ 0 (omega arith)

    resend_put : get_or (with_send ws i p) (plan_place i resend_place) 0 ≡ mode_of p.send.resend
    unfolding with_send
    resend_put =
        get_or-set_other w₃ _ _ _ 0 (λ e. omega arith) ∙ get_or-set_other w₂ _ _ _ 0 (λ e. omega arith)
        ∙ get_or-set_same w₁ _ _ 0 (omega (arith, long₁))

    psn_put : get_or (with_send ws i p) (plan_place i psn_place) 0 ≡ p.send.psn
    unfolding with_send
    psn_put = get_or-set_other w₃ _ _ _ 0 (λ e. omega arith) ∙ get_or-set_same w₂ _ _ 0 (omega (arith, long₂))

    size_put : get_or (with_send ws i p) (plan_place i size_place) 0 ≡ p.send.size
    unfolding with_send
    size_put = get_or-set_same w₃ _ _ 0 (omega (arith, long₃))

    mode_back : (b : Bool) → not (eqb (mode_of b) 0) ≡ b
    unfolding mode_of
    mode_back true = refl
    mode_back false = refl

    pub planned_put : planned_at (with_send ws i p) i ≡ p
    unfolding planned_at
    planned_put =
        let back : get_or (with_send ws i p) (plan_place i psn_place) 0 % psns ≡ p.send.psn =
        ap (λ (n : ℕ). n % psns) psn_put ∙ mod-eq_of_lt fits in
        let new : not (eqb (get_or (with_send ws i p) (plan_place i resend_place) 0) 0) ≡ p.send.resend =
        ap (λ (n : ℕ). not (eqb n 0)) resend_put ∙ mode_back p.send.resend in
        rw (flow_put, back, size_put, new)

-- a plan with one send more
pub written_more : (ws : List ℕ) (i : ℕ) (ps : List Planned) (p : Planned)
    → written ws i (ps ++ (p ∷ [])) ≡ with_send (written ws i ps) (i + length ps) p
unfolding written
written_more ws i [] p = let e : i ≡ i + 0 = omega arith in ap (λ (n : ℕ). with_send ws n p) e
written_more ws i (q ∷ ps) p =
    let e : suc i + length ps ≡ i + suc (length ps) = omega arith in
    written_more (with_send ws i q) (suc i) ps p ∙ ap (λ (n : ℕ). with_send (written (with_send ws i q) (suc i) ps) n p) e

-- ---- before the first send

module _ (x : Context) (S : SoundContext x) where
  waits_length : (n : ℕ) → length (waits_to x n).at ≡ flows_most
  unfolding waits_to
  waits_length zero = length-replicate flows_most no_flow
  waits_length (suc n) = length-set (waits_to x n).at n _ ∙ waits_length n

  waits_at : (n k : ℕ) → k < n → n ≤ flows_most → get_or (waits_to x n).at k no_flow ≡ waiting_from k (flow_in x k).low x
  unfolding waits_to
  waits_at zero k h few = absurd (let z : ⊥ = omega arith in z)
  waits_at (suc n) k h few =
      by_cases (ℕ_discrete k n)
      (λ e. rw e (get_or-set_same (waits_to x n).at n _ no_flow (omega (arith, waits_length n))))
      (λ ne. get_or-set_other (waits_to x n).at n k _ no_flow ne ∙ waits_at n k (omega arith) (omega arith))

  pub follows_start : (ws : List ℕ) → Follows x ws 0 (course_of x) x
  unfolding course_of waiting_from again_to
  follows_start ws =
      record {
        turn_same = refl;
        room = waits_length (flow_count x);
        next_same = λ k h. ap (λ (f : Flow). f.next) (waits_at (flow_count x) k h S.table.few);
        seeks =
            λ k h.
            let G = flow_facts x S k h in
            rw (waits_at (flow_count x) k h S.table.few)
            (seeks_start (flow_in x k) (ring_in x k) (low_zero (flow_in x k)) (λ psn. refl)
            (first_sought x S k h (flow_in x k).low G.low_psn (omega (arith, low_zero (flow_in x k)))));
      }

-- ---- a turn, and its send

-- whatever the turn, what is kept agrees
pub agrees_turn : {time : ℕ} {x₀ : Context} {ws : List ℕ} {i : ℕ} {s : Ahead} {x : Context} (turn : ℕ)
    → sound_context (with_turn_of turn x) ≡ true → Agrees time x₀ ws i s x → Agrees time x₀ ws i s (with_turn_of turn x)
unfolding with_turn
agrees_turn turn lasts A =
    record {
      sound = lasts;
      settings = A.settings;
      window = A.window;
      clock = A.clock;
      in_time = A.in_time;
      count = A.count;
      cap = A.cap;
      room = A.room;
      flows = A.flows;
      lows = A.lows;
      in_flight = A.in_flight;
      waiting = A.waiting;
    }

-- and by whatever stands behind the plan's first sends
pub agrees_put : {time : ℕ} {x₀ : Context} {ws : List ℕ} {i : ℕ} {s : Ahead} {x : Context} (p : Planned)
    → Agrees time x₀ ws i s x → Agrees time x₀ (with_send ws i p) i s x
agrees_put {x₀ = x₀} {ws = ws} {i = i} p A =
    record {
      sound = A.sound;
      settings = A.settings;
      window = A.window;
      clock = A.clock;
      in_time = A.in_time;
      count = A.count;
      cap = A.cap;
      room = A.room;
      flows = A.flows;
      lows = A.lows;
      in_flight = A.in_flight;
      waiting =
          λ k psn size h l.
          A.waiting k psn size h l
          ∙ ap (λ (b : Bool). waits_as size (packet_in k psn x₀) && not b) (sym (again_kept ws i p i k psn (omega arith)));
    }

-- the records that wait after a send: its flow's where it was sent again
module _ (x₀ : Context) (s : Course) (p : Planned) (room : length s.waits.at ≡ flows_most) (k-in : p.flow < flows_most) where
  waits_room : length (course_after x₀ s p).waits.at ≡ flows_most
  unfolding course_after waits_after
  waits_room =
      so_both (λ (fs : Flows). length fs.at ≡ flows_most) p.send.resend _ _ (λ _. length-set s.waits.at p.flow _ ∙ room)
      (λ _. room)

  waits_own : p.send.resend ≡ true
      → wait_by (course_after x₀ s p) p.flow ≡ waiting_from p.flow (plus p.send.psn 1) x₀
  unfolding course_after waits_after
  waits_own r =
      sym (ap (λ (fs : Flows). get_or fs.at p.flow no_flow) (so_yes p.send.resend _ _ _ r refl))
      ∙ get_or-set_same s.waits.at p.flow _ no_flow (omega (arith, room))

  waits_same : (j : ℕ) → (p.send.resend ≡ true → j ≡ p.flow → ⊥) → wait_by (course_after x₀ s p) j ≡ wait_by s j
  unfolding course_after waits_after
  waits_same j ne =
      so_both (λ (fs : Flows). get_or fs.at j no_flow ≡ wait_by s j) p.send.resend _ _
      (λ r. get_or-set_other s.waits.at p.flow j _ no_flow (ne r)) (λ _. refl)

or_false : (b c : Bool) → c ≡ false → (b || c) ≡ b
or_false true c e = refl
or_false false c e = e

-- a send that the planner proposes
module _ {time : ℕ} {x₀ : Context} {ws : List ℕ} {i : ℕ} {s : Course} {x : Context} (S₀ : SoundContext x₀)
    (A : Agrees time x₀ ws i s.ahead x) (F : Follows x₀ ws i s x) (size k : ℕ) (h : k < flow_count x₀) where
  abbrev p : Planned
  p = send_by x₀ s size k

  pub send_flow : p.flow ≡ k
  unfolding send_by
  send_flow = eq_both (λ (q : Planned). q.flow ≡ k) (wait_by s k).low (wait_by s k).next _ _ (λ _. refl) (λ _. refl)

  pub send_psn : p.send.psn < psns
  unfolding send_by
  send_psn =
      let next = (flow_facts x (context_facts x A.sound) k (omega (arith, A.count))).next_psn in
      eq_both (λ (q : Planned). q.send.psn < psns) (wait_by s k).low (wait_by s k).next _ _
      (λ _. rw (A.flows k h) next) (λ _. (F.seeks k h).fits)

  -- a resend is of the packet that waits
  resend_psn : p.send.resend ≡ true → (p.send.psn ≡ (wait_by s k).low) × (offset_of (flow_in x₀ k) (wait_by s k).low < long_of (flow_in x₀ k))
  unfolding send_by
  resend_psn =
      eq_both (λ (q : Planned). q.send.resend ≡ true
      → (q.send.psn ≡ (wait_by s k).low) × (offset_of (flow_in x₀ k) (wait_by s k).low < long_of (flow_in x₀ k)))
      (wait_by s k).low (wait_by s k).next _ _ (λ _ r. absurd (differs r refl)) (λ ne _. (refl, waits_so S₀ A F k h ne))

  module _ (l : i < send_count ws) where
    abbrev put : List ℕ
    put = with_send ws i p

    again_more : (j psn : ℕ) → again_to put (suc i) j psn ≡ (again_to ws i j psn || is_again p j psn)
    unfolding again_to
    again_more j psn =
        ap₂ (λ (b : Bool) (q : Planned). b || is_again q j psn) (again_kept ws i p i j psn (omega arith)) (planned_put ws i p l send_psn)

    again_own : p.send.resend ≡ true → (psn : ℕ) → is_again p k psn ≡ eqb (wait_by s k).low psn
    unfolding is_again
    again_own r psn =
        ap₂ (λ (b : Bool) (f : ℕ). b && eqb f k && eqb p.send.psn psn) r send_flow
        ∙ ap₂ (λ (b : Bool) (q : ℕ). b && eqb q psn) (eq-eqb k k refl) (resend_psn r).0

    again_other : (j psn : ℕ) → (p.send.resend ≡ true → j ≡ k → ⊥) → is_again p j psn ≡ false
    unfolding is_again
    again_other j psn ne = by p.send.resend refl
      where
        by : (b : Bool) → p.send.resend ≡ b → (p.send.resend && eqb p.flow j && eqb p.send.psn psn) ≡ false
        by false r = ap (λ (b : Bool). b && eqb p.flow j && eqb p.send.psn psn) r
        by true r =
            ap (λ (b : Bool). b && eqb p.send.psn psn)
            (and_right p.send.resend _ (ap (λ (f : ℕ). eqb f j) send_flow ∙ ne_eqb k j (λ q. ne r (sym q))))

    -- what waits of flow j afterwards
    abbrev Waits : ℕ → Course → Type 0
    Waits j t =
        ((wait_by t j).next ≡ (flow_in x₀ j).next) × Seeks (flow_in x₀ j) (ring_in x₀ j) (again_to put (suc i) j) (wait_by t j).low

    few : p.flow < flows_most
    few = omega (arith, send_flow, S₀.table.few)

    waits_other : (j : ℕ) → j < flow_count x₀ → (p.send.resend ≡ true → j ≡ k → ⊥) → Waits j (course_after x₀ s p)
    waits_other j hj ne =
        rw (waits_same x₀ s p F.room few j (λ r q. ne r (q ∙ send_flow))) (
          F.next_same j hj,
          seeks_like (flow_in x₀ j) (ring_in x₀ j) (λ psn. again_more j psn ∙ or_false _ _ (again_other j psn ne)) (F.seeks j hj),
        )

    waits_next : p.send.resend ≡ true → Waits k (course_after x₀ s p)
    unfolding waiting_from
    waits_next r =
        let seek = (wait_by s k).low in
        let f = flow_in x₀ k in
        let G = flow_facts x₀ S₀ k h in
        let T = F.seeks k h in
        let in-long = (resend_psn r).1 in
        let one : offset_of f (plus seek 1) ≡ offset_of f seek + 1 =
        behind f (ring_in x₀ k) G.next_psn (omega (arith, G.fits, G.even.few)) seek T.fits T.within 1 (omega arith) in
        let own : wait_by (course_after x₀ s p) k ≡ waiting_from k (plus seek 1) x₀ =
        ap (wait_by (course_after x₀ s p)) (sym send_flow) ∙ waits_own x₀ s p F.room few r
        ∙ ap₂ (λ (j q : ℕ). waiting_from j (plus q 1) x₀) send_flow (resend_psn r).0 in
        rw own (
          refl,
          seeks_like f (ring_in x₀ k) (λ psn. again_more k psn ∙ ap (λ (b : Bool). again_to ws i k psn || b) (again_own r psn))
              (seeks_after f (ring_in x₀ k) T one (first_sought x₀ S₀ k h (plus seek 1) (plus_lt seek 1) (omega (arith, one)))),
        )

    waits_all : (j : ℕ) → j < flow_count x₀ → Waits j (course_after x₀ s p)
    waits_all j hj = by p.send.resend refl
      where
        by : (b : Bool) → p.send.resend ≡ b → Waits j (course_after x₀ s p)
        by false r = waits_other j hj (λ q. absurd (differs q r))
        by true r = by_cases (ℕ_discrete j k) (λ e. rw e (waits_next r)) (λ ne. waits_other j hj (λ _. ne))

    pub follows_after : (y : Context) → y.state.turn ≡ (k + 1) % flow_count x₀
        → Follows x₀ put (suc i) (course_after x₀ s p) (send_left time p.flow p.send y)
    unfolding course_after put_world shared_of
    follows_after y at =
        record {
          turn_same = ap (λ (j : ℕ). (j + 1) % flow_count x₀) send_flow ∙ sym at;
          room = waits_room x₀ s p F.room few;
          next_same = λ j hj. (waits_all j hj).0;
          seeks = λ j hj. (waits_all j hj).1;
        }
