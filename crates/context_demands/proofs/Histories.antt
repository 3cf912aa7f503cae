-- `history`: in-flight bytes are those sent, less those reported, less those taken out as lost, over the accepted events of all flows since
-- set-up. What is remembered of each flow agrees with its ledger along any run (`Agree`): an event is remembered of its own flow, and
-- changes no other flow's ledger. By what each event moves in-flight by (`history_among`).
-- Assumes nothing.
use mathlib.Core.Path.{◌≡◌, refl, sym, ap, ◌∙◌, subst}
use mathlib.Core.Logic.{by_cases, ◌≢◌}
use mathlib.Core.Bool.{true}
use mathlib.Core.List.{List, [], ◌∷◌}
use Prim.Native.Nat.{ℕ, ◌+◌, ◌<◌}
use native.Mathlib.Decide.{ℕ_discrete}
use native.Mathlib.Omega.{arith}
use lib.IntN.{ℤ, pos, ◌+ℤ◌, ◌-ℤ◌, +ℤ_assoc, +ℤ_comm, +ℤ_idr, +ℤ_idl, neg_ℤ-+ℤ}
use lib.ListN.{replicate, length-replicate, get_or-replicate}
use Rattle.rules.specs.Branch.{eq_yes, eq_no}
use Rattle.serial.specs.Psn.{psns}
use Rattle.serial.proofs.Wraps.{minus_self}
use Rattle.window.specs.declared.Settings.{Settings}
use Rattle.ledger.specs.Ring.{Ring, ledger, long_of}
use Rattle.ledger.specs.Memory.{Memory}
use Rattle.ledger.specs.declared.Flow.{Flow}
use Rattle.ledger.specs.declared.Totals.{Totals}
use Rattle.flow_table.specs.Words.{count_of, no_flow}
use Rattle.flow_table.specs.Parts.{Rings}
use Rattle.flow_table.proofs.Records.{words_count, words_flow}
use Rattle.sender.specs.World.{World, ledger_of}
use Rattle.sender.specs.Start.{fresh_flow}
use Rattle.sender.specs.Start.{fresh_state as freshSender}
use Rattle.context.specs.Context.{Context, Answered, flow_count, cap_in, flow_in, ring_in, joined_of, shared_of, world_at, put_world}
use Rattle.context.specs.Sound.{sound_context}
use Rattle.context.specs.Start.{fresh_state, fresh_table}
use Rattle.context.proofs.Sounds.{SoundContext, context_facts, others_of, one_among}
use Rattle.context.proofs.Puts.{put_count, other_flow, other_ring}
use Rattle.demands.specs.Events.{Event}
use Rattle.demands.specs.Sums.{Past, no_past, remember, sent_by, reported_by, lost_by}
use Rattle.demands.specs.Past.{past_answer, Agrees, moved}
use Rattle.demands.proofs.Histories.{history_among}
use Rattle.context_demands.specs.Events.{Flowed, answer_at, answer, run, SetUp}
use Rattle.context_demands.specs.Sums.{Pasts, no_pasts, remember_at, sum}
use Rattle.context_demands.specs.Demands.{History}
use Rattle.context_demands.proofs.Runs.{refused_same, accepted, event_stepped, set_up_fresh}
use Rattle.context_demands.proofs.Ones.{own_world, lift_step, step_rings}

-- what is remembered of each flow agrees with its ledger
abbrev Agree : Pasts → Context → Type 0
Agree ps x = (j : ℕ) → j < flow_count x → Agrees (ps j) (ledger_of (world_at j x))

-- which does not tell of the totals
agrees_with : {p : Past} {f g : Flow} {t u : Totals} {r q : Ring} → f ≡ g → r ≡ q → Agrees p (ledger f t r) → Agrees p (ledger g u q)
agrees_with e i A = rw (← e, ← i) (record { count_is = A.count_is; sizes = A.sizes })

-- ---- one event

module _ (k : ℕ) (e : Event) (x : Context) (ps : Pasts) (A : Agree ps x) (n : (answer_at k e x).number ≡ 0) where
  h : sound_context x ≡ true
  h = (accepted k e x n).sound_so

  S : SoundContext x
  S = context_facts x h

  l : k < flow_count x
  l = (event_stepped k e x S (accepted k e x n).none_refuses).there

  -- what flow k's step leaves
  abbrev w : World
  w = (past_answer e (world_at k x)).after

  R : Rings 1 (cap_in x) w.slots
  R = step_rings k e x l h

  left : (answer_at k e x).after ≡ put_world k x w
  left = ap (λ (a : Answered). a.after) (lift_step k e x l h)

  -- the step's own three numbers, and the flow's past
  one : (w.state.totals.in_flight
      ≡ moved (world_at k x).state.totals.in_flight (sent_by e (ps k)) (reported_by e (ps k)) (lost_by e (ps k)))
      × Agrees (remember e (ps k)) (ledger_of w)
  one =
      history_among (others_of k x) e (world_at k x) (ps k) (one_among x S k l) (A k l)
      (sym (ap (λ (a : Answered). a.number) (lift_step k e x l h)) ∙ n)

  -- an accepted event moves in-flight by them
  moves : (answer_at k e x).after.state.totals.in_flight
      ≡ moved x.state.totals.in_flight (sent_by e (ps k)) (reported_by e (ps k)) (lost_by e (ps k))
  unfolding put_world shared_of world_at joined_of
  moves = ap (λ (y : Context). y.state.totals.in_flight) left ∙ one.0

  -- and is remembered of its flow alone
  other : (j : ℕ) → j < flow_count x → j ≢ k → Agrees (ps j) (ledger_of (world_at j (put_world k x w)))
  unfolding world_at joined_of
  other j m ne = agrees_with (sym (other_flow x S k l w R j ne)) (sym (other_ring x S k l w R j ne)) (A j m)

  agree_put : Agree (remember_at k e ps) (put_world k x w)
  unfolding remember_at
  agree_put j m =
      by_cases (ℕ_discrete j k)
      (λ q.
      rw q (subst (λ (p : Past). Agrees p (ledger_of (world_at k (put_world k x w)))) (eq_yes k k _ _ _ refl refl)
      (rw (own_world x S k l w R) one.1)))
      (λ ne.
      subst (λ (p : Past). Agrees p (ledger_of (world_at j (put_world k x w)))) (eq_no j k _ _ _ ne refl)
      (other j (omega (arith, put_count x S k l w R)) ne))

  agree_step : Agree (remember_at k e ps) (answer_at k e x).after
  agree_step = subst (Agree (remember_at k e ps)) (sym left) agree_put

-- ---- sums

module _ (by : Event → Past → ℕ) (x : Context) (ps : Pasts) (e : Flowed) (es : List Flowed) where
  -- an accepted event adds its number, a refused one none
  sum_more : (answer e x).number ≡ 0 → sum by x ps (e ∷ es)
      ≡ by e.event (ps e.flow) + sum by (answer e x).after (remember_at e.flow e.event ps) es
  unfolding sum
  sum_more n = sym (eq_yes (answer e x).number 0 _ _ _ n refl)

  sum_same : ((answer e x).number ≡ 0 → ⊥) → sum by x ps (e ∷ es) ≡ sum by x ps es
  unfolding sum
  sum_same n = sym (eq_no (answer e x).number 0 _ _ _ n (ap (λ (y : Context). sum by y ps es) (sym (refused_same e x n))))

left_comm : (a b c : ℤ) → a +ℤ (b +ℤ c) ≡ b +ℤ (a +ℤ c)
left_comm a b c = sym (+ℤ_assoc a b c) ∙ ap (λ (k : ℤ). k +ℤ c) (+ℤ_comm a b) ∙ +ℤ_assoc b a c

-- one event's three numbers, and then the others'
moved_more : (z : ℤ) (a b c k m n : ℕ) → moved (moved z a b c) k m n ≡ moved z (a + k) (b + m) (c + n)
moved_more z a b c k m n = regroup z (pos a) (pos b) (pos c) (pos k) (pos m) (pos n)
  where
    regroup : (z s r l t q o : ℤ) → z +ℤ s -ℤ r -ℤ l +ℤ t -ℤ q -ℤ o ≡ z +ℤ (s +ℤ t) -ℤ (r +ℤ q) -ℤ (l +ℤ o)
    regroup z s r l t q o = simp (+ℤ_assoc, +ℤ_comm, left_comm, neg_ℤ-+ℤ)

-- ---- a run

sums : (es : List Flowed) (x : Context) (ps : Pasts) → Agree ps x
    → (run x es).state.totals.in_flight
    ≡ moved x.state.totals.in_flight (sum sent_by x ps es) (sum reported_by x ps es) (sum lost_by x ps es)
unfolding sum
sums [] x ps A = simp +ℤ_idr
sums (e ∷ es) x ps A =
    by_cases (ℕ_discrete (answer e x).number 0)
    (λ n.
    let y = (answer e x).after in
    let qs = remember_at e.flow e.event ps in
    let p = ps e.flow in
    let z = x.state.totals.in_flight in
    sums es y qs (agree_step e.flow e.event x ps A n)
    ∙ ap (λ (i : ℤ). moved i (sum sent_by y qs es) (sum reported_by y qs es) (sum lost_by y qs es)) (moves e.flow e.event x ps A n)
    ∙ moved_more z (sent_by e.event p) (reported_by e.event p) (lost_by e.event p) (sum sent_by y qs es) (sum reported_by y qs es)
    (sum lost_by y qs es)
    ∙ rw (sum_more sent_by x ps e es n, sum_more reported_by x ps e es n, sum_more lost_by x ps e es n))
    (λ n.
    ap (λ (y : Context). (run y es).state.totals.in_flight) (refused_same e x n)
    ∙ sums es x ps A
    ∙ rw (sum_same sent_by x ps e es n, sum_same reported_by x ps e es n, sum_same lost_by x ps e es n))

-- ---- from set-up on

-- nothing is remembered, every flow's queue is empty, and nothing is in flight
module _ {s : Settings} {flows : List ℕ} {m : Memory} {times : List ℕ} {x : Context} (U : SetUp s flows m times x) where
  begun_table : x.flows ≡ fresh_table s.first_psn flows
  begun_table = ap (λ (y : Context). y.flows) (U.gives ∙ set_up_fresh s flows m times U.accepted)

  begun_flow : (j : ℕ) → j < flow_count x → flow_in x j ≡ fresh_flow s.first_psn
  unfolding fresh_table
  begun_flow j h =
      let f = fresh_flow s.first_psn in
      let n = words_count (replicate (count_of flows) f) ∙ length-replicate (count_of flows) f in
      rw begun_table
      (words_flow (replicate (count_of flows) f) j ∙ get_or-replicate (count_of flows) j f no_flow (omega (arith, ap count_of begun_table, n)))

  agree_fresh : Agree no_pasts x
  unfolding world_at joined_of long_of
  agree_fresh j h =
      let psn = s.first_psn in
      let F : Agrees no_past (ledger (fresh_flow psn) x.state.totals (ring_in x j)) = record {
        count_is = refl;
        sizes = λ k i. absurd (let z : ⊥ = omega (arith, minus_self psns psn (omega arith)) in z);
      } in
      agrees_with (sym (begun_flow j h)) refl F

  fresh_empty : x.state.totals.in_flight ≡ pos 0
  unfolding fresh_state freshSender shared_of
  fresh_empty = ap (λ (y : Context). y.state.totals.in_flight) (U.gives ∙ set_up_fresh s flows m times U.accepted)

-- DEMAND 2: in-flight bytes equal sent less reported less taken out as lost, over all flows, summed from set-up on
pub history : History
history s flows m times x es U =
    sums es x no_pasts (agree_fresh U)
    ∙ ap (λ (z : ℤ). moved z (sum sent_by x no_pasts es) (sum reported_by x no_pasts es) (sum lost_by x no_pasts es)) (fresh_empty U)
    ∙ simp +ℤ_idl
