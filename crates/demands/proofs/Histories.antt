-- `history_among`: each accepted event of one flow among others moves in-flight by its own three numbers (`moves`), which the past that
-- agrees with the ledger gives. `sums_among`: so over a list of events, by induction. `history`: of a flow by itself in-flight bytes are
-- those sent, less those reported, less those taken out as lost, over the accepted events since set-up.
-- Assumes nothing.
use mathlib.Core.Path.{◌≡◌, refl, sym, ap, ap₂, ◌∙◌}
use mathlib.Core.Logic.{by_cases}
use mathlib.Core.Bool.{true}
use mathlib.Core.List.{List, [], ◌∷◌}
use Prim.Native.Nat.{ℕ, ◌+◌, ◌%◌}
use native.Mathlib.Decide.{ℕ_discrete}
use native.Mathlib.Omega.{arith}
use lib.IntN.{ℤ, pos, ◌+ℤ◌, ◌-ℤ◌, +ℤ_assoc, +ℤ_comm, +ℤ_idr, +ℤ_idl, neg_ℤ-+ℤ}
use Rattle.rules.specs.Branch.{if_eq, so_both, eq_yes, eq_no}
use Rattle.rules.specs.Rows.{first_of}
use Rattle.serial.specs.Psn.{psns}
use Rattle.window.specs.declared.Settings.{Settings}
use Rattle.ledger.specs.Ring.{Ledger, packet_of}
use Rattle.ledger.specs.Memory.{Memory}
use Rattle.ledger.specs.Rows.{mark_rows}
use Rattle.ledger.specs.Sound.{alone}
use Rattle.ledger.specs.Steps.{supplied_totals, push_of, resend_of, mark_of, acknowledge_of}
use Rattle.ledger.proofs.Judging.{resend_facts, mark_facts}
use Rattle.ledger.proofs.Sends.{flies}
use Rattle.sender.specs.World.{World, Answered, ring_of, ledger_of}
use Rattle.sender.specs.Sound.{sound}
use Rattle.sender.specs.Start.{fresh_state}
use Rattle.sender.proofs.Starts.{set_up_fresh}
use Rattle.sender.proofs.Stepping.{send_facts, nack_facts, loss_facts}
use Rattle.demands.specs.Events.{Event, new_data, send, ack, nack, loss, path, answer, SetUp}
use Rattle.demands.specs.Sums.{Past, no_past, remember, sent_by, reported_by, lost_by, sum}
use Rattle.demands.specs.Demands.{History}
use Rattle.demands.specs.Past.{past_rows, past_answer, past_run, past_sum, Agrees, moved, HistoryAmong, SumsAmong}
use Rattle.demands.proofs.Runs.{ledger_step, past_accepted, past_refused, past_answer_lem}
use Rattle.demands.proofs.Sounded.{step_ledger, past_lasts, answer_sound, past_run_lem, start_sound}
use Rattle.demands.proofs.Pasts.{agrees_step, agrees_fresh, size_remembered}

-- ---- what one event moves

-- a NACK or a loss: the packet flies, and its size is what the past remembers
marked_moves : (p : Past) (l : Ledger) (psn : ℕ) → first_of (mark_rows l.flow l.totals.in_flight l.slots psn) ≡ 0 → Agrees p l
    → (mark_of psn l).totals.in_flight ≡ moved l.totals.in_flight 0 0 (p.bytes (psn % psns))
unfolding mark_of
marked_moves p l psn rows A =
    let x = packet_of l.flow l.slots psn in
    let flying = flies x (mark_facts l.flow l.totals.in_flight l.slots psn rows).0 in
    rw (size_remembered p l psn A (omega arith)) (simp +ℤ_idr)

-- an accepted event moves in-flight by what it sends, reports and takes out as lost
moves : (e : Event) (w : World) (p : Past) → first_of (past_rows e w) ≡ 0 → Agrees p (ledger_of w)
    → (ledger_step e (ledger_of w)).totals.in_flight ≡ moved w.state.totals.in_flight (sent_by e p) (reported_by e p) (lost_by e p)
unfolding sent_by reported_by lost_by supplied_totals push_of resend_of acknowledge_of
moves (new_data time bytes) w p rows A = simp +ℤ_idr
moves (send time a) w p rows A =
    let z = w.state.totals.in_flight in
    let S = send_facts time a w.state (ring_of w) rows in
    so_both (λ (l : Ledger). l.totals.in_flight ≡ moved z a.size 0 0) a.resend _ _
    (λ again.
    let size_is = (resend_facts w.state.flow (ring_of w) a.psn a.size (rw again at S.rows)).1 in
    rw (← size_is) (simp +ℤ_idr))
    (λ new. simp +ℤ_idr)
moves (ack time a) w p rows A = rw A.count_is (simp +ℤ_idr)
moves (nack time a) w p rows A = marked_moves p (ledger_of w) a.psn (nack_facts time a w.state (ring_of w) rows).rows A
moves (loss time a) w p rows A = marked_moves p (ledger_of w) a.psn (loss_facts time a w.state (ring_of w) rows).rows A
moves (path time) w p rows A = simp +ℤ_idr

pub history_among : HistoryAmong
history_among o e w p h A n =
    let T = past_accepted e w n in
    let l : ledger_of (past_answer e w).after ≡ ledger_step e (ledger_of w) = ap ledger_of T.1 ∙ step_ledger o e w h T.0 in
    (ap (λ (m : Ledger). m.totals.in_flight) l ∙ moves e w p T.0 A, rw l (agrees_step o e w p h T.0 A))

-- ---- sums

module _ (by : Event → Past → ℕ) (w : World) (p : Past) (e : Event) (es : List Event) where
  -- an accepted event adds its number, a refused one none
  sum_more : (past_answer e w).number ≡ 0 → past_sum by w p (e ∷ es) ≡ by e p + past_sum by (past_answer e w).after (remember e p) es
  unfolding past_sum
  sum_more n = sym (eq_yes (past_answer e w).number 0 _ _ _ n refl)

  sum_same : ((past_answer e w).number ≡ 0 → ⊥) → past_sum by w p (e ∷ es) ≡ past_sum by w p es
  unfolding past_sum
  sum_same n = sym (eq_no (past_answer e w).number 0 _ _ _ n (ap (λ (x : World). past_sum by x p es) (sym (past_refused e w n))))

left_comm : (a b c : ℤ) → a +ℤ (b +ℤ c) ≡ b +ℤ (a +ℤ c)
left_comm a b c = sym (+ℤ_assoc a b c) ∙ ap (λ (k : ℤ). k +ℤ c) (+ℤ_comm a b) ∙ +ℤ_assoc b a c

-- one event's three numbers, and then the others'
moved_more : (z : ℤ) (a b c k m n : ℕ) → moved (moved z a b c) k m n ≡ moved z (a + k) (b + m) (c + n)
moved_more z a b c k m n = regroup z (pos a) (pos b) (pos c) (pos k) (pos m) (pos n)
  where
    regroup : (z s r l t q o : ℤ) → z +ℤ s -ℤ r -ℤ l +ℤ t -ℤ q -ℤ o ≡ z +ℤ (s +ℤ t) -ℤ (r +ℤ q) -ℤ (l +ℤ o)
    regroup z s r l t q o = simp (+ℤ_assoc, +ℤ_comm, left_comm, neg_ℤ-+ℤ)

-- ---- a run

pub sums_among : SumsAmong
unfolding past_sum
sums_among o w p [] h A = simp +ℤ_idr
sums_among o w p (e ∷ es) h A =
    by_cases (ℕ_discrete (past_answer e w).number 0)
    (λ n.
    let after = (past_answer e w).after in
    let q = remember e p in
    let z = w.state.totals.in_flight in
    let S = history_among o e w p h A n in
    sums_among o after q es (past_lasts o e w h) S.1
    ∙ ap (λ (x : ℤ). moved x (past_sum sent_by after q es) (past_sum reported_by after q es) (past_sum lost_by after q es)) S.0
    ∙ moved_more z (sent_by e p) (reported_by e p) (lost_by e p) (past_sum sent_by after q es) (past_sum reported_by after q es)
    (past_sum lost_by after q es)
    ∙ rw (sum_more sent_by w p e es n, sum_more reported_by w p e es n, sum_more lost_by w p e es n))
    (λ n.
    ap (λ (x : World). (past_run x es).state.totals.in_flight) (past_refused e w n)
    ∙ sums_among o w p es h A
    ∙ rw (sum_same sent_by w p e es n, sum_same reported_by w p e es n, sum_same lost_by w p e es n))

-- ---- a flow by itself: with the tests of number 2

past_sum_lem : (by : Event → Past → ℕ) (es : List Event) (w : World) (p : Past) → sound w ≡ true → past_sum by w p es ≡ sum by w p es
unfolding past_sum sum
past_sum_lem by [] w p h = refl
past_sum_lem by (e ∷ es) w p h =
    let v = (answer e w).after in
    let K = answer_sound e w h in
    ap (λ (x : Answered). if_eq x.number 0 (by e p + past_sum by x.after (remember e p) es) (past_sum by x.after p es))
    (past_answer_lem e w h)
    ∙ ap₂ (λ (m n : ℕ). if_eq (answer e w).number 0 (by e p + m) n) (past_sum_lem by es v (remember e p) K) (past_sum_lem by es v p K)

-- nothing is in flight at the start
fresh_empty : {s : Settings} {m : Memory} {times : List ℕ} {w : World} → SetUp s m times w → w.state.totals.in_flight ≡ pos 0
unfolding fresh_state
fresh_empty {s} {m} {times} {w} U = rw (U.gives, (set_up_fresh s m times U.accepted).2)

-- DEMAND 2: in-flight bytes equal sent less reported less taken out as lost, summed from set-up on
pub history : History
history s m times w es U =
    let h = start_sound U in
    ap (λ (x : World). x.state.totals.in_flight) (sym (past_run_lem es w h))
    ∙ sums_among alone w no_past es h (agrees_fresh U)
    ∙ rw (past_sum_lem sent_by es w no_past h, past_sum_lem reported_by es w no_past h, past_sum_lem lost_by es w no_past h)
    (ap (λ (z : ℤ). moved z (sum sent_by w no_past es) (sum reported_by w no_past es) (sum lost_by w no_past es)) (fresh_empty U) ∙ simp +ℤ_idl)
