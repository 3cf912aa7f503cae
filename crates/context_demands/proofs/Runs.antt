-- Events one by one: an event that no row refuses leaves its step, any other the context as it was (`answer_cases`). So demand 1 and the
-- rules of demand 2. Each event leaves a sound context sound, so a run from an accepted set-up does (`always_sound`).
-- Assumes nothing.
use mathlib.Core.Path.{◌≡◌, refl, sym, ap, ◌∙◌, subst}
use mathlib.Core.Bool.{true, not}
use mathlib.Core.List.{List, [], ◌∷◌}
use Prim.Native.Nat.{ℕ}
use native.Mathlib.Omega.{arith}
use borrow.Author.Tests.{not-false}
use Rattle.rules.specs.Branch.{eq_yes, eq_no, eq_both}
use Rattle.rules.specs.Rows.{first_of, none_here}
use Rattle.window.specs.declared.Settings.{Settings}
use Rattle.ledger.specs.Memory.{Memory}
use Rattle.sender.specs.World.{view_of}
use Rattle.sender.specs.Statements.{Exact}
use Rattle.sender.specs.Start.{no_settings}
use Rattle.sender.specs.Steps.{route_of}
use Rattle.sender.proofs.Rowing.{answer_number}
use Rattle.context.specs.Context.{Context, context, Answered, Routing, world_at}
use Rattle.context.specs.Sound.{sound_context}
use Rattle.context.specs.Rows.{with_flow_row, with_sound}
use Rattle.context.specs.Events.{decided, chosen, path_of, path_left, on_new_data, on_send, on_ack, on_nack, on_loss, on_path}
use Rattle.context.specs.Start.{set_up_rows, fresh_state, on_set_up}
use Rattle.context.proofs.Sounds.{SoundContext, context_facts}
use Rattle.context.proofs.Kept.{Stepped, new_data_stepped, send_stepped, ack_stepped, nack_stepped, loss_stepped, path_stepped}
use Rattle.context.proofs.Kept.{new_data_lasts, send_lasts, ack_lasts, nack_lasts, loss_lasts, path_lasts}
use Rattle.context.proofs.Starts.{set_up_sound}
use Rattle.context.proofs.Starts as starts
use Rattle.demands.specs.Events.{Event, new_data, send, ack, nack, loss, path, view_step}
use Rattle.demands.specs.Past.{past_rows}
use Rattle.context_demands.specs.Events.{Flowed, rows_at, answer_at, answer, step_at, run, SetUp}
use Rattle.context_demands.specs.Demands.{NumberExact, SetUpExact, RefusedSame, SetUpRefused, RulesHold, PathTaken, SetUpFresh}
use Rattle.context_demands.specs.Demands.{AlwaysSound, CwndBetween}
use Rattle.context_demands.proofs.Exactly.{some, rows_exact, rows_some}

-- ---- an event's answer, by the number of its rows

-- a path choice too, once its EV is left out
route_decided : (n ev : ℕ) (x after : Context)
    → record { number = (chosen n ev x after).number; after = (chosen n ev x after).after } ≡ decided n x after
unfolding chosen decided
route_decided n ev x after =
    eq_both (λ (r : Routing). record { number = r.number; after = r.after } ≡ decided n x after) n 0 _ _
    (λ z. eq_yes n 0 _ _ _ z refl) (λ z. eq_no n 0 _ _ _ z refl)

pub answer_decided : (k : ℕ) (e : Event) (x : Context) → answer_at k e x ≡ decided (first_of (rows_at k e x)) x (step_at k e x)
unfolding on_new_data on_send on_ack on_nack on_loss on_path
answer_decided k (new_data time bytes) x = refl
answer_decided k (send time a) x = refl
answer_decided k (ack time a) x = refl
answer_decided k (nack time a) x = refl
answer_decided k (loss time a) x = refl
answer_decided k (path time) x = route_decided (first_of (with_sound x (path_of time k x))) _ x (path_left time k x)

pub decided_number : (n : ℕ) (x after : Context) → n ≡ (decided n x after).number
unfolding decided
decided_number n x after = answer_number (λ (a : Answered). a.number) n _ _ refl refl

-- what holds of the step of a sound context that no row refuses, and of the context as it was under any other number, holds of the answer
module _ (P : Answered → Type 0) (k : ℕ) (e : Event) (x : Context) where
  pub answer_cases : (sound_context x ≡ true → first_of (with_flow_row k x (past_rows e (world_at k x))) ≡ 0
      → P (record { number = 0; after = step_at k e x }))
      → ((n : ℕ) → (n ≡ 0 → ⊥) → P (record { number = n; after = x })) → P (answer_at k e x)
  unfolding decided
  answer_cases f g =
      subst P (sym (answer_decided k e x))
      (eq_both P (first_of (rows_at k e x)) 0 _ _
      (λ z. let p = none_here 2 (not (sound_context x)) _ (omega arith) z in f (not-false (sound_context x) p.0) p.1)
      (g (first_of (rows_at k e x))))

-- ---- refused

-- DEMAND 1: the number is exact ..
pub number_exact : NumberExact
number_exact e x =
    let rows = rows_at e.flow e.event x in
    subst (Exact rows) (decided_number (first_of rows) x _ ∙ ap (λ (a : Answered). a.number) (sym (answer_decided e.flow e.event x)))
    (rows_exact rows (rows_some e.flow e.event x))

pub set_up_exact : SetUpExact
unfolding on_set_up some
set_up_exact s flows m times =
    let n = first_of (set_up_rows s flows m times) in
    subst (Exact (set_up_rows s flows m times)) (answer_number (λ (a : Answered). a.number) n _ _ refl refl)
    (rows_exact (set_up_rows s flows m times) refl)

-- .. and a refusal changes nothing
pub refused_same : RefusedSame
refused_same e x =
    answer_cases (λ a. (a.number ≡ 0 → ⊥) → a.after ≡ x) e.flow e.event x (λ s rows n. absurd (n refl)) (λ n z h. refl)

pub set_up_refused : SetUpRefused
unfolding on_set_up
set_up_refused s flows m times =
    eq_both (λ (a : Answered). (a.number ≡ 0 → ⊥) → a.after ≡ context (fresh_state no_settings) flows m times)
    (first_of (set_up_rows s flows m times)) 0 _ _ (λ e h. absurd (h refl)) (λ e h. refl)

-- ---- accepted

pub record Accepted (k : ℕ) (e : Event) (x after : Context) : Type 0 where
  pub sound_so : sound_context x ≡ true
  pub none_refuses : first_of (with_flow_row k x (past_rows e (world_at k x))) ≡ 0
  pub leaves : after ≡ step_at k e x

pub accepted : (k : ℕ) (e : Event) (x : Context) → (answer_at k e x).number ≡ 0 → Accepted k e x (answer_at k e x).after
accepted k e x =
    answer_cases (λ a. a.number ≡ 0 → Accepted k e x a.after) k e x
    (λ s rows n. record { sound_so = s; none_refuses = rows; leaves = refl }) (λ n z h. absurd (z h))

-- DEMAND 2: after an accepted event the context is that of the rules ..
pub rules_hold : RulesHold
rules_hold e x n = (accepted e.flow e.event x n).leaves

-- .. and the path is the rule's
pub path_taken : PathTaken
unfolding on_path chosen
path_taken time k x =
    eq_both (λ (r : Routing). r.number ≡ 0 → r.ev ≡ (route_of time (view_of (world_at k x))).ev)
    (first_of (with_sound x (path_of time k x))) 0 _ _ (λ e n. refl) (λ e n. absurd (e n))

pub set_up_fresh : SetUpFresh
set_up_fresh s flows m times n = (starts.set_up_fresh s flows m times n).2

-- what flow k's step comes to, where no row refuses it
pub event_stepped : (k : ℕ) (e : Event) (x : Context) → SoundContext x → first_of (with_flow_row k x (past_rows e (world_at k x))) ≡ 0
    → Stepped k x (view_step e (view_of (world_at k x)))
event_stepped k (new_data time bytes) x S = new_data_stepped x S time k bytes
event_stepped k (send time a) x S = send_stepped x S time k a
event_stepped k (ack time a) x S = ack_stepped x S time k a
event_stepped k (nack time a) x S = nack_stepped x S time k a
event_stepped k (loss time a) x S = loss_stepped x S time k a
event_stepped k (path time) x S = path_stepped x S time k

-- ---- a run

pub answer_lasts : (k : ℕ) (e : Event) (x : Context) → sound_context x ≡ true → sound_context (answer_at k e x).after ≡ true
answer_lasts k (new_data time bytes) x h = new_data_lasts x h time k bytes
answer_lasts k (send time a) x h = send_lasts x h time k a
answer_lasts k (ack time a) x h = ack_lasts x h time k a
answer_lasts k (nack time a) x h = nack_lasts x h time k a
answer_lasts k (loss time a) x h = loss_lasts x h time k a
answer_lasts k (path time) x h = path_lasts x h time k

run_lasts : (es : List Flowed) (x : Context) → sound_context x ≡ true → sound_context (run x es) ≡ true
run_lasts [] x h = h
run_lasts (e ∷ es) x h = run_lasts es (answer e x).after (answer_lasts e.flow e.event x h)

pub start_sound : {s : Settings} {flows : List ℕ} {m : Memory} {times : List ℕ} {x : Context} → SetUp s flows m times x
    → sound_context x ≡ true
start_sound {s} {flows} {m} {times} {x} U = rw U.gives (set_up_sound s flows m times U.accepted)

-- DEMAND 2: state and buffers hold together for ever
pub always_sound : AlwaysSound
always_sound s flows m times x es U = run_lasts es x (start_sound U)

pub cwnd_between : CwndBetween
cwnd_between s flows m times x es U =
    let W = (context_facts (run x es) (always_sound s flows m times x es U)).sound_window_lem in
    (W.cwnd_low, W.cwnd_high)
