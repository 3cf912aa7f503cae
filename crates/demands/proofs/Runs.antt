-- Events one by one. Past number 2 an event that no row refuses leaves its step, any other the world as it was (`past_cases`); with the
-- test of number 2 it is the same in a sound world (`past_answer_lem`), and refused in any other (`unsound_refused`). So demand 1
-- (`refused_same`; of setting up `set_up_refused`) and demand 2 (`accepted`, `rules_hold`, `path_taken`). A step's ledger is the ledger's
-- own step (`view_ledger`) at the event's time (`step_clock`). By the sender's laws.
-- Assumes nothing.
use mathlib.Core.Path.{◌≡◌, refl, sym, ap, ◌∙◌, subst}
use mathlib.Core.Bool.{not, true, false, true≢false}
use mathlib.Core.List.{List}
use Prim.Native.Nat.{ℕ}
use native.Mathlib.Omega.{arith}
use borrow.Author.Tests.{not-false}
use Rattle.rules.specs.Branch.{if_so, if_eq, eq_both}
use Rattle.rules.specs.Rows.{first_of, none_here}
use Rattle.window.specs.declared.Settings.{Settings}
use Rattle.ledger.specs.Ring.{Ledger}
use Rattle.ledger.specs.Memory.{Memory}
use Rattle.ledger.specs.Steps.{supply_of, push_of, resend_of, mark_of, acknowledge_of}
use Rattle.sender.specs.World.{World, world, View, view_of, Answered, Routing, ledger_in}
use Rattle.sender.specs.Sound.{sound}
use Rattle.sender.specs.Rows.{with_sound, path_rows, set_up_rows}
use Rattle.sender.specs.Steps.{state_of, settled, new_data_state, new_data_step, send_step, ack_step, nack_step, loss_step, path_state, path_step}
use Rattle.sender.specs.Steps.{route_of}
use Rattle.sender.specs.Start.{no_settings, fresh_state, on_set_up}
use Rattle.sender.specs.Events.{decided, on_new_data, on_send, on_ack, on_nack, on_loss, on_path}
use Rattle.sender.specs.Events.{past_new_data, past_send, past_ack, past_nack, past_loss, past_path}
use Rattle.sender.proofs.Rowing.{past_sound, taken, untaken, decided_yes, decided_no}
use Rattle.demands.specs.Events.{Event, new_data, send, ack, nack, loss, path, answer, view_step, step_of}
use Rattle.demands.specs.Demands.{RefusedSame, RulesHold, PathTaken}
use Rattle.demands.specs.Past.{past_rows, past_answer}

-- ---- an event's answer, by the number of its rows

-- a path choice too, once its EV is left out
route_decided : (n time : ℕ) (w : World)
    → let x = if_eq n 0 (taken time w) (untaken n w) in
    record { number = x.number; after = x.after } ≡ decided n w (step_of (path time) w)
route_decided n time w =
    eq_both (λ (x : Routing). record { number = x.number; after = x.after } ≡ decided n w (step_of (path time) w)) n 0 _ _
    (decided_yes n w (step_of (path time) w)) (decided_no n w (step_of (path time) w))

past_decided : (e : Event) (w : World) → past_answer e w ≡ decided (first_of (past_rows e w)) w (step_of e w)
unfolding past_new_data past_send past_ack past_nack past_loss past_path
past_decided (new_data time bytes) w = refl
past_decided (send time a) w = refl
past_decided (ack time a) w = refl
past_decided (nack time a) w = refl
past_decided (loss time a) w = refl
past_decided (path time) w = route_decided (first_of (path_rows time w.state)) time w

answer_decided : (e : Event) (w : World) → answer e w ≡ decided (first_of (with_sound w (past_rows e w))) w (step_of e w)
unfolding on_new_data on_send on_ack on_nack on_loss on_path
answer_decided (new_data time bytes) w = refl
answer_decided (send time a) w = refl
answer_decided (ack time a) w = refl
answer_decided (nack time a) w = refl
answer_decided (loss time a) w = refl
answer_decided (path time) w = route_decided (first_of (with_sound w (path_rows time w.state))) time w

-- what holds of the step under the number 0, and of the world as it was under any other, holds of the answer
decided_cases : (P : Answered → Type 0) (n : ℕ) (w after : World) → (n ≡ 0 → P (record { number = 0; after = after }))
    → ((n ≡ 0 → ⊥) → P (record { number = n; after = w })) → P (decided n w after)
unfolding decided
decided_cases P n w after f g = eq_both P n 0 _ _ f g

module _ (P : Answered → Type 0) (e : Event) (w : World) where
  pub past_cases : (first_of (past_rows e w) ≡ 0 → P (record { number = 0; after = step_of e w }))
      → ((n : ℕ) → (n ≡ 0 → ⊥) → P (record { number = n; after = w })) → P (past_answer e w)
  past_cases f g = subst P (sym (past_decided e w)) (decided_cases P _ w _ f (g (first_of (past_rows e w))))

  -- with the test of number 2
  answer_cases : (sound w ≡ true → first_of (past_rows e w) ≡ 0 → P (record { number = 0; after = step_of e w }))
      → ((n : ℕ) → (n ≡ 0 → ⊥) → P (record { number = n; after = w })) → P (answer e w)
  answer_cases f g =
      let rows = past_rows e w in
      subst P (sym (answer_decided e w)) (decided_cases P _ w _
      (λ z. let p = none_here 2 (not (sound w)) rows (omega arith) z in f (not-false (sound w) p.0) p.1)
      (g (first_of (with_sound w rows))))

-- ---- past number 2

pub past_refused : (e : Event) (w : World) → ((past_answer e w).number ≡ 0 → ⊥) → (past_answer e w).after ≡ w
past_refused e w = past_cases (λ x. (x.number ≡ 0 → ⊥) → x.after ≡ w) e w (λ rows h. absurd (h refl)) (λ n z h. refl)

pub past_accepted : (e : Event) (w : World) → (past_answer e w).number ≡ 0
    → (first_of (past_rows e w) ≡ 0) × ((past_answer e w).after ≡ step_of e w)
past_accepted e w =
    past_cases (λ x. x.number ≡ 0 → (first_of (past_rows e w) ≡ 0) × (x.after ≡ step_of e w)) e w (λ rows h. (rows, refl))
    (λ n z h. absurd (z h))

-- in a sound world an event past number 2 is the event
pub past_answer_lem : (e : Event) (w : World) → sound w ≡ true → past_answer e w ≡ answer e w
past_answer_lem e w h =
    past_decided e w ∙ ap (λ (n : ℕ). decided n w (step_of e w)) (past_sound w h (past_rows e w)) ∙ sym (answer_decided e w)

-- ---- refused

-- DEMAND 1: a refusal changes neither state nor buffer
pub refused_same : RefusedSame
refused_same e w = answer_cases (λ x. (x.number ≡ 0 → ⊥) → x.after ≡ w) e w (λ h rows n. absurd (n refl)) (λ n z h. refl)

-- the same of setting up: "a refused setting up: a state of zeros", and lent memory untouched
pub set_up_refused : (s : Settings) (m : Memory) (times : List ℕ) → ((on_set_up s m times).number ≡ 0 → ⊥)
    → (on_set_up s m times).after ≡ world (fresh_state no_settings) m times
unfolding on_set_up
set_up_refused s m times =
    eq_both (λ (x : Answered). (x.number ≡ 0 → ⊥) → x.after ≡ world (fresh_state no_settings) m times) (first_of (set_up_rows s m times)) 0 _ _
    (λ e h. absurd (h refl)) (λ e h. refl)

-- ---- accepted

pub record Accepted (e : Event) (w after : World) : Type 0 where
  pub sound_so : sound w ≡ true
  pub none_refuses : first_of (past_rows e w) ≡ 0
  pub leaves : after ≡ step_of e w

pub accepted : (e : Event) (w : World) → (answer e w).number ≡ 0 → Accepted e w (answer e w).after
accepted e w =
    answer_cases (λ x. x.number ≡ 0 → Accepted e w x.after) e w
    (λ h rows n. record { sound_so = h; none_refuses = rows; leaves = refl }) (λ n z h. absurd (z h))

-- a world that does not hold together refuses every event
pub unsound_refused : (e : Event) (w : World) → sound w ≡ false → (answer e w).number ≡ 0 → ⊥
unsound_refused e w h n = true≢false (sym (accepted e w n).sound_so ∙ h)

-- DEMAND 2: after an accepted event the world is that of the rules ..
pub rules_hold : RulesHold
rules_hold e w n = (accepted e w n).leaves

-- .. and the path is the rule's
pub path_taken : PathTaken
unfolding on_path
path_taken time w =
    eq_both (λ (x : Routing). x.number ≡ 0 → x.ev ≡ (route_of time (view_of w)).ev) (first_of (with_sound w (path_rows time w.state))) 0 _ _
    (λ e n. refl) (λ e n. absurd (e n))

-- ---- what a step leaves

-- an event's time
abbrev pub time_of : Event → ℕ
time_of (new_data time bytes) = time
time_of (send time a) = time
time_of (ack time a) = time
time_of (nack time a) = time
time_of (loss time a) = time
time_of (path time) = time

-- what an accepted event does to the ledger
abbrev pub ledger_step : Event → Ledger → Ledger
ledger_step (new_data time bytes) l = supply_of bytes l
ledger_step (send time a) l = if_so a.resend (resend_of time a.psn l) (push_of time a.size l)
ledger_step (ack time a) l = acknowledge_of a.cum a.map a.count l
ledger_step (nack time a) l = mark_of a.psn l
ledger_step (loss time a) l = mark_of a.psn l
ledger_step (path time) l = l

pub view_ledger : (e : Event) (v : View) → ledger_in (view_step e v) ≡ ledger_step e (ledger_in v)
unfolding new_data_step new_data_state send_step ack_step nack_step loss_step path_step path_state settled state_of
view_ledger (new_data time bytes) v = refl
view_ledger (send time a) v = refl
view_ledger (ack time a) v = refl
view_ledger (nack time a) v = refl
view_ledger (loss time a) v = refl
view_ledger (path time) v = refl

-- "the clock becomes the event's time"
pub step_clock : (e : Event) (w : World) → (step_of e w).state.clock ≡ time_of e
unfolding new_data_step new_data_state send_step ack_step nack_step loss_step path_step path_state settled state_of
step_clock (new_data time bytes) w = refl
step_clock (send time a) w = refl
step_clock (ack time a) w = refl
step_clock (nack time a) w = refl
step_clock (loss time a) w = refl
step_clock (path time) w = refl

-- no event changes the settings
pub step_settings : (e : Event) (w : World) → (step_of e w).state.settings ≡ w.state.settings
unfolding new_data_step new_data_state send_step ack_step nack_step loss_step path_step path_state settled state_of
step_settings (new_data time bytes) w = refl
step_settings (send time a) w = refl
step_settings (ack time a) w = refl
step_settings (nack time a) w = refl
step_settings (loss time a) w = refl
step_settings (path time) w = refl
