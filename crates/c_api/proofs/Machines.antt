-- THE STATES THAT A REPLAY COMES TO ARE ONES THAT THE MACHINE CAN HOLD: so each comes back from its words. Past an accepted record 1 number
-- 2 never comes to apply, a refused one leaves a state of zeros, and before it there is no state. Assumes nothing.
use mathlib.Core.Path.{◌≡◌, refl, sym, ap, ◌∙◌}
use mathlib.Core.Bool.{true, false}
use mathlib.Core.List.{List}
use Prim.Native.Nat.{ℕ, ◌≤◌}
use native.Mathlib.Omega.{arith}
use lib.ListN.{take}
use native.Mathlib.Decide.{ℕ_discrete}
use mathlib.Core.Logic.{by_cases}
use borrow.Author.Tests.{ne_eqb}
use Rattle.rules.specs.Branch.{if_eq, so_both, eq_yes, eq_both}
use Rattle.rules.specs.Rows.{first_of}
use Rattle.window.specs.Sound.{fresh_of}
use Rattle.window.specs.declared.Settings.{Settings}
use Rattle.ledger.specs.Memory.{Memory}
use Rattle.sender.specs.Start.{no_settings}
use Rattle.sender.specs.Start.{fresh_state as freshSender}
use Rattle.context.specs.Context.{Context, Answered, shared_of}
use Rattle.context.specs.Sound.{sound_context}
use Rattle.context.specs.Start.{set_up_rows, fresh_state, on_set_up}
use Rattle.context.specs.Events.{on_new_data, on_send, on_ack, on_nack, on_loss, on_path}
use Rattle.context.proofs.Starts.{set_up_sound}
use Rattle.context.proofs.Kept.{new_data_lasts, send_lasts, ack_lasts, nack_lasts, loss_lasts, path_lasts}
use Rattle.replay.specs.Answers.{sound_after, on_first, on_later, on_event, Telling}
use Rattle.replay.specs.Places.{Feed, sound_place, Turning, place_after, turn_of, turns_of, last_place, last_context}
use Rattle.replay.specs.declared.Place.{Place}
use Rattle.replay.specs.declared.Shown.{Shown}
use Rattle.replay.specs.declared.records.Event.{Event}
use Rattle.replay.specs.declared.records.Event.TheVariants as event
use Rattle.replay.proofs.Progress.{turn_cases, turn_sound_place, place_sound_after}
use Rattle.replay.proofs.Parts.{along}
use Rattle.c_state.specs.Statements.{Machine}
use Rattle.c_state.proofs.Inverse.{sound_machine}

-- ---- an event

later_machine : (e : Event) (w : Context) → sound_context w ≡ true → Machine (on_later e w).after.state
unfolding on_later
later_machine (event.NewData time k bytes) w s = sound_machine (on_new_data time k bytes w).after (new_data_lasts w s time k bytes)
later_machine (event.Send time k a) w s = sound_machine (on_send time k a w).after (send_lasts w s time k a)
later_machine (event.Ack time k a) w s = sound_machine (on_ack time k a w).after (ack_lasts w s time k a)
later_machine (event.Nack time k a) w s = sound_machine (on_nack time k a w).after (nack_lasts w s time k a)
later_machine (event.Loss time k a) w s = sound_machine (on_loss time k a w).after (loss_lasts w s time k a)
later_machine (event.Path time k) w s = sound_machine (on_path time k w).after (path_lasts w s time k)
later_machine (event.SetUp x) w s = sound_machine w s

-- ---- record 1

-- a state of zeros
zeros_machine : Machine (fresh_state no_settings)
unfolding fresh_state shared_of freshSender no_settings fresh_of
zeros_machine =
    record {
      first_psn = omega arith;
      quick_adapt_off = omega arith;
      flying = omega arith;
      marked = omega arith;
      fast = omega arith;
      trigger = omega arith;
      cursor = omega arith;
      phase = omega arith;
      flown = record { low = omega arith; high = omega arith };
    }

refused_zeros : (s : Settings) (fs : List ℕ) (r : Memory) (times : List ℕ) → ((on_set_up s fs r times).number ≡ 0 → ⊥)
    → (on_set_up s fs r times).after.state ≡ fresh_state no_settings
unfolding on_set_up
refused_zeros s fs r times =
    eq_both (λ (a : Answered). (a.number ≡ 0 → ⊥) → a.after.state ≡ fresh_state no_settings) (first_of (set_up_rows s fs r times)) 0 _ _
    (λ e h. absurd (h refl)) (λ e h. refl)

-- setting up is not refused with 12
no_twelve : (s : Settings) (w : Context) → (on_set_up s w.flows w.slots w.times).number ≡ 12 → ⊥
unfolding on_set_up first_of
no_twelve s w =
    eq_both (λ (a : Answered). a.number ≡ 12 → ⊥) _ 0 _ _
    (λ _ e. omega (arith, e))
    (λ _.
    so_both (λ (n : ℕ). n ≡ 12 → ⊥) _ 1 _ (λ _ e. omega (arith, e))
    (λ _. so_both (λ (n : ℕ). n ≡ 12 → ⊥) _ 2 0 (λ _ e. omega (arith, e)) (λ _ e. omega (arith, e))))

set_up_machine : (s : Settings) (w : Context) → Machine (on_set_up s w.flows w.slots w.times).after.state
set_up_machine s w =
    by_cases (ℕ_discrete (on_set_up s w.flows w.slots w.times).number 0)
    (λ e. sound_machine (on_set_up s w.flows w.slots w.times).after (set_up_sound s w.flows w.slots w.times e))
    (λ e. rw (refused_zeros s w.flows w.slots w.times e) zeros_machine)

first_machine : (e : Event) (w : Context) → ((on_first e w).number ≡ 12 → ⊥) → Machine (on_first e w).after.state
unfolding on_first
first_machine (event.NewData time k bytes) w n = absurd (n refl)
first_machine (event.Send time k a) w n = absurd (n refl)
first_machine (event.Ack time k a) w n = absurd (n refl)
first_machine (event.Nack time k a) w n = absurd (n refl)
first_machine (event.Loss time k a) w n = absurd (n refl)
first_machine (event.Path time k) w n = absurd (n refl)
first_machine (event.SetUp s) w n = set_up_machine s w

-- a 12 changes nothing
first_twelve : (e : Event) (w : Context) → (on_first e w).number ≡ 12 → (on_first e w).after ≡ w
unfolding on_first
first_twelve (event.NewData time k bytes) w e = refl
first_twelve (event.Send time k a) w e = refl
first_twelve (event.Ack time k a) w e = refl
first_twelve (event.Nack time k a) w e = refl
first_twelve (event.Loss time k a) w e = refl
first_twelve (event.Path time k) w e = refl
first_twelve (event.SetUp s) w e = absurd (no_twelve s w e)

-- ---- turns

-- number 2 does not apply, and past record 1 the state is one that the machine can hold
abbrev pub Going : Place → Context → Type 0
Going p w = (sound_place p w ≡ true) × ((p.done ≡ 0 → ⊥) → Machine w.state)

-- a record that is refused with 12 is not done
refused_done : (p : Place) (next number : ℕ) (shown : Shown) → number ≡ 12 → p.done ≡ (place_after p next number shown).done
unfolding place_after
refused_done p next number shown e =
    ap (λ (q : Place). q.done) (eq_yes number 12 (record { at = p.at; done = p.done; stopped = true }) _ _ e refl)

module _ (f : Feed) where
  module _ (p : Place) (w : Context) (going : Going p w) where
    event_machine : p.stopped ≡ false → (e : Event) (next : ℕ)
        → let t = on_event p.done e w in ((place_after p next t.number t.shown).done ≡ 0 → ⊥) → Machine t.after.state
    unfolding on_event sound_after
    event_machine s e next =
        eq_both (λ (t : Telling). ((place_after p next t.number t.shown).done ≡ 0 → ⊥) → Machine t.after.state) p.done 0
        (on_first e w) (on_later e w)
        (λ z n. first_machine e w (λ is. n (sym (refused_done p next (on_first e w).number (on_first e w).shown is) ∙ z)))
        (λ some _. later_machine e w (rw (ne_eqb p.done 0 some) at (place_sound_after p w going.0 s)))

    turn_going : Going (turn_of f p w).place (turn_of f p w).after
    unfolding place_after if_eq
    turn_going = (
      turn_sound_place f p w going.0,
      turn_cases f p w (λ (t : Turning). (t.place.done ≡ 0 → ⊥) → Machine t.after.state) going.1
          (λ e next s q. event_machine s e next)
          (λ s i. going.1),
    )

  pub turns_going : (n : ℕ) (p : Place) (w : Context) → Going p w
      → Going (last_place p (take n (turns_of f p w))) (last_context w (take n (turns_of f p w)))
  turns_going = along Going f turn_going

  -- the records done only grow
  turn_done : (p : Place) (w : Context) → p.done ≤ (turn_of f p w).place.done
  unfolding place_after
  turn_done p w =
      turn_cases f p w (λ (t : Turning). p.done ≤ t.place.done) (omega arith)
      (λ e next s q. eq_both (λ (x : Place). p.done ≤ x.done) _ 12 _ _ (λ _. omega arith) (λ _. omega arith))
      (λ s i. eq_both (λ (x : Place). p.done ≤ x.done) _ 12 _ _ (λ _. omega arith) (λ _. omega arith))

  pub done_forward : (n : ℕ) (p : Place) (w : Context) → p.done ≤ (last_place p (take n (turns_of f p w))).done
  done_forward n p w = along (λ q v. p.done ≤ q.done) f (λ q v h. omega (arith, h, turn_done q v)) n p w (omega arith)

  -- before record 1 is done nothing has changed
  module _ (start : Context) where
    abbrev Unchanged : Place → Context → Type 0
    Unchanged p w = p.done ≡ 0 → w ≡ start

    event_unchanged : (p : Place) (w : Context) → Unchanged p w → (e : Event) (next : ℕ)
        → let t = on_event p.done e w in Unchanged (place_after p next t.number t.shown) t.after
    unfolding on_event place_after
    event_unchanged p w same e next =
        eq_both (λ (t : Telling). Unchanged (place_after p next t.number t.shown) t.after) p.done 0 (on_first e w) (on_later e w)
        (λ z. by z (on_first e w) (first_twelve e w))
        (λ some z. absurd (some (let low = place_done (on_later e w).number (on_later e w).shown in omega (arith, low, z))))
      where
        place_done : (number : ℕ) (shown : Shown) → p.done ≤ (place_after p next number shown).done
        place_done number shown = eq_both (λ (x : Place). p.done ≤ x.done) number 12 _ _ (λ _. omega arith) (λ _. omega arith)

        by : p.done ≡ 0 → (t : Telling) → (t.number ≡ 12 → t.after ≡ w) → Unchanged (place_after p next t.number t.shown) t.after
        by z t twelve =
            eq_both (λ (x : Place). x.done ≡ 0 → t.after ≡ start) t.number 12 _ _
            (λ is _. twelve is ∙ same z)
            (λ _ more. absurd (let no : ⊥ = omega (arith, more) in no))

    turn_unchanged : (p : Place) (w : Context) → Unchanged p w → Unchanged (turn_of f p w).place (turn_of f p w).after
    unfolding place_after if_eq
    turn_unchanged p w same =
        turn_cases f p w (λ (t : Turning). Unchanged t.place t.after) same (λ e next s q. event_unchanged p w same e next)
        (λ s i. same)

  pub none_changed : (n : ℕ) (p : Place) (w : Context) → (last_place p (take n (turns_of f p w))).done ≡ 0
      → last_context w (take n (turns_of f p w)) ≡ w
  none_changed n p w = along (Unchanged w) f (turn_unchanged w) n p w (λ _. refl)
