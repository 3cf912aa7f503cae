-- `sound_among_lem`: after any list of events past number 2 a flow among others holds together as before, by induction over the events: each
-- leaves it so, whatever it answers (the sender's ..-kept laws). `always_sound`: so of a flow by itself from an accepted set-up on, where
-- an event past number 2 is the event.
-- Assumes nothing.
use mathlib.Core.Path.{◌≡◌, refl, sym, ap, ◌∙◌}
use mathlib.Core.Bool.{true}
use mathlib.Core.List.{List, [], ◌∷◌}
use Prim.Native.Nat.{ℕ}
use Rattle.rules.specs.Rows.{first_of}
use Rattle.window.specs.declared.Settings.{Settings}
use Rattle.ledger.specs.Memory.{Memory}
use Rattle.ledger.specs.Sound.{Others, alone}
use Rattle.ledger.proofs.Facts.{Facts}
use Rattle.ledger.proofs.Sends.{sound_ledger_tells}
use Rattle.sender.specs.World.{World, Answered, ring_of, view_of, ledger_in, ledger_of}
use Rattle.sender.specs.Sound.{sound_among, sound}
use Rattle.sender.proofs.Sounds.{among_facts}
use Rattle.sender.proofs.Views.{view_world, world_sound}
use Rattle.sender.proofs.Starts.{set_up_sound}
use Rattle.sender.proofs.Kept.{new_data_kept, send_kept, ack_kept, nack_kept, loss_kept, path_kept}
use Rattle.demands.specs.Events.{Event, new_data, send, ack, nack, loss, path, answer, view_step, step_of, run, SetUp}
use Rattle.demands.specs.Demands.{AlwaysSound}
use Rattle.demands.specs.Past.{past_rows, past_answer, past_run, SoundAmong}
use Rattle.demands.proofs.Runs.{past_cases, past_answer_lem, ledger_step, view_ledger}

-- the ledger of a flow that holds together, fact by fact
pub ledger_facts : (o : Others) (w : World) → sound_among o (view_of w) ≡ true
    → Facts w.state.settings.mtu w.state.clock w.state.flow (ring_of w)
ledger_facts o w h = (sound_ledger_tells _ _ _ o (ledger_of w) (among_facts o (view_of w) h).sound_ledger_lem).0

-- ---- an accepted event

-- what it steps to holds together ..
viewed_sound : (o : Others) (e : Event) (w : World) → sound_among o (view_of w) ≡ true → first_of (past_rows e w) ≡ 0
    → sound_among o (view_step e (view_of w)) ≡ true
viewed_sound o (new_data time bytes) w = new_data_kept o time bytes (view_of w)
viewed_sound o (send time a) w = send_kept o time a (view_of w)
viewed_sound o (ack time a) w = ack_kept o time a (view_of w)
viewed_sound o (nack time a) w = nack_kept o time a (view_of w)
viewed_sound o (loss time a) w = loss_kept o time a (view_of w)
viewed_sound o (path time) w = path_kept o time (view_of w)

module _ (o : Others) (e : Event) (w : World) (h : sound_among o (view_of w) ≡ true) (rows : first_of (past_rows e w) ≡ 0) where
  -- .. and so is what the world shows that keeps it, whose ledger is the ledger's own step
  pub step_view : view_of (step_of e w) ≡ view_step e (view_of w)
  step_view = view_world o (view_step e (view_of w)) (viewed_sound o e w h rows)

  pub step_sound : sound_among o (view_of (step_of e w)) ≡ true
  step_sound = world_sound o (view_step e (view_of w)) (viewed_sound o e w h rows)

  pub step_ledger : ledger_of (step_of e w) ≡ ledger_step e (ledger_of w)
  step_ledger = ap ledger_in step_view ∙ view_ledger e (view_of w)

-- ---- an event, whatever it answers

pub past_lasts : (o : Others) (e : Event) (w : World) → sound_among o (view_of w) ≡ true
    → sound_among o (view_of (past_answer e w).after) ≡ true
past_lasts o e w h = past_cases (λ x. sound_among o (view_of x.after) ≡ true) e w (step_sound o e w h) (λ n z. h)

-- ---- a run

pub sound_among_lem : SoundAmong
sound_among_lem o w [] h = h
sound_among_lem o w (e ∷ es) h = sound_among_lem o (past_answer e w).after es (past_lasts o e w h)

-- a flow by itself: with the test of number 2
pub answer_sound : (e : Event) (w : World) → sound w ≡ true → sound (answer e w).after ≡ true
answer_sound e w h = ap (λ (x : Answered). sound x.after) (sym (past_answer_lem e w h)) ∙ past_lasts alone e w h

pub past_run_lem : (es : List Event) (w : World) → sound w ≡ true → past_run w es ≡ run w es
past_run_lem [] w h = refl
past_run_lem (e ∷ es) w h =
    ap (λ (x : Answered). past_run x.after es) (past_answer_lem e w h) ∙ past_run_lem es (answer e w).after (answer_sound e w h)

pub start_sound : {s : Settings} {m : Memory} {times : List ℕ} {w : World} → SetUp s m times w → sound w ≡ true
start_sound {s} {m} {times} {w} U = rw U.gives (set_up_sound s m times U.accepted)

-- DEMAND 2: state and buffers hold together for ever
pub always_sound : AlwaysSound
always_sound s m times w es U =
    let h = start_sound U in
    ap sound (sym (past_run_lem es w h)) ∙ sound_among_lem alone w es h
