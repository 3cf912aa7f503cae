-- A sample is taken exactly when document 01 says one exists, and the average is fed as it says: what is proved of a flow's step (`demands`,
-- proofs/Sampled and proofs/Averaged) holds of an event of the context, whose accepted answer is that step put back (`rules_hold`).
-- Assumes nothing.
use mathlib.Core.Path.{◌≡◌, refl, ap, ◌∙◌}
use Prim.Native.Nat.{ℕ, min}
use Rattle.window.specs.Delays.{update_base_rtt_of}
use Rattle.window.specs.declared.Window.{Window}
use Rattle.sender.specs.World.{World}
use Rattle.context.specs.Context.{Context, Answered, joined_of, shared_of, world_at, put_world}
use Rattle.demands.specs.Events.{ack, nack}
use Rattle.demands.specs.Events.{step_of as oneStep}
use Rattle.demands.proofs.Sampled.{ack_sampled, nack_sampled, ack_lowers, nack_lowers, step_stays}
use Rattle.demands.proofs.Averaged.{step_average}
use Rattle.context_demands.specs.Events.{Flowed, answer}
use Rattle.context_demands.specs.Demands.{AckTakes, NackTakes, BaseStays, AverageFed}
use Rattle.context_demands.proofs.Runs.{answer_cases, rules_hold}

-- the window is shared: what flow k sees of it, and what is put back
seen_window : (k : ℕ) (x : Context) → (world_at k x).state.window ≡ x.state.window
unfolding world_at joined_of
seen_window k x = refl

put_window : (k : ℕ) (x : Context) (w : World) → (put_world k x w).state.window ≡ w.state.window
unfolding put_world shared_of
put_window k x w = refl

-- an accepted event leaves the window of its flow's step
left_window : (e : Flowed) (x : Context) → (answer e x).number ≡ 0
    → (answer e x).after.state.window ≡ (oneStep e.event (world_at e.flow x)).state.window
left_window e x n = ap (λ (y : Context). y.state.window) (rules_hold e x n) ∙ put_window e.flow x _

pub ack_takes : AckTakes
unfolding update_base_rtt_of
ack_takes time k ticks a x s n =
    let w = world_at k x in
    ap (λ (v : Window). v.base) (left_window (record { flow = k; event = ack time a }) x n)
    ∙ rw ((ack_sampled time ticks a w).1 s) at (ack_lowers w time a)
    ∙ ap (λ (v : Window). min v.base ticks) (seen_window k x)

pub nack_takes : NackTakes
unfolding update_base_rtt_of
nack_takes time k ticks a x s n =
    let w = world_at k x in
    ap (λ (v : Window). v.base) (left_window (record { flow = k; event = nack time a }) x n)
    ∙ rw ((nack_sampled time ticks a w).1 s) at (nack_lowers w time a)
    ∙ ap (λ (v : Window). min v.base ticks) (seen_window k x)

pub base_stays : BaseStays
unfolding update_base_rtt_of
base_stays e x none =
    let k = e.flow in
    let w = world_at k x in
    answer_cases (λ (y : Answered). y.after.state.window.base ≡ x.state.window.base) k e.event x
    (λ h rows.
    ap (λ (v : Window). v.base) (put_window k x (oneStep e.event w))
    ∙ step_stays e.event w none
    ∙ ap (λ (v : Window). v.base) (seen_window k x))
    (λ n z. refl)

pub average_fed : AverageFed
average_fed e x n =
    rw (left_window e x n) (step_average e.event (world_at e.flow x))
