-- Every statement of specs/Recorded with its proof, in the order of the statements. Assumes nothing.
use mathlib.Core.Path.{◌≡◌, refl, sym, ap, ◌∙◌}
use mathlib.Core.List.{List, [], ◌∷◌, ◌++◌}
use Prim.Native.Nat.{ℕ, suc, ◌+◌}
use lib.ListN.{length, take}
use lib.Seq.{take_at, take-append_seam, take-append-add}
use Rattle.window.specs.declared.Settings.{Settings}
use Rattle.context.specs.Context.{Context}
use Rattle.log_records.specs.declared.record.Record.{Record}
use Rattle.demands.specs.Burst.{Arrival}
use Rattle.context_demands.specs.Events.{Flowed, answer, run, SetUp}
use Rattle.context_demands.specs.Burst.{ledgers_of, deliver}
use Rattle.context_demands.proofs.Theorems as demands
use Rattle.replay_demands.specs.Histories.{events_of, Opened, opened, acks}
use Rattle.replay_demands.specs.Recorded as recorded
use Rattle.replay_demands.proofs.Replays as replays
use Rattle.replay_demands.proofs.Single as single
use Rattle.replay_demands.proofs.Places as places

pub replayed : recorded.Replayed
replayed = replays.replayed

pub unopened : recorded.Unopened
unopened = single.unopened

pub record_counted : recorded.RecordCounted
record_counted = places.record_counted

pub context_after : recorded.ContextAfter
context_after = places.context_after

pub number_of : recorded.NumberOf
number_of = places.number_of

pub no_event : recorded.NoEvent
no_event = places.no_event

-- ---- the demands

-- record 1 is an accepted setting up
set_up_lem : {log : List ℕ} {lent : Context} {s : Settings} {behind : List Record} → Opened log lent s behind
    → SetUp s lent.flows lent.slots lent.times (opened s lent)
set_up_lem O = record { accepted = O.accepted; gives = refl }

pub turn_sound : recorded.TurnSound
turn_sound log lent s behind O k t there =
    rw (context_after log lent s behind O k t there) (demands.always_sound s _ _ _ _ (take k (events_of behind)) (set_up_lem O))

pub turn_between : recorded.TurnBetween
turn_between log lent s behind O k t there =
    rw (context_after log lent s behind O k t there) (demands.cwnd_between s _ _ _ _ (take k (events_of behind)) (set_up_lem O))

pub turn_history : recorded.TurnHistory
turn_history log lent s behind O k t there =
    rw (context_after log lent s behind O k t there)
    (demands.history s _ _ _ _ (take k (events_of behind)) (set_up_lem O))

-- ---- bursts

run_append : (es ds : List Flowed) (w : Context) → run w (es ++ ds) ≡ run (run w es) ds
run_append [] ds w = refl
run_append (e ∷ es) ds w = run_append es ds (answer e w).after

run_acks : (k : ℕ) (ds : List Arrival) (w : Context) → run w (acks k ds) ≡ deliver k w ds
run_acks k [] w = refl
run_acks k (d ∷ ds) w = run_acks k ds _

long_acks : (k : ℕ) (ds : List Arrival) → length (acks k ds) ≡ length ds
long_acks k [] = refl
long_acks k (d ∷ ds) = ap suc (long_acks k ds)

pub turn_burst : recorded.TurnBurst
turn_burst log lent s behind O k before more ds is t u there then at newest others N of-these arrives timely =
    let w = opened s lent in
    let here : t.after ≡ run w before
    = context_after log lent s behind O (length before) t there
    ∙ ap (run w) (ap (take (length before)) is ∙ take-append_seam before (acks k ds ++ more)) in
    let stretch : take (length before + length ds) (events_of behind) ≡ before ++ acks k ds
    = ap (take (length before + length ds)) is
    ∙ (take-append-add before (acks k ds ++ more) (length ds) ∙ ap (λ (es : List Flowed). before ++ es)
    (take_at (acks k ds) more (length ds) (long_acks k ds))) in
    let delivered : u.after ≡ deliver k t.after ds
    = context_after log lent s behind O (length before + length ds) u then
    ∙ (ap (run w) stretch ∙ (run_append before (acks k ds) w ∙ (ap (λ (v : Context). run v (acks k ds)) (sym here) ∙ run_acks k ds t.after))) in
    ap ledgers_of delivered ∙ demands.burst k t.after at newest others ds N of-these arrives timely
