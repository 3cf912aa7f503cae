-- Fair turns (request M-108), as theorems over any list of events and choices, refused ones among them. Each statement is a type; the
-- theorem of the same name, in small letters, in proofs/ has that type.
-- Assumes nothing.
use Rattle.std.specs.Prelude.{◌≡◌, ◌↔◌, ◌⊎◌, true, false, ℕ, ◌≤◌, ◌<◌, length, take}
use mathlib.Core.List.{List, [], ◌∷◌, Memᴰ}
use Rattle.std.proofs.Math.Option.{Option, none, some}
use Rattle.window.specs.Limits.{time_end}
use Rattle.ledger.specs.Ring.{packet_of}
use Rattle.context.specs.Context.{Context, flow_count, flow_in, ring_in}
use Rattle.context.specs.Sound.{sound_context}
use Rattle.context.specs.Events.{on_send}
use Rattle.context.specs.Turns.{is_ready, window_open, with_turn_of, on_choose}
use Rattle.context.specs.declared.choice.Turn.{Turn}
use Rattle.context_demands.specs.Events.{Flowed, answer, run}

-- an event of a flow, or a choice
pub data Step : Type 0 where
  event : Flowed → Step
  choice : Step

-- the context after it
abbrev pub left : Step → Context → Context
left (event e) x = (answer e x).after
left choice x = (on_choose x).after

-- and after a list of them
abbrev pub run_all : Context → List Step → Context
run_all x [] = x
run_all x (s ∷ ss) = run_all (left s x) ss

-- the events among them
abbrev pub events_in : List Step → List Flowed
events_in [] = []
events_in (event e ∷ ss) = e ∷ events_in ss
events_in (choice ∷ ss) = events_in ss

-- the numbers that events are answered, of a list of events and of a list with choices between them
abbrev pub numbers_of : Context → List Flowed → List ℕ
numbers_of x [] = []
numbers_of x (e ∷ es) = (answer e x).number ∷ numbers_of (answer e x).after es

abbrev pub numbers_in : Context → List Step → List ℕ
numbers_in x [] = []
numbers_in x (event e ∷ ss) = (answer e x).number ∷ numbers_in (answer e x).after ss
numbers_in x (choice ∷ ss) = numbers_in (on_choose x).after ss

-- the flows that the choices named, one after the other: a choice that names nobody, or is refused, adds none
abbrev pub behind : Option Turn → List ℕ → List ℕ
behind none ks = ks
behind (some t) ks = t.flow ∷ ks

abbrev pub named_in : Context → List Step → List ℕ
named_in x [] = []
named_in x (event e ∷ ss) = named_in (answer e x).after ss
named_in x (choice ∷ ss) = behind (on_choose x).turn (named_in (on_choose x).after ss)

-- "A flow that is ready at every choice"
abbrev pub ReadyThroughout : ℕ → Context → List Step → Type 0
ReadyThroughout k x [] = Unit
ReadyThroughout k x (event e ∷ ss) = ReadyThroughout k (answer e x).after ss
ReadyThroughout k x (choice ∷ ss) = (is_ready x k ≡ true) × ReadyThroughout k (on_choose x).after ss

-- "A flow that is ready at every choice is chosen within as many choices that name somebody as there are flows, whatever events come
-- between": of any context, sound or not, and any list
abbrev pub FairTurns : Type 0
FairTurns = (k : ℕ) (x : Context) (ss : List Step) → k < flow_count x → ReadyThroughout k x ss
    → flow_count x ≤ length (named_in x ss) → Memᴰ k (take (flow_count x) (named_in x ss))

-- "No flow ready, or in-flight + MTU > cwnd: the answer is nobody", and only then ..
abbrev pub NobodyExact : Type 0
NobodyExact = (x : Context) → sound_context x ≡ true
    → ((on_choose x).turn ≡ none) ↔ (((k : ℕ) → k < flow_count x → is_ready x k ≡ false) ⊎ (window_open x ≡ false))

-- .. "and the turn doesn't move" ..
abbrev pub NobodyMoves : Type 0
NobodyMoves = (x : Context) → (on_choose x).turn ≡ none → (on_choose x).after ≡ x

-- .. who is named is a flow, and ready, and the window has room ..
abbrev pub NamedReady : Type 0
NamedReady = (x : Context) (t : Turn) → (on_choose x).turn ≡ some t
    → (t.flow < flow_count x) × (is_ready x t.flow ≡ true) × (window_open x ≡ true)

-- .. and can send: what is named is accepted by the context that the choice leaves, at any time that 01 allows. A marked packet goes with
-- the size that is recorded of it; a new one with any size that 01 allows and the backlog has. (A flow with under 41 bytes of backlog is
-- ready, and has no such size.)
abbrev pub NamedSends : Type 0
NamedSends = (x : Context) (t : Turn) (time size : ℕ) → (on_choose x).turn ≡ some t → x.state.clock ≤ time → time < time_end
    → (t.resend ≡ true → size ≡ (packet_of (flow_in x t.flow) (ring_in x t.flow) t.psn).size)
    → (t.resend ≡ false → (41 ≤ size) × (size ≤ x.state.settings.mtu) × (size ≤ (flow_in x t.flow).backlog))
    → (on_send time t.flow (record { psn = t.psn; size = size; resend = t.resend }) (on_choose x).after).number ≡ 0

-- .. and a choice is refused exactly by number 2, and then changes nothing
abbrev pub ChoiceExact : Type 0
ChoiceExact = (x : Context) → (((on_choose x).number ≡ 0) ↔ (sound_context x ≡ true))
    × ((sound_context x ≡ false) → ((on_choose x).number ≡ 2) × ((on_choose x).turn ≡ none) × ((on_choose x).after ≡ x))

-- "A held turn that names no flow is refusal 2": of a choice, and of every event
abbrev pub TurnOutside : Type 0
TurnOutside = (x : Context) → flow_count x ≤ x.state.turn
    → ((on_choose x).number ≡ 2) × ((e : Flowed) → (answer e x).number ≡ 2)

-- No event moves the turn: "the flow after the last one named, whether it then sent or not" ..
abbrev pub TurnStays : Type 0
TurnStays = (e : Flowed) (x : Context) → (answer e x).after.state.turn ≡ x.state.turn

-- .. and choices change nothing of what events do. A list of events and choices leaves what its events alone leave, but for the turn, and
-- each event is answered the same number ..
abbrev pub TurnsApart : Type 0
TurnsApart = (x : Context) (ss : List Step) → sound_context x ≡ true
    → (run_all x ss ≡ with_turn_of (run_all x ss).state.turn (run x (events_in ss)))
    × (numbers_in x ss ≡ numbers_of x (events_in ss))

-- .. and the context passes number 2 after it
abbrev pub TurnsSound : Type 0
TurnsSound = (x : Context) (ss : List Step) → sound_context x ≡ true → sound_context (run_all x ss) ≡ true
