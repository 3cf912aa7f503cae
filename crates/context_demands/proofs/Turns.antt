-- Fair turns (request M-108), over any list of events and choices. An event moves no turn and leaves as many flows (`turn_stays`,
-- `event_flows`), and a ready flow that is not named is nearer to the next turn: so it is named in time (`fair_turns`). An event does not
-- look at the turn (`answer_apart`), and a choice changes nothing else: so choices change nothing of what events do (`turns_apart`).
-- Assumes nothing.
use mathlib.Core.Path.{◌≡◌, refl, sym, ap, ap₂, ◌∙◌}
use mathlib.Core.Logic.{◌↔◌, ⊎_elim}
use mathlib.Core.Bool.{Bool, true, false, not}
use mathlib.Core.List.{List, [], ◌∷◌, Memᴰ}
use mathlib.Core.Option.{none, some}
use Prim.Native.Nat.{ℕ, zero, suc, ◌+◌, ◌%◌, ◌≤◌, ◌<◌}
use native.Mathlib.Omega.{arith}
use lib.ListN.{length, take}
use Rattle.rules.specs.Branch.{eq_yes, eq_no, eq_both}
use Rattle.rules.specs.Rows.{Row, row, first_of, first_here}
use Rattle.flow_table.proofs.Places.{with_count}
use Rattle.context.specs.Context.{Context, Answered, flow_count, joined_of, shared_of, world_at, put_world}
use Rattle.context.specs.Sound.{sound_context}
use Rattle.context.specs.Rows.{with_flow_row}
use Rattle.context.specs.Events.{decided}
use Rattle.context.specs.Turns.{is_ready, window_open, turn_of, with_turn, with_turn_of, on_choose}
use Rattle.context.specs.declared.choice.Turn.{Turn}
use Rattle.context.proofs.Sounds.{context_facts}
use Rattle.context.proofs.Fair.{far, far_less, nearer, NobodyIn, NamedIn, named_there, choice_cases, choose_lasts, choose_only}
use Rattle.context.proofs.Fair.{named_ready as is-ready}
use Rattle.demands.specs.Events.{Event}
use Rattle.demands.specs.Past.{past_rows}
use Rattle.context_demands.specs.Events.{Flowed, rows_at, answer_at, answer, step_at, run}
use Rattle.context_demands.specs.Turns.{Step, event, choice, run_all, events_in, numbers_of, numbers_in}
use Rattle.context_demands.specs.Turns.{behind, named_in, ReadyThroughout}
use Rattle.context_demands.specs.Turns.{FairTurns, NobodyExact, NobodyMoves, NamedReady, ChoiceExact, TurnsApart, TurnsSound}
use Rattle.context_demands.specs.Turns.{TurnOutside, TurnStays}
use Rattle.context_demands.proofs.Runs.{answer_decided, decided_number, answer_cases, answer_lasts}

-- ---- one choice

-- a test does not come out both ways
clash : {b : Bool} → b ≡ true → b ≡ false → ⊥
clash {b} e f =
    let z : ◌≡◌ {A = ℕ} 0 1 = cc in
    omega arith

-- somebody is not nobody
pub somebody : {t : Turn} → some t ≡ none → ⊥
somebody {t} e =
    let z : ◌≡◌ {A = ℕ} 0 1 = cc in
    omega arith

-- nobody is named where no flow is ready or the window has no room, and only there ..
pub nobody_exact : NobodyExact
nobody_exact x h =
    choice_cases (λ c. (c.turn ≡ none) ↔ NobodyIn x) x (λ r. absurd (clash h r)) (λ _ why. (λ _. why, λ _. refl))
    (λ k _ N. (
      λ e. absurd (somebody e),
      ⊎_elim (λ f. absurd (clash (is-ready N) (f k (named_there N)))) (λ f. absurd (clash N.window_open_lem f)),
    ))

-- .. the turn stays then ..
pub nobody_moves : NobodyMoves
nobody_moves x = choice_cases (λ c. c.turn ≡ none → c.after ≡ x) x (λ _ _. refl) (λ _ _ _. refl) (λ k _ _ e. absurd (somebody e))

-- .. who is named is a flow, and ready, and the window has room ..
pub named_ready : NamedReady
unfolding turn_of
named_ready x t =
    choice_cases (λ c. c.turn ≡ some t → (t.flow < flow_count x) × (is_ready x t.flow ≡ true) × (window_open x ≡ true)) x
    (λ _ e. absurd (somebody (sym e))) (λ _ _ e. absurd (somebody (sym e)))
    (λ k _ N e.
    let same : t ≡ turn_of x k = cc in
    rw same (named_there N, is-ready N, N.window_open_lem))

-- .. and a choice is refused by number 2 alone
pub choice_exact : ChoiceExact
choice_exact x =
    choice_cases
    (λ c. ((c.number ≡ 0) ↔ (sound_context x ≡ true))
    × (sound_context x ≡ false → (c.number ≡ 2) × (c.turn ≡ none) × (c.after ≡ x))) x
    (λ r. ((λ e. absurd (let z : ⊥ = omega arith in z), λ h. absurd (clash h r)), λ _. (refl, refl, refl)))
    (λ h _. ((λ _. h, λ _. refl), λ r. absurd (clash h r)))
    (λ k h _. ((λ _. h, λ _. refl), λ r. absurd (clash h r)))

-- a held turn that names no flow
outside : (x : Context) → flow_count x ≤ x.state.turn → sound_context x ≡ false
outside x h = by (sound_context x) refl
  where
    by : (b : Bool) → sound_context x ≡ b → b ≡ false
    by true e = absurd (let z : ⊥ = omega (arith, (context_facts x e).turn_ok) in z)
    by false e = refl

unsound_two : (x : Context) → sound_context x ≡ false → (e : Flowed) → (answer e x).number ≡ 2
unsound_two x u e =
    ap (λ (a : Answered). a.number) (answer_decided e.flow e.event x)
    ∙ sym (decided_number (first_of (rows_at e.flow e.event x)) x _)
    ∙ sym (first_here 2 2 (not (sound_context x)) _ (ap not u) refl)

-- it is refused with 2, whatever is asked
pub turn_outside : TurnOutside
turn_outside x h = let u = outside x h in (((choice_exact x).1 u).0, unsound_two x u)

-- ---- one event

-- whatever is answered, the turn stays ..
pub turn_stays : TurnStays
unfolding put_world shared_of
turn_stays e x = answer_cases (λ a. a.after.state.turn ≡ x.state.turn) e.flow e.event x (λ _ _. refl) (λ _ _. refl)

-- .. and there are as many flows
event_flows : (e : Flowed) (x : Context) → flow_count (answer e x).after ≡ flow_count x
unfolding put_world
event_flows e x =
    answer_cases (λ a. flow_count a.after ≡ flow_count x) e.flow e.event x (λ _ _. with_count x.flows e.flow _) (λ _ _. refl)

-- an answer with another turn
abbrev pub turned : ℕ → Answered → Answered
turned turn a = record { number = a.number; after = with_turn_of turn a.after }

turned_decided : (turn n : ℕ) (x after : Context)
    → decided n (with_turn_of turn x) (with_turn_of turn after) ≡ turned turn (decided n x after)
unfolding decided
turned_decided turn n x after =
    eq_both (λ (a : Answered). decided n (with_turn_of turn x) (with_turn_of turn after) ≡ turned turn a) n 0 _ _
    (λ z. sym (eq_yes n 0 _ _ _ z refl)) (λ z. sym (eq_no n 0 _ _ _ z refl))

module _ (k : ℕ) (e : Event) (turn : ℕ) (x : Context) where
  -- the context with another turn
  abbrev y : Context
  y = with_turn_of turn x

  flow_row_apart : (rows : List Row) → with_flow_row k y rows ≡ with_flow_row k x rows
  flow_row_apart [] = refl
  flow_row_apart (time ∷ rows) = refl

  rows_apart : sound_context y ≡ sound_context x → rows_at k e y ≡ rows_at k e x
  unfolding world_at joined_of with_turn
  rows_apart s =
      ap₂ (λ (b : Bool) (rows : List Row). row (not b) 2 ∷ rows) s (flow_row_apart (past_rows e (world_at k x)))

  step_apart : step_at k e y ≡ with_turn_of turn (step_at k e x)
  unfolding world_at joined_of put_world shared_of with_turn
  step_apart = refl

  -- NO EVENT LOOKS AT THE TURN: with another one the same number is answered, and the same is left but for the turn
  pub answer_apart : sound_context y ≡ sound_context x → answer_at k e y ≡ turned turn (answer_at k e x)
  answer_apart s =
      let rows = first_of (rows_at k e x) in
      answer_decided k e y
      ∙ ap (λ (n : ℕ). decided n y (step_at k e y)) (ap first_of (rows_apart s))
      ∙ ap (decided rows y) step_apart
      ∙ turned_decided turn rows x (step_at k e x)
      ∙ ap (turned turn) (sym (answer_decided k e x))

-- ---- a flow that is ready at every choice

-- flow j is named and k is ready: k is j, or it is nearer to the next turn, and so among the rest
named_step : {x : Context} {j : ℕ} (k m : ℕ) (ks : List ℕ) → NamedIn x j → k < flow_count x → is_ready x k ≡ true
    → far x.state.turn (flow_count x) k < m
    → ((n : ℕ) → far ((j + 1) % flow_count x) (flow_count x) k < n → n ≤ length ks → Memᴰ k (take n ks))
    → m ≤ length (j ∷ ks) → Memᴰ k (take m (j ∷ ks))
named_step k zero ks N h r d rest l = absurd (let z : ⊥ = omega arith in z)
named_step {x} k (suc n) ks N h r d rest l =
    ⊎_elim (λ q. Memᴰ.head q) (λ b. Memᴰ.tail (rest n (omega arith) (omega arith)))
    (nearer (is_ready x) N.turn_there N.names k h r)

-- a flow that is ready at every choice, fewer than m steps from the turn, is one of the first m that are named
fair : (k : ℕ) (ss : List Step) (m : ℕ) (x : Context) → k < flow_count x → far x.state.turn (flow_count x) k < m
    → ReadyThroughout k x ss → m ≤ length (named_in x ss) → Memᴰ k (take m (named_in x ss))
unfolding turn_of with_turn
fair k [] m x h d R l = absurd (let z : ⊥ = omega arith in z)
fair k (event e ∷ ss) m x h d R l =
    let y = (answer e x).after in
    fair k ss m y (rw (event_flows e x) h) (rw (turn_stays e x, event_flows e x) d) R l
fair k (choice ∷ ss) m x h d R l =
    choice_cases
    (λ c. ReadyThroughout k c.after ss → m ≤ length (behind c.turn (named_in c.after ss))
    → Memᴰ k (take m (behind c.turn (named_in c.after ss)))) x
    (λ _ S b. fair k ss m x h d S b) (λ _ _ S b. fair k ss m x h d S b)
    (λ j _ N S b.
    let y = with_turn_of ((j + 1) % flow_count x) x in
    named_step k m (named_in y ss) N h R.0 d (λ n f c. fair k ss n y h f S c) b)
    R.1 l

-- where somebody is named, the held turn names a flow
turn_there : (ss : List Step) (x : Context) → 0 < length (named_in x ss) → x.state.turn < flow_count x
turn_there [] x l = absurd (let z : ⊥ = omega arith in z)
turn_there (event e ∷ ss) x l = omega (arith, turn_there ss (answer e x).after l, turn_stays e x, event_flows e x)
turn_there (choice ∷ ss) x l =
    choice_cases (λ c. 0 < length (behind c.turn (named_in c.after ss)) → x.state.turn < flow_count x) x
    (λ _ b. turn_there ss x b) (λ _ _ b. turn_there ss x b) (λ k _ N _. N.turn_there) l

-- A FLOW THAT IS READY AT EVERY CHOICE is named within as many choices that name somebody as there are flows
pub fair_turns : FairTurns
fair_turns k x ss h R l = fair k ss (flow_count x) x h (far_less _ _ k (turn_there ss x (omega arith)) h) R l

-- ---- what a list of events and choices leaves

-- it passes number 2 ..
pub turns_sound : TurnsSound
turns_sound x [] h = h
turns_sound x (event e ∷ ss) h = turns_sound (answer e x).after ss (answer_lasts e.flow e.event x h)
turns_sound x (choice ∷ ss) h = turns_sound (on_choose x).after ss (choose_lasts x h)

-- .. and is, but for the turn, what its events alone leave. y is x but for the turn:
abbrev Like : Context → Context → Type 0
Like y x = y ≡ with_turn_of y.state.turn x

-- each event of both is answered the same number ..
same_answer : (e : Flowed) (y x : Context) → sound_context y ≡ true → sound_context x ≡ true → Like y x
    → answer e y ≡ turned y.state.turn (answer e x)
same_answer e y x i h q =
    ap (answer e) q ∙ answer_apart e.flow e.event y.state.turn x (sym (ap sound_context q) ∙ i ∙ sym h)

-- .. and keeps that; so does each choice of y ..
event_like : (e : Flowed) (y x : Context) → sound_context y ≡ true → sound_context x ≡ true → Like y x
    → Like (answer e y).after (answer e x).after
event_like e y x i h q =
    ap (λ (a : Answered). a.after) (same_answer e y x i h q)
    ∙ ap (λ (turn : ℕ). with_turn_of turn (answer e x).after) (sym (turn_stays e y))

choice_like : (y x : Context) → Like y x → Like (on_choose y).after x
unfolding with_turn
choice_like y x q = choose_only y ∙ ap (with_turn_of (on_choose y).after.state.turn) q

-- .. and so a list of them
run_like : (ss : List Step) (y x : Context) → sound_context y ≡ true → sound_context x ≡ true → Like y x
    → Like (run_all y ss) (run x (events_in ss)) × (numbers_in y ss ≡ numbers_of x (events_in ss))
run_like [] y x i h q = (q, refl)
run_like (event e ∷ ss) y x i h q =
    let lasts = answer_lasts e.flow e.event in
    let rest = run_like ss (answer e y).after (answer e x).after (lasts y i) (lasts x h) (event_like e y x i h q) in
    (rest.0, ap₂ (λ (n : ℕ) (ns : List ℕ). n ∷ ns) (ap (λ (a : Answered). a.number) (same_answer e y x i h q)) rest.1)
run_like (choice ∷ ss) y x i h q = run_like ss (on_choose y).after x (choose_lasts y i) h (choice_like y x q)

-- CHOICES CHANGE NOTHING OF WHAT EVENTS DO
pub turns_apart : TurnsApart
unfolding with_turn
turns_apart x ss h = run_like ss x x h h refl
