-- Fair turns (request M-108). The round names the first ready flow from the held turn on, and nobody only where none is ready
-- (`round_found`); a ready flow that is not named is nearer to the next turn than to this one (`nearer`). A choice comes to one of three
-- answers (`choice_cases`), leaves a sound context sound (`choose_lasts`), and changes nothing but the turn (`choose_only`).
-- Assumes nothing.
use mathlib.Core.Path.{◌≡◌, refl, sym, ap, subst}
use mathlib.Core.Logic.{by_cases, ⊎_elim, ◌⊎◌, inl, inr}
use mathlib.Core.Bool.{Bool, true, false}
use mathlib.Core.Option.{Option, none, some}
use Prim.Native.Nat.{ℕ, zero, suc, ◌+◌, ◌-◌, ◌%◌, ◌≤◌, ◌<◌}
use native.Mathlib.Nat.{mod-lt, mod-eq_of_lt, mod_self}
use native.Mathlib.Decide.{ℕ_discrete, dec_lt}
use native.Mathlib.Omega.{arith}
use Rattle.rules.specs.Branch.{if_lt, lt_yes, lt_no, lt_both, so_both}
use Rattle.context.specs.Context.{Context, flow_count}
use Rattle.context.specs.Sound.{stands_at, sound_context}
use Rattle.context.specs.Turns.{is_ready, numbers, first_ready, window_open, named_by, turn_of, offered_by}
use Rattle.context.specs.Turns.{Chosen, chose, with_turn, turn_after, with_turn_of, past_choose, on_choose}
use Rattle.context.specs.declared.choice.Turn.{Turn}
use Rattle.context.proofs.Sounds.{context_facts, facts_context}
use Rattle.context.proofs.Rounds.{round_shut, round_front, round_behind}

-- ---- the first ready one of a stretch

module _ (ready : ℕ → Bool) where
  -- nobody from a to b - 1 is ready
  abbrev pub NoneReady : ℕ → ℕ → Type 0
  NoneReady a b = (i : ℕ) → a ≤ i → i < b → ready i ≡ false

  -- j is the first of them that is
  pub record FirstReady (a b j : ℕ) : Type 0 where
    pub from_there : a ≤ j
    pub before_end : j < b
    pub ready_so : ready j ≡ true
    pub none_before : NoneReady a j

  -- what is found there
  abbrev Found : ℕ → ℕ → Option ℕ → Type 0
  Found a b none = NoneReady a b
  Found a b (some j) = FirstReady a b j

  -- one that is not ready is passed
  none_more : (a b : ℕ) → ready a ≡ false → NoneReady (suc a) b → NoneReady a b
  none_more a b e f i l h = by_cases (ℕ_discrete i a) (λ q. rw q e) (λ ne. f i (omega arith) h)

  found_more : (a b : ℕ) → ready a ≡ false → (o : Option ℕ) → Found (suc a) b o → Found a b o
  found_more a b e none f = none_more a b e f
  found_more a b e (some j) F =
      record {
        from_there = omega (arith, F.from_there);
        before_end = F.before_end;
        ready_so = F.ready_so;
        none_before = none_more a j e F.none_before;
      }

  stretch_found : (a m b : ℕ) → a + m ≡ b → Found a b (first_ready ready (numbers a m))
  unfolding first_ready numbers
  stretch_found a zero b e = λ i l h. absurd (let z : ⊥ = omega arith in z)
  stretch_found a (suc m) b e =
      so_both (Found a b) (ready a) _ _
      (λ t. record {
        from_there = omega arith;
        before_end = omega arith;
        ready_so = t;
        none_before = λ i l h. absurd (let z : ⊥ = omega arith in z);
      })
      (λ t. found_more a b t (first_ready ready (numbers (suc a) m)) (stretch_found (suc a) m b (omega arith)))

  -- ---- of the round

  -- j is named: the first ready one from the turn on; or the first of those before it, where none is from it on
  abbrev pub Names : ℕ → ℕ → ℕ → Type 0
  Names turn n j = FirstReady turn n j ⊎ (NoneReady turn n × FirstReady 0 turn j)

  -- what the round comes to
  abbrev RoundFound : ℕ → ℕ → Option ℕ → Type 0
  RoundFound turn n none = (k : ℕ) → k < n → ready k ≡ false
  RoundFound turn n (some j) = Names turn n j

  -- nobody is ready from the turn on: those before it tell
  rear_found : {turn n : ℕ} → NoneReady turn n → (o : Option ℕ) → Found 0 turn o → RoundFound turn n o
  rear_found {turn} f none g = λ k h. by_cases (dec_lt k turn) (λ b. g k (omega arith) b) (λ b. f k (omega arith) h)
  rear_found f (some j) G = inr (f, G)

  -- who is named is a flow, and ready
  names_there : {turn n j : ℕ} → turn < n → Names turn n j → j < n
  names_there l (inl F) = F.before_end
  names_there l (inr F) = omega (arith, F.1.before_end)

  names_ready : {turn n j : ℕ} → Names turn n j → ready j ≡ true
  names_ready (inl F) = F.ready_so
  names_ready (inr F) = F.1.ready_so

-- ---- how far a flow is from the turn

-- so many steps on, of n flows round
unfoldable pub far : ℕ → ℕ → ℕ → ℕ
far turn n k = if_lt k turn (k + n - turn) (k - turn)

far_ahead : (turn n k : ℕ) → turn ≤ k → k - turn ≡ far turn n k
unfolding far
far_ahead turn n k h = lt_no k turn _ _ _ h refl

far_round : (turn n k : ℕ) → k < turn → k + n - turn ≡ far turn n k
unfolding far
far_round turn n k h = lt_yes k turn _ _ _ h refl

-- fewer than there are flows
pub far_less : (turn n k : ℕ) → turn < n → k < n → far turn n k < n
unfolding far
far_less turn n k t h = lt_both (λ (d : ℕ). d < n) k turn _ _ (λ l. omega arith) (λ l. omega arith)

-- from the turn that follows flow j
module _ (n j k : ℕ) where
  next_far_ahead : j < k → k < n → k - (j + 1) ≡ far ((j + 1) % n) n k
  next_far_ahead l h = rw (mod-eq_of_lt {n = j + 1} {m = n} (omega arith)) (far_ahead (j + 1) n k (omega arith))

  next_far_round : k < j → j < n → k + n - (j + 1) ≡ far ((j + 1) % n) n k
  next_far_round l h =
      by_cases (dec_lt (j + 1) n)
      (λ m. rw (mod-eq_of_lt m) (far_round (j + 1) n k (omega arith)))
      (λ m.
      let e : j + 1 ≡ n = omega arith in
      rw (e, mod_self n) (omega (arith, far_ahead 0 n k (omega arith))))

-- A READY FLOW THAT IS NOT NAMED IS NEARER to the next turn than it was to this one
module _ (ready : ℕ → Bool) {turn n j : ℕ} (t : turn < n) (N : Names ready turn n j) (k : ℕ) (h : k < n) (e : ready k ≡ true) where
  -- it is not one of those that were passed
  not_passed : {a b : ℕ} → NoneReady ready a b → a ≤ k → k < b → ⊥
  not_passed f l m =
      let p = f k l m in
      let z : ◌≡◌ {A = ℕ} 0 1 = cc in
      omega arith

  behind_nearer : j < k → far ((j + 1) % n) n k < far turn n k
  behind_nearer l =
      let d = next_far_ahead n j k l h in
      by_cases (dec_lt k turn)
      (λ b. omega (arith, far_round turn n k b, d))
      (λ b. ⊎_elim
      (λ F. omega (arith, far_ahead turn n k (omega arith), d, F.from_there))
      (λ F. absurd (not_passed F.0 (omega arith) h)) N)

  before_nearer : k < j → far ((j + 1) % n) n k < far turn n k
  before_nearer l =
      ⊎_elim
      (λ F. by_cases (dec_lt k turn)
      (λ b. omega (arith, far_round turn n k b, next_far_round n j k l F.before_end, F.from_there, F.before_end))
      (λ b. absurd (not_passed F.none_before (omega arith) l)))
      (λ F. absurd (not_passed F.1.none_before (omega arith) l)) N

  pub nearer : (k ≡ j) ⊎ (far ((j + 1) % n) n k < far turn n k)
  nearer =
      by_cases (ℕ_discrete k j) (λ q. inl q)
      (λ ne. inr (by_cases (dec_lt j k) behind_nearer (λ b. before_nearer (omega arith))))

-- ---- a choice

-- a sound context with another turn that names a flow is sound
turn_sound : (turn : ℕ) (x : Context) → turn < flow_count x → sound_context x ≡ true → sound_context (with_turn_of turn x) ≡ true
unfolding with_turn stands_at
turn_sound turn x h e =
    let S = context_facts x e in
    facts_context (with_turn_of turn x)
    (record {
      range = S.range;
      sound_window_lem = S.sound_window_lem;
      table = S.table;
      cap = S.cap;
      cut = S.cut;
      stand = S.stand;
      flying = S.flying;
      marked = S.marked;
      bytes = S.bytes;
      backlog = S.backlog;
      flown = S.flown;
      clock_ok = S.clock_ok;
      times_long = S.times_long;
      times_ok_lem = S.times_ok_lem;
      cursor_ok = S.cursor_ok;
      turn_ok = h;
      named = S.named;
    })

-- why nobody is named: no flow is ready, or in-flight + MTU > cwnd
abbrev pub NobodyIn : Context → Type 0
NobodyIn x = ((k : ℕ) → k < flow_count x → is_ready x k ≡ false) ⊎ (window_open x ≡ false)

-- why flow k is named
pub record NamedIn (x : Context) (k : ℕ) : Type 0 where
  pub turn_there : x.state.turn < flow_count x
  pub window_open_lem : window_open x ≡ true
  pub names : Names (is_ready x) x.state.turn (flow_count x) k

-- it is a flow, and ready
pub named_there : {x : Context} {k : ℕ} → NamedIn x k → k < flow_count x
named_there {x} N = names_there (is_ready x) N.turn_there N.names

pub named_ready : {x : Context} {k : ℕ} → NamedIn x k → is_ready x k ≡ true
named_ready {x} N = names_ready (is_ready x) N.names

-- the flow whose turn is offered is the one that is named
offered_named : (x : Context) (j : ℕ) (o : Option ℕ) → some (turn_of x j) ≡ offered_by x o → some j ≡ o
unfolding offered_by turn_of
offered_named x j none e = absurd (let z : ◌≡◌ {A = ℕ} 0 1 = cc in omega arith)
offered_named x j (some k) e =
    let same : turn_of x j ≡ turn_of x k = cc in
    ap (λ (t : Turn). some t.flow) same

module _ (x : Context) (room : window_open x ≡ true) (h : x.state.turn < flow_count x) where
  abbrev turn : ℕ
  turn = x.state.turn

  abbrev n : ℕ
  n = flow_count x

  from_turn : (o : Option ℕ) → o ≡ first_ready (is_ready x) (numbers turn (n - turn)) → Found (is_ready x) turn n o
      → RoundFound (is_ready x) turn n (named_by x)
  unfolding offered_by
  from_turn (some j) e F =
      subst (RoundFound (is_ready x) turn n)
      (offered_named x j (named_by x) (round_front x room (omega arith) (ap (offered_by x) e))) (inl F)
  from_turn none e f =
      subst (RoundFound (is_ready x) turn n) (round_behind x room (omega arith) (ap (offered_by x) e))
      (rear_found (is_ready x) f (first_ready (is_ready x) (numbers 0 (turn - 0))) (stretch_found (is_ready x) 0 (turn - 0) turn (omega arith)))

  -- WHO IS NAMED is the first ready flow from the turn on, round; and nobody is only where no flow is ready
  round_found : RoundFound (is_ready x) turn n (named_by x)
  round_found =
      let front = first_ready (is_ready x) (numbers turn (n - turn)) in
      from_turn front refl (stretch_found (is_ready x) turn (n - turn) n (omega arith))

-- A CHOICE COMES TO ONE OF THREE ANSWERS: number 2, nobody, or the flow that the round names. What holds of each holds of the choice
module _ (P : Chosen → Type 0) (x : Context) (refused : sound_context x ≡ false → P (chose 2 none x))
    (nobody : sound_context x ≡ true → NobodyIn x → P (chose 0 none x))
    (named : (k : ℕ) → sound_context x ≡ true → NamedIn x k
    → P (chose 0 (some (turn_of x k)) (with_turn_of ((k + 1) % flow_count x) x))) where
  -- past number 2, by who is named
  abbrev Past : Option ℕ → Type 0
  Past o = P (chose 0 (offered_by x o) (with_turn_of (turn_after o x) x))

  past_open : sound_context x ≡ true → window_open x ≡ true → (o : Option ℕ)
      → RoundFound (is_ready x) x.state.turn (flow_count x) o → Past o
  unfolding offered_by turn_after with_turn
  past_open e w none f = nobody e (inl f)
  past_open e w (some k) N = named k e (record { turn_there = (context_facts x e).turn_ok; window_open_lem = w; names = N })

  past_shut : sound_context x ≡ true → window_open x ≡ false → Past (named_by x)
  unfolding offered_by turn_after with_turn
  past_shut e w = subst Past (sym (round_shut x w)) (nobody e (inr w))

  past : sound_context x ≡ true → (b : Bool) → window_open x ≡ b → Past (named_by x)
  past e true w = past_open e w (named_by x) (round_found x w (context_facts x e).turn_ok)
  past e false w = past_shut e w

  pub choice_cases : P (on_choose x)
  unfolding on_choose past_choose
  choice_cases = so_both P (sound_context x) _ _ (λ e. past e (window_open x) refl) refused

-- A CHOICE LEAVES A SOUND CONTEXT SOUND ..
pub choose_lasts : (x : Context) → sound_context x ≡ true → sound_context (on_choose x).after ≡ true
choose_lasts x e =
    choice_cases (λ c. sound_context c.after ≡ true) x (λ _. e) (λ _ _. e)
    (λ k _ N. turn_sound ((k + 1) % flow_count x) x (mod-lt (k + 1) (omega (arith, N.turn_there))) e)

-- .. and changes nothing but the turn
pub choose_only : (x : Context) → (on_choose x).after ≡ with_turn_of (on_choose x).after.state.turn x
unfolding with_turn
choose_only x =
    choice_cases (λ c. c.after ≡ with_turn_of c.after.state.turn x) x (λ _. refl) (λ _ _. refl) (λ k _ _. refl)
