-- An event over a table of records: between the lent records, the table by value and the words that the entry point works on.
--     Lends, step_fits, step_left    the step over the table by value: what is left of the words is records again
--     called_answer, step_answer    what it answers, of an event whose call is known only by what its closure promises
--     over-table, over-said     the records stored again: the table that was lent is left as the event's definition says
-- Assumes nothing.
use mathlib.Core.Path.{◌≡◌, refl, sym, ap, ◌∙◌}
use mathlib.Core.Bool.{true, false}
use mathlib.Core.Logic.{⊎_elim}
use mathlib.Core.List.{List, [], ◌++◌, append-nil}
use Rattle.std.proofs.Common.{MutBor}
use Prim.Native.Nat.{ℕ, ◌-◌, ◌*◌, ◌≤◌, ◌<◌}
use native.Mathlib.Omega.{arith}
use lib.ListN.{length, take, drop}
use Rattle.rules.specs.Branch.{lt_both}
use Rattle.ledger.specs.Memory.{Memory, memory}
use Rattle.ledger.specs.declared.Flow.{Flow}
use Rattle.flow_table.specs.Words.{flow_words, flows_most, count_of, words_of, first_flows, AllFit}
use Rattle.flow_table.specs.Lent.{loaded, saved, value_words, value_from}
use Rattle.flow_table.specs.declared.lent.Flows.{Flows}
use Rattle.flow_table.proofs.Plain.{outcome}
use Rattle.flow_table.proofs.Records.{words_length, words_count, first_front, flows_words}
use Rattle.flow_table.proofs.Trips.{load_save, lent_words, flows_saved, front_fit, left_front, left_length, left_fit}
use Rattle.context.specs.Context.{Context, context, Answered, answered, flow_count}
use Rattle.context.specs.Sound.{sound_context}
use Rattle.context.specs.Table.{Tabled, tabled, in_records, Keeps, Stepped, stepped, by_value, unless_many, on_flows}
use Rattle.context.specs.declared.Controller.{Controller}
use Rattle.context.proofs.Sounds.{context_facts}
use Rattle.context.proofs.Joins.{flow_fits}
use Rattle.context.proofs.Events.{Event}

-- low and next of every flow of a sound context are PSNs
sound_fit : (x : Context) → sound_context x ≡ true → AllFit (flow_count x) x.flows
sound_fit x e k h = flow_fits x (context_facts x e) k h

-- more than eight records are no table's words
many_unsound : (c : Controller) (ys : List Flow) (m : Memory) (t : List ℕ) → flows_most < length ys
    → sound_context (context c (words_of ys) m t) ≡ false
many_unsound c ys m t many =
    ⊎_elim (λ e. let few = (context_facts (context c (words_of ys) m t) e).table.few in absurd (omega (arith, few, words_count ys)))
    (λ e. e) (outcome (sound_context (context c (words_of ys) m t)))

module _ (on : Context → Answered) (E : Event on) where
  -- low and next stay PSNs, whatever is answered
  left_fits : (x : Context) → AllFit (flow_count x) x.flows → AllFit (count_of (on x).after.flows) (on x).after.flows
  left_fits x fit =
      ⊎_elim (λ e. sound_fit (on x).after (E.lasts x e))
      (λ e. let same : (on x).after.flows ≡ x.flows = ap (λ (r : Answered). r.after.flows) (E.refuses x e) in rw same fit)
      (outcome (sound_context x))

-- ---- the step: the words ws of the eight records, of which those of the n that there are were lent, and left as ys

pub record Lends (fs : Flows) (ws ys : List ℕ) : Type 0 where
  pub words : ws ≡ value_words fs
  pub eight : length fs.at ≡ flows_most
  pub few : fs.n ≤ flows_most
  pub keeps : Keeps (take (flow_words * fs.n - 0) ws) ys

module _ {fs : Flows} {ws ys : List ℕ} (L : Lends fs ws ys) where
  -- the words after it, and those that were not lent behind them
  abbrev left : List ℕ
  left = ys ++ drop (flow_words * fs.n - 0) ws

  whole_long : length ws ≡ flow_words * flows_most
  whole_long = ap length L.words ∙ words_length fs.at ∙ ap (λ (n : ℕ). flow_words * n) L.eight

  room_n : flow_words * fs.n ≤ length ws
  room_n = omega (arith, whole_long, L.few)

  pub step_long : length left ≡ flow_words * flows_most
  step_long = left_length fs.n ws room_n ys L.keeps.0 ∙ whole_long

  -- WHAT IS LEFT IS RECORDS AGAIN: what `from_words` asks
  pub step_fits : AllFit flows_most ws → ((fs.n ≤ flows_most) × (flow_words * fs.n ≤ length left)) × AllFit fs.n left
  step_fits fit =
      let lent = front_fit fs.n ws room_n (λ k h. fit k (omega (arith, L.few))) in
      ((L.few, omega (arith, step_long, L.few)), left_fit fs.n ws room_n ys L.keeps.0 (L.keeps.1 lent))

  -- what the event saw, and what is read of what it left
  pub step_given : take (flow_words * fs.n - 0) ws ≡ take (flow_words * fs.n) (value_words fs)
  step_given = let start : flow_words * fs.n - 0 ≡ flow_words * fs.n = omega arith in rw (start, L.words) refl

  pub step_left : value_from fs.n left ≡ value_from fs.n ys
  step_left = rw (first_front fs.n ys (drop (flow_words * fs.n - 0) ws) (left_front fs.n ws room_n ys L.keeps.0)) refl

-- ---- the step's answer, of an event

-- what is asked of the event's call
pub event_keeps : (on : Context → Answered) → Event on → (x : Context) (r : Answered) → r ≡ on x → Keeps x.flows r.after.flows
event_keeps on E x r e =
    let same = ap (λ (a : Answered). a.after.flows) e in (ap length same ∙ E.long x, λ fit. rw same (left_fits on E x fit))

-- THE STEP'S ANSWER, of more flows than there is room for and of others, and what else the event says
pub step_answer : (on : Context → Answered) {fs : Flows} {x : Context} {r : Stepped}
    → (flows_most < fs.n → r ≡ stepped 2 x.state fs x.slots x.times) → (fs.n ≤ flows_most → r ≡ by_value fs.n (on x)) → r ≡ on_flows fs on x
step_answer on {fs = fs} {r = r} many few = lt_both (λ (v : Stepped). r ≡ v) flows_most fs.n _ _ many few

pub step_said : {A : Type 0} (fs : Flows) {v refused said : A} → (flows_most < fs.n → v ≡ refused) → (fs.n ≤ flows_most → v ≡ said)
    → v ≡ unless_many fs refused said
step_said fs {v = v} many few = lt_both (λ (w : _). v ≡ w) flows_most fs.n _ _ many few

-- ---- a call of an event in the step, whatever it may say of the twelve references

-- the step's call: what it says, the context that it saw, and the step's answer
abbrev pub Called : (MutBor (List ℕ) → MutBor (List ℕ) → MutBor (List ℕ) → MutBor (List ℕ) → MutBor (List ℕ) → MutBor (List ℕ) → MutBor (List ℕ) → MutBor (List ℕ) → MutBor (List ℕ) → MutBor (List ℕ) → MutBor (List ℕ) → MutBor (List ℕ) → Type 0)
    → Controller → Context → ℕ → ℕ → Controller → Stepped → Type 0
Called Post c x k n left v = (p o m z s e p' o' m' z' s' e' : MutBor (List ℕ)) × Post p o m z s e p' o' m' z' s' e'
    × (context c p.now (memory o.now m.now z.now s.now) e.now ≡ x)
    × (v ≡ by_value k (answered n left p'.now (memory o'.now m'.now z'.now s'.now) e'.now))

pub called_answer : {Post : MutBor (List ℕ) → MutBor (List ℕ) → MutBor (List ℕ) → MutBor (List ℕ) → MutBor (List ℕ) → MutBor (List ℕ) → MutBor (List ℕ) → MutBor (List ℕ) → MutBor (List ℕ) → MutBor (List ℕ) → MutBor (List ℕ) → MutBor (List ℕ) → Type 0}
    (on : Context → Answered) {c left : Controller} {x : Context} {k n : ℕ} {v : Stepped} → Called Post c x k n left v
    → ((p o m z s e p' o' m' z' s' e' : MutBor (List ℕ)) → Post p o m z s e p' o' m' z' s' e'
    → answered n left p'.now (memory o'.now m'.now z'.now s'.now) e'.now ≡ on (context c p.now (memory o.now m.now z.now s.now) e.now))
    → v ≡ by_value k (on x)
called_answer on {k = k} C f = C.14 ∙ ap (by_value k) (f _ _ _ _ _ _ _ _ _ _ _ _ C.12 ∙ ap on C.13)

pub called_said : {Post : MutBor (List ℕ) → MutBor (List ℕ) → MutBor (List ℕ) → MutBor (List ℕ) → MutBor (List ℕ) → MutBor (List ℕ) → MutBor (List ℕ) → MutBor (List ℕ) → MutBor (List ℕ) → MutBor (List ℕ) → MutBor (List ℕ) → MutBor (List ℕ) → Type 0}
    {A : Type 0} (say : Context → A) {c left : Controller} {x : Context} {k n : ℕ} {v : Stepped} {w : A} → Called Post c x k n left v
    → ((p o m z s e p' o' m' z' s' e' : MutBor (List ℕ)) → Post p o m z s e p' o' m' z' s' e' → w ≡ say (context c p.now (memory o.now m.now z.now s.now) e.now)) → w ≡ say x
called_said say C f = f _ _ _ _ _ _ _ _ _ _ _ _ C.12 ∙ ap say C.13

-- ---- the records of a table ys, loaded, and stored again

module _ (on : Context → Answered) (E : Event on) where
  module _ (ys : List Flow) (c : Controller) (m : Memory) (t : List ℕ) where
    abbrev x : Context
    x = context c (words_of ys) m t

    abbrev front : Context
    front = context c (take (flow_words * length ys) (value_words (loaded ys))) m t

    abbrev store : Stepped → Tabled
    store r = tabled r.number r.state (saved r.flows ys) r.slots r.times

    few_stored : length ys ≤ flows_most → store (by_value (length ys) (on front)) ≡ in_records (on x)
    few_stored few =
        let seen : front ≡ x = ap (λ (ws : List ℕ). context c ws m t) (lent_words ys few) in
        let n : length (on x).after.flows ≡ flow_words * length ys = E.long x ∙ words_length ys in
        let all : saved (value_from (length ys) (on x).after.flows) ys ≡ first_flows (length ys) (on x).after.flows =
        ap (λ (ws : List ℕ). saved (value_from (length ys) ws) ys) (sym (append-nil (on x).after.flows))
        ∙ flows_saved ys few (on x).after.flows [] n in
        let count : length ys ≡ count_of (on x).after.flows = omega (arith, n) in
        ap (λ (y : Context). store (by_value (length ys) (on y))) seen
        ∙ ap (λ (l : List Flow). tabled (on x).number (on x).after.state l (on x).after.slots (on x).after.times)
        (all ∙ ap (λ (k : ℕ). first_flows k (on x).after.flows) count)

    many_stored : flows_most < length ys → store (stepped 2 c (loaded ys) m t) ≡ in_records (on x)
    many_stored many =
        ap (λ (l : List Flow). tabled 2 c l m t) (load_save ys ∙ sym (flows_words ys))
        ∙ ap in_records (sym (E.refuses x (many_unsound c ys m t many)))

    -- WHAT THE STEP LEAVES, STORED IN THE TABLE, is the event's answer in records
    pub over_table : {number : ℕ} {c' : Controller} {gs : Flows} {m' : Memory} {t' : List ℕ}
        → stepped number c' gs m' t' ≡ on_flows (loaded ys) on front → tabled number c' (saved gs ys) m' t' ≡ in_records (on x)
    over_table e =
        ap store e ∙ lt_both (λ (r : Stepped). store r ≡ in_records (on x)) flows_most (length ys) _ _ many_stored few_stored

-- the same of what else an event says, where it says `refused` of a context that does not hold together
pub over_said : {A : Type 0} (say : Context → A) (refused : A) → ((x : Context) → sound_context x ≡ false → refused ≡ say x)
    → (ys : List Flow) (c : Controller) (m : Memory) (t : List ℕ) {v : A}
    → v ≡ unless_many (loaded ys) refused (say (context c (take (flow_words * length ys) (value_words (loaded ys))) m t))
    → v ≡ say (context c (words_of ys) m t)
over_said say refused none ys c m t e =
    e ∙ lt_both (λ (v : _). v ≡ say (context c (words_of ys) m t)) flows_most (length ys) _ _
    (λ many. none (context c (words_of ys) m t) (many_unsound c ys m t many))
    (λ few. ap (λ (ws : List ℕ). say (context c ws m t)) (lent_words ys few))

-- ---- the three steps of a method: the table loaded, the step over it by value, the table stored

-- the table fs is loaded from ys and leaves them, the step leaves gs, which is stored: the event's answer in records
pub method_table : (on : Context → Answered) → Event on → {ys kept left : List Flow} {fs gs : Flows} (c : Controller) (m : Memory) (t : List ℕ)
    {number : ℕ} {c' : Controller} {m' : Memory} {t' : List ℕ}
    → (fs ≡ loaded ys) × (kept ≡ ys) → left ≡ saved gs kept
    → stepped number c' gs m' t' ≡ on_flows fs on (context c (take (flow_words * fs.n) (value_words fs)) m t)
    → tabled number c' left m' t' ≡ in_records (on (context c (words_of ys) m t))
method_table on E {ys = ys} {gs = gs} c m t {number = number} {c' = c'} {m' = m'} {t' = t'} l s e =
    ap (λ (zs : List Flow). tabled number c' zs m' t') (s ∙ ap (saved gs) l.1)
    ∙ over_table on E ys c m t
    (e ∙ ap (λ (fs : Flows). on_flows fs on (context c (take (flow_words * fs.n) (value_words fs)) m t)) l.0)

-- the same of what else the event says
pub method_said : {A : Type 0} (say : Context → A) (refused : A) → ((x : Context) → sound_context x ≡ false → refused ≡ say x)
    → (ys : List Flow) {fs : Flows} (c : Controller) (m : Memory) (t : List ℕ) {v : A} → fs ≡ loaded ys
    → v ≡ unless_many fs refused (say (context c (take (flow_words * fs.n) (value_words fs)) m t))
    → v ≡ say (context c (words_of ys) m t)
method_said say refused unsaid ys c m t l e =
    over_said say refused unsaid ys c m t
    (e ∙ ap (λ (fs : Flows). unless_many fs refused (say (context c (take (flow_words * fs.n) (value_words fs)) m t))) l)
