-- Laws of the table as words: a record that is stored is read back, and no other changes.
-- Assumes nothing.
use mathlib.Core.Path.{◌≡◌, refl, sym, ap, ◌∙◌}
use mathlib.Core.Bool.{Bool, true, false}
use mathlib.Core.Logic.{◌≢◌}
use mathlib.Core.List.{List, [], ◌∷◌}
use Prim.Native.Nat.{ℕ, zero, suc, ◌*◌, ◌<◌}
use native.Mathlib.Omega.{arith}
use lib.Dec.{ltb, eqb}
use lib.ListN.{length, get_or, set, length-set}
use lib.Seq.{get_or-set_same, get_or-set_other, set-get_or}
use borrow.Author.Tests.{ltb-true, lt-ltb, eqb-true, eqb-false, eq-eqb}
use Rattle.rules.specs.Test.{both, whole, inside, inside_tells, inside_yes}
use Rattle.serial.specs.Psn.{psns}
use Rattle.ledger.specs.declared.Flow.{Flow}
use Rattle.flow_table.specs.Words.{flow_words, flows_most, low_place, next_place, held_place, backlog_place, word_place, count_of, is_table}
use Rattle.flow_table.specs.Words.{flow_at, with_flow, with_backlog, with_sent, with_acked, fits_at, Table, Fits}

-- ---- a test, and what it tells

pub table_facts : (ws : List ℕ) → is_table ws ≡ true → Table ws
unfolding is_table
table_facts ws e =
    let p = both (eqb (length ws) (flow_words * count_of ws)) (inside 1 (count_of ws) flows_most) e in
    let i = inside_tells 1 (count_of ws) flows_most p.1 in
    record { whole = eqb-true _ _ p.0; some = i.0; few = i.1 }

pub facts_table : (ws : List ℕ) → Table ws → is_table ws ≡ true
unfolding is_table
facts_table ws t = whole (eq-eqb _ _ t.whole) (inside_yes 1 (count_of ws) flows_most t.some t.few)

pub fits_facts : (ws : List ℕ) (k : ℕ) → fits_at ws k ≡ true → Fits ws k
unfolding fits_at
fits_facts ws k e =
    let p = both (ltb (flow_at ws k).low psns) (ltb (flow_at ws k).next psns) e in
    record { low = ltb-true _ _ p.0; next = ltb-true _ _ p.1 }

pub facts_fits : (ws : List ℕ) (k : ℕ) → Fits ws k → fits_at ws k ≡ true
unfolding fits_at
facts_fits ws k f = whole (lt-ltb _ _ f.low) (lt-ltb _ _ f.next)

-- ---- the record of flow k becomes f

module _ (ws : List ℕ) (k : ℕ) (f : Flow) where
  pub with_length : length (with_flow ws k f) ≡ length ws
  unfolding with_flow
  with_length = simp length-set

  pub with_count : count_of (with_flow ws k f) ≡ count_of ws
  with_count = rw with_length

  pub with_table : is_table (with_flow ws k f) ≡ is_table ws
  unfolding is_table
  with_table = rw with_length

  -- another word stays
  stays : (i : ℕ) → i ≢ word_place k low_place → i ≢ word_place k next_place → i ≢ word_place k held_place → i ≢ word_place k backlog_place
      → get_or (with_flow ws k f) i 0 ≡ get_or ws i 0
  unfolding with_flow
  stays i a b c d =
      let w₁ = set ws (word_place k low_place) f.low in
      let w₂ = set w₁ (word_place k next_place) f.next in
      let w₃ = set w₂ (word_place k held_place) f.held in
      get_or-set_other w₃ (word_place k backlog_place) i f.backlog 0 d
      ∙ get_or-set_other w₂ (word_place k held_place) i f.held 0 c
      ∙ get_or-set_other w₁ (word_place k next_place) i f.next 0 b
      ∙ get_or-set_other ws (word_place k low_place) i f.low 0 a

  -- every other flow is as it was
  pub flow_other : (j : ℕ) → j ≢ k → flow_at (with_flow ws k f) j ≡ flow_at ws j
  unfolding flow_at
  flow_other j ne =
      let l = stays (word_place j low_place) (λ e. ne (omega arith)) (λ e. omega arith) (λ e. omega arith) (λ e. omega arith) in
      let n = stays (word_place j next_place) (λ e. omega arith) (λ e. ne (omega arith)) (λ e. omega arith) (λ e. omega arith) in
      let h = stays (word_place j held_place) (λ e. omega arith) (λ e. omega arith) (λ e. ne (omega arith)) (λ e. omega arith) in
      let b = stays (word_place j backlog_place) (λ e. omega arith) (λ e. omega arith) (λ e. omega arith) (λ e. ne (omega arith)) in
      rw (l, n, h, b)

  -- the flow is f, where there is one
  pub flow_same : word_place k backlog_place < length ws → flow_at (with_flow ws k f) k ≡ f
  unfolding flow_at with_flow
  flow_same h =
      let w₁ = set ws (word_place k low_place) f.low in
      let w₂ = set w₁ (word_place k next_place) f.next in
      let w₃ = set w₂ (word_place k held_place) f.held in
      let w₄ = set w₃ (word_place k backlog_place) f.backlog in
      let n₁ : length w₁ ≡ length ws = simp length-set in
      let n₂ : length w₂ ≡ length ws = simp length-set in
      let n₃ : length w₃ ≡ length ws = simp length-set in
      let e₁ : get_or w₄ (word_place k low_place) 0 ≡ f.low =
      get_or-set_other w₃ _ _ _ 0 (λ e. omega arith) ∙ get_or-set_other w₂ _ _ _ 0 (λ e. omega arith)
      ∙ get_or-set_other w₁ _ _ _ 0 (λ e. omega arith) ∙ get_or-set_same ws _ _ 0 (omega arith) in
      let e₂ : get_or w₄ (word_place k next_place) 0 ≡ f.next =
      get_or-set_other w₃ _ _ _ 0 (λ e. omega arith) ∙ get_or-set_other w₂ _ _ _ 0 (λ e. omega arith) ∙ get_or-set_same w₁ _ _ 0 (omega arith) in
      let e₃ : get_or w₄ (word_place k held_place) 0 ≡ f.held =
      get_or-set_other w₃ _ _ _ 0 (λ e. omega arith) ∙ get_or-set_same w₂ _ _ 0 (omega arith) in
      let e₄ : get_or w₄ (word_place k backlog_place) 0 ≡ f.backlog = get_or-set_same w₃ _ _ 0 (omega arith) in
      rw (e₁, e₂, e₃, e₄)

-- what is read and stored again changes nothing
pub with_same : (ws : List ℕ) (k : ℕ) → with_flow ws k (flow_at ws k) ≡ ws
unfolding flow_at with_flow
with_same ws k = simp set-get_or

-- so it is enough to store the words of f that an event can change
module _ (ws : List ℕ) (k : ℕ) (f : Flow) where
  pub with_backlog_lem : set ws (word_place k backlog_place) f.backlog ≡ with_flow ws k (with_backlog (flow_at ws k) f)
  unfolding flow_at with_flow
  with_backlog_lem = simp set-get_or

  pub with_sent_lem : set (set ws (word_place k next_place) f.next) (word_place k backlog_place) f.backlog
      ≡ with_flow ws k (with_sent (flow_at ws k) f)
  unfolding flow_at with_flow
  with_sent_lem =
      let w = set ws (word_place k next_place) f.next in
      let h = get_or-set_other ws (word_place k next_place) (word_place k held_place) f.next 0 (λ e. omega arith) in
      rw (set-get_or ws, ← h, set-get_or w)

  pub with_acked_lem : set (set ws (word_place k low_place) f.low) (word_place k held_place) f.held
      ≡ with_flow ws k (with_acked (flow_at ws k) f)
  unfolding flow_at with_flow
  with_acked_lem =
      let w₁ = set ws (word_place k low_place) f.low in
      let w₂ = set w₁ (word_place k held_place) f.held in
      let n = get_or-set_other ws (word_place k low_place) (word_place k next_place) f.low 0 (λ e. omega arith) in
      let b = get_or-set_other w₁ (word_place k held_place) (word_place k backlog_place) f.held 0 (λ e. omega arith)
      ∙ get_or-set_other ws (word_place k low_place) (word_place k backlog_place) f.low 0 (λ e. omega arith) in
      rw (← n, set-get_or w₁, ← b, set-get_or w₂)

-- stores at two places, in either order
set_swap : (ws : List ℕ) (i j a b : ℕ) → i ≢ j → set (set ws i a) j b ≡ set (set ws j b) i a
set_swap [] i j a b ne = refl
set_swap (w ∷ ws) zero zero a b ne = absurd (ne refl)
set_swap (w ∷ ws) zero (suc j) a b ne = refl
set_swap (w ∷ ws) (suc i) zero a b ne = refl
set_swap (w ∷ ws) (suc i) (suc j) a b ne = ap (λ (l : List ℕ). w ∷ l) (set_swap ws i j a b (λ e. ne (ap suc e)))

-- the words that a send can change and those that an ACK can are the whole record
pub with_whole : (ws : List ℕ) (k : ℕ) (f : Flow) {u v : List ℕ} → u ≡ with_flow ws k (with_sent (flow_at ws k) f)
    → v ≡ with_flow u k (with_acked (flow_at u k) f) → v ≡ with_flow ws k f
unfolding with_flow
with_whole ws k f {u} {v} sent acked =
    let w = set ws (word_place k next_place) f.next in
    let x = set (set ws (word_place k low_place) f.low) (word_place k next_place) f.next in
    acked ∙ sym (with_acked_lem u k f) ∙ rw (sent ∙ sym (with_sent_lem ws k f))
    (rw (
      set_swap w (word_place k backlog_place) (word_place k low_place) f.backlog f.low (λ e. omega arith),
      set_swap ws (word_place k next_place) (word_place k low_place) f.next f.low (λ e. omega arith),
      set_swap x (word_place k backlog_place) (word_place k held_place) f.backlog f.held (λ e. omega arith),
    ))

-- where f's low and next are PSNs, flow j's are too, whether it is the flow that becomes f or another
module _ (ws : List ℕ) (k : ℕ) (f : Flow) (there : word_place k backlog_place < length ws) (low : f.low < psns) (next : f.next < psns)
    (j : ℕ) (others : j ≢ k → Fits ws j) where
  by : (t : Bool) → eqb j k ≡ t → Fits (with_flow ws k f) j
  by true e =
      let s : flow_at (with_flow ws k f) j ≡ f = rw (eqb-true j k e) (flow_same ws k f there) in
      record { low = rw s low; next = rw s next }
  by false e =
      let s = flow_other ws k f j (eqb-false j k e) in
      let o = others (eqb-false j k e) in
      record { low = rw s o.low; next = rw s o.next }

  pub fits_with : Fits (with_flow ws k f) j
  fits_with = by (eqb j k) refl
