-- What one turn adds: of `from_words`, which fills a table by value record by record, and of `to_words`, which spells it out.
-- Assumes nothing.
use mathlib.Core.Path.{◌≡◌, refl, sym, ap, ◌∙◌}
use mathlib.Core.List.{List, [], ◌∷◌, ◌++◌, append_assoc, append-nil}
use Prim.Native.Nat.{ℕ, suc, ◌+◌, ◌-◌, ◌*◌, ◌<◌, ◌≤◌}
use native.Mathlib.Omega.{arith}
use native.Mathlib.Numerals.{add-one}
use lib.ListN.{length, take, get_or, set, replicate, length-append, length-replicate}
use lib.Seq.{length-take-le, take_all, take-suc, set_at}
use Rattle.serial.specs.Psn.{psns}
use Rattle.ledger.specs.declared.Flow.{Flow}
use Rattle.flow_table.specs.Words.{flow_words, flows_most, backlog_place, word_place, flow_at, with_flow, words_of}
use Rattle.flow_table.specs.Words.{first_flows, no_flow, AllFit}
use Rattle.flow_table.specs.Lent.{filled, with_record}
use Rattle.flow_table.specs.declared.lent.Flows.{Flows}
use Rattle.flow_table.proofs.Places.{fits_with}
use Rattle.flow_table.proofs.Records.{words_length, words_set, first_length, first_at}

-- records of zeros up to eight are one and the rest
one_more : (i : ℕ) → i < flows_most → replicate (flows_most - i) no_flow ≡ no_flow ∷ replicate (flows_most - (i + 1)) no_flow
one_more i l = let e : flows_most - i ≡ suc (flows_most - (i + 1)) = omega arith in rw e

pub filled_next : (i : ℕ) (ys : List Flow) → i < length ys → i < flows_most → set (filled i ys) i (get_or ys i no_flow) ≡ filled (i + 1) ys
filled_next i ys l r =
    let rest = replicate (flows_most - (i + 1)) no_flow in
    let left : set (filled i ys) i (get_or ys i no_flow) ≡ take i ys ++ get_or ys i no_flow ∷ rest =
    rw (one_more i r) (set_at (take i ys) no_flow rest (get_or ys i no_flow) i (length-take-le i ys (omega arith))) in
    let more : take (i + 1) ys ≡ take i ys ++ (get_or ys i no_flow ∷ []) = rw add-one (take-suc ys i no_flow l) in
    left ∙ rw more (simp append_assoc)

-- ---- a table by value that is full, and its words

pub filled_length : (i : ℕ) (ys : List Flow) → i ≤ length ys → i ≤ flows_most → length (filled i ys) ≡ flows_most
filled_length i ys l r = simp (length-append, length-replicate, length-take-le i ys l) (omega arith)

pub filled_all : (ys : List Flow) → length ys ≡ flows_most → filled flows_most ys ≡ ys
filled_all ys e = append-nil (take flows_most ys) ∙ take_all flows_most ys (omega arith)

-- `to_words` after k turns: k records have their words, and the other words are 0
pub record Spelt (at : List Flow) (k : ℕ) (ws : List ℕ) : Type 0 where
  pub few : k ≤ flows_most
  pub words : ws ≡ words_of (filled k at)
  pub fit : AllFit k ws

module _ (at : List Flow) (long : length at ≡ flows_most) where
  pub none_spelt : Spelt at 0 (replicate (flow_words * flows_most) 0)
  unfolding words_of
  none_spelt = record { few = omega arith; words = refl; fit = λ j l. absurd (omega arith) }

  pub all_spelt : (k : ℕ) (ws : List ℕ) → Spelt at k ws → flows_most ≤ k → (ws ≡ words_of at) × AllFit flows_most ws
  all_spelt k ws s l =
      let end : k ≡ flows_most = omega (arith, s.few) in
      (s.words ∙ ap (λ (i : ℕ). words_of (filled i at)) end ∙ ap words_of (filled_all at long), λ j h. s.fit j (omega arith))

  module _ (k : ℕ) (ws : List ℕ) (s : Spelt at k ws) where
    pub spelt_length : length ws ≡ flow_words * flows_most
    spelt_length =
        ap length s.words ∙ words_length (filled k at)
        ∙ ap (λ (n : ℕ). flow_words * n) (filled_length k at (omega (arith, s.few)) s.few)

    -- a turn: the next record's words
    pub spelt_next : (f : Flow) → k < flows_most → f ≡ get_or at k no_flow → f.low < psns → f.next < psns → (vs : List ℕ)
        → vs ≡ with_flow ws k f → Spelt at (k + 1) vs
    spelt_next f m g low next vs e =
        let there : word_place k backlog_place < length ws = omega (arith, spelt_length) in
        record {
          few = omega arith;
          words = rw (e, s.words, g) (words_set (filled k at) k (get_or at k no_flow) ∙ ap words_of (filled_next k at (omega arith) m));
          fit = λ j h. rw e (fits_with ws k f there low next j (λ ne. s.fit j (omega (arith, ne))));
        }

-- ---- `from_words` after k turns: k records are read, and the others are zeros

abbrev pub first_read : ℕ → List ℕ → ℕ → Flows
first_read n ws k = record { n = n; at = filled k (first_flows n ws) }

pub read_next : (n : ℕ) (ws : List ℕ) (k : ℕ) (fs : Flows) (f : Flow) → n ≤ flows_most → k < n → fs ≡ first_read n ws k → f ≡ flow_at ws k
    → with_record fs k f ≡ first_read n ws (k + 1)
read_next n ws k fs f few l e g =
    let h : f ≡ get_or (first_flows n ws) k no_flow = g ∙ sym (first_at n ws k l) in
    rw (e, h) (ap (λ (at : List Flow). record { n = n; at = at }) (filled_next k (first_flows n ws) (omega (arith, first_length n ws))
    (omega arith)))
