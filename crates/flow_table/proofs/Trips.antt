-- From the lent table to words and back. An event loads the table, works on the words of its n records, which stand at the front of the
-- eight's, and saves the records of the words that it leaves: `lent_words`, `words_saved`. Where it leaves the words as they were the table
-- is as it was: `load_save`, `same_saved`.
-- Assumes nothing.
use mathlib.Core.Path.{◌≡◌, refl, sym, ap, ◌∙◌}
use mathlib.Core.List.{List, ◌++◌, append-nil}
use Prim.Native.Nat.{ℕ, ◌-◌, ◌*◌, ◌<◌, ◌≤◌}
use native.Mathlib.Omega.{arith}
use lib.ListN.{length, take, drop, replicate, length-append, length-drop, take-append-drop, drop_of_length-le, get_or-append}
use lib.Seq.{length-take-le, take_all, take_at, get_or-take}
use Rattle.ledger.specs.declared.Flow.{Flow}
use Rattle.flow_table.specs.Words.{flow_words, flows_most, word_place, count_of, flow_at, words_of, first_flows, no_flow, AllFit}
use Rattle.flow_table.specs.Lent.{room, filled, loaded, saved, value_words, value_from}
use Rattle.flow_table.proofs.Records.{words_length, words_take, words_count, first_length, first_words, first_front, flows_words}

-- a table is as it was once it is loaded and saved, whatever its length
pub load_save : (ys : List Flow) → saved (loaded ys) ys ≡ ys
load_save ys =
    let m = room (length ys) in
    let front : take m (loaded ys).at ≡ take m ys =
    take_at (take m ys) (replicate (flows_most - m) no_flow) m (length-take-le m ys (omega arith)) in
    ap (λ (l : List Flow). l ++ drop m ys) front ∙ take-append-drop m ys

-- what is saved in a table of at most eight is all of it
all_saved : (n : ℕ) (xs ys : List Flow) → length ys ≡ n → length xs ≡ n → n ≤ flows_most
    → saved (record { n = n; at = filled n xs }) ys ≡ xs
all_saved n xs ys e f few =
    let r : room (length ys) ≡ n = omega arith in
    let front : take n (filled n xs) ≡ xs =
    take_at (take n xs) (replicate (flows_most - n) no_flow) n (length-take-le n xs (omega arith)) ∙ take_all n xs (omega arith) in
    rw (r, front, drop_of_length-le ys {i = n} (omega arith)) (append-nil xs)

module _ (ys : List Flow) (few : length ys ≤ flows_most) where
  -- the words of a table stand at the front of the eight's
  pub lent_words : take (flow_words * length ys) (value_words (loaded ys)) ≡ words_of ys
  lent_words =
      let r : room (length ys) ≡ length ys = omega arith in
      words_take (length ys) (loaded ys).at
      ∙ ap words_of (rw (r, take_all (length ys) ys (omega arith)) (take_at ys (replicate (flows_most - length ys) no_flow) (length ys) refl))

  -- the event leaves the words p at the front
  module _ (p rest : List ℕ) (as_long : length p ≡ flow_words * length ys) where
    -- their records are saved
    pub flows_saved : saved (value_from (length ys) (p ++ rest)) ys ≡ first_flows (length ys) p
    flows_saved =
        all_saved (length ys) (first_flows (length ys) (p ++ rest)) ys refl (first_length (length ys) (p ++ rest)) few
        ∙ first_front (length ys) p rest as_long

    -- so the table's words are p
    pub words_saved : words_of (saved (value_from (length ys) (p ++ rest)) ys) ≡ p
    words_saved = ap words_of flows_saved ∙ first_words (length ys) p as_long

  -- words that are left as they were
  pub same_saved : (rest : List ℕ) → saved (value_from (length ys) (words_of ys ++ rest)) ys ≡ ys
  same_saved rest =
      flows_saved (words_of ys) rest (words_length ys)
      ∙ ap (λ (n : ℕ). first_flows n (words_of ys)) (sym (words_count ys)) ∙ flows_words ys

-- flows whose low and next are PSNs are so with other words behind theirs, and without
pub fit_front : (n : ℕ) (ws vs : List ℕ) → length ws ≡ flow_words * n → AllFit n ws → AllFit n (ws ++ vs)
unfolding flow_at
fit_front n ws vs e fit k l =
    let f = fit k l in
    record {
      low = rw (get_or-append ws vs 0 (word_place k 0) (omega arith)) f.low;
      next = rw (get_or-append ws vs 0 (word_place k 1) (omega arith)) f.next;
    }

pub fit_take : (n : ℕ) (ws : List ℕ) → flow_words * n ≤ length ws → AllFit n ws → AllFit n (take (flow_words * n) ws)
unfolding flow_at
fit_take n ws few fit k l =
    let f = fit k l in
    record {
      low = rw (get_or-take (flow_words * n) ws (word_place k 0) 0 (omega arith)) f.low;
      next = rw (get_or-take (flow_words * n) ws (word_place k 1) 0 (omega arith)) f.next;
    }

-- ---- the words of n flows lent as the front `&mut words[0..end]` of more, with end = 4n as the code has it, and left as p

module _ (n : ℕ) (ws : List ℕ) (room_n : flow_words * n ≤ length ws) where
  start : flow_words * n - 0 ≡ flow_words * n
  start = omega arith

  lent_length : length (take (flow_words * n - 0) ws) ≡ flow_words * n
  lent_length = rw start (length-take-le (flow_words * n) ws room_n)

  -- low and next are PSNs in what is lent
  pub front_fit : AllFit n ws → AllFit (count_of (take (flow_words * n - 0) ws)) (take (flow_words * n - 0) ws)
  front_fit fit k l =
      let h : k < n = omega (arith, lent_length) in
      rw start (fit_take n ws room_n fit k h)

  module _ (p : List ℕ) (as_long : length p ≡ length (take (flow_words * n - 0) ws)) where
    pub left_front : length p ≡ flow_words * n
    left_front = as_long ∙ lent_length

    -- no word is lost
    pub left_length : length (p ++ drop (flow_words * n - 0) ws) ≡ length ws
    left_length = simp (length-append, length-drop, left_front) (omega arith)

    -- low and next are PSNs where they are in what is left
    pub left_fit : AllFit (count_of p) p → AllFit n (p ++ drop (flow_words * n - 0) ws)
    left_fit fit = fit_front n p (drop (flow_words * n - 0) ws) left_front (λ k l. fit k (omega (arith, left_front)))
