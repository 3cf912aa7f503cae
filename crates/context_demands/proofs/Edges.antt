-- Definitions of requests M-107 and M-108 at their edges, by computation: the number of flows (none, one, eight, nine, a flow cut short), a
-- PSN of 32 bits, a flow in range and out of it, the order of 3 and 25; the round of turns from its first flow, its last and one between.
-- Assumes nothing.
use mathlib.Core.Path.{◌≡◌, refl}
use mathlib.Core.Bool.{Bool, true, false}
use mathlib.Core.List.{List, [], ◌∷◌}
use mathlib.Core.Option.{none, some}
use Prim.Native.Nat.{ℕ, ◌-◌, ◌^◌}
use lib.Dec.{eqb}
use lib.ListN.{replicate}
use Rattle.rules.specs.Branch.{if_so}
use Rattle.rules.specs.Rows.{row, first_of}
use Rattle.rules.specs.Test.{inside}
use Rattle.flow_table.specs.Words.{is_table, fits_at, flow_at}
use Rattle.context.specs.Context.{Context, flow_count}
use Rattle.context.specs.Rows.{with_flow_row}
use Rattle.context.specs.Turns.{numbers, round_of, first_ready, turn_after}

-- words of n zeros
abbrev words : ℕ → List ℕ
words n = replicate n 0

-- "one to eight" flows of four words each
tables : (is_table (words 0) ≡ false) × (is_table (words 3) ≡ false) × (is_table (words 4) ≡ true) × (is_table (words 5) ≡ false)
    × (is_table (words 32) ≡ true) × (is_table (words 35) ≡ false) × (is_table (words 36) ≡ false)
unfolding is_table inside
tables = (refl, refl, refl, refl, refl, refl, refl)

-- "PSN: 32 bits"
psns_fit : (fits_at ((2 ^ 32 - 1) ∷ (2 ^ 32 - 1) ∷ 0 ∷ 0 ∷ []) 0 ≡ true) × (fits_at (2 ^ 32 ∷ 0 ∷ 0 ∷ 0 ∷ []) 0 ≡ false)
    × (fits_at (0 ∷ 2 ^ 32 ∷ 0 ∷ 0 ∷ []) 0 ≡ false)
unfolding fits_at flow_at
psns_fit = (refl, refl, refl)

-- the rows of flow k of a context: 3, then 25, then another that applies
abbrev number_at : Bool → Context → ℕ → ℕ
number_at late x k = first_of (with_flow_row k x (row late 3 ∷ row true 4 ∷ []))

eight_flows : (x : Context) → flow_count x ≡ 8
    → (number_at false x 7 ≡ 4) × (number_at false x 8 ≡ 25) × (number_at false x (2 ^ 64 - 1) ≡ 25) × (number_at true x 8 ≡ 3)
unfolding first_of if_so
eight_flows x e = rw e (refl, refl, refl, refl)

one_flow : (x : Context) → flow_count x ≡ 1 → (number_at false x 0 ≡ 4) × (number_at false x 1 ≡ 25)
unfolding first_of if_so
one_flow x e = rw e (refl, refl)

-- ---- turns

-- from flow 0, from the last one, from one between; of one flow
rounds : (round_of 0 3 ≡ 0 ∷ 1 ∷ 2 ∷ []) × (round_of 2 3 ≡ 2 ∷ 0 ∷ 1 ∷ []) × (round_of 1 3 ≡ 1 ∷ 2 ∷ 0 ∷ []) × (round_of 0 1 ≡ 0 ∷ [])
unfolding numbers
rounds = (refl, refl, refl, refl)

-- flow j alone is ready
abbrev only : ℕ → ℕ → Bool
only j k = eqb k j

-- the first ready one from the turn on, the turn itself first and the flow before it last; nobody
found : (first_ready (only 5) (round_of 5 8) ≡ some 5) × (first_ready (only 4) (round_of 5 8) ≡ some 4)
    × (first_ready (λ _. true) (round_of 7 8) ≡ some 7) × (first_ready (λ _. false) (round_of 5 8) ≡ none)
unfolding numbers first_ready if_so
found = (refl, refl, refl, refl)

-- the turn goes to the flow behind the one named, from the last flow to flow 0, and stays where nobody is
turns_go : (x : Context) → flow_count x ≡ 8
    → (turn_after (some 0) x ≡ 1) × (turn_after (some 6) x ≡ 7) × (turn_after (some 7) x ≡ 0) × (turn_after none x ≡ x.state.turn)
unfolding turn_after
turns_go x e = rw e (refl, refl, refl, refl)
