-- A flag as a word, and read from one.
-- Assumes nothing.
use Rattle.std.specs.Prelude.{Bool, true, false, List, ℕ, eqb}
use Rattle.c_state.specs.Layout.{word}

unfoldable pub bit : Bool → ℕ
bit true = 1
bit false = 0

-- the flag of word i
abbrev pub flag : List ℕ → ℕ → Bool
flag ws i = eqb (word ws i) 1
