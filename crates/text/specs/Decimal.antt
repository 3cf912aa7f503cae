-- Numbers as decimal text, in ASCII, and text at a position of a buffer.
-- Assumes nothing.
use Rattle.std.specs.Prelude.{◌≡◌, ℕ, zero, suc, ◌+◌, ◌-◌, ◌*◌, ◌/◌, ◌%◌, List, [], ◌∷◌, ◌++◌, ℤ, pos, negsuc, length}
use Rattle.std.proofs.lemmas.List.Edits.{sets}
use Rattle.rules.specs.Branch.{if_lt}

abbrev pub space : ℕ
space = 32

abbrev pub newline : ℕ
newline = 10

-- the code of `0`, which those of `1` to `9` follow
abbrev pub zero_glyph : ℕ
zero_glyph = 48

-- the code of `-`
abbrev pub minus_glyph : ℕ
minus_glyph = 45

-- as many bytes as the text of a number of 64 bits can have, signed or not
abbrev pub digits_most : ℕ
digits_most = 20

-- the decimal digits of n, of which there are at most k: its last digit stands after those of n / 10
unfoldable pub digits_in : ℕ → ℕ → List ℕ
digits_in zero n = []
digits_in (suc k) n = if_lt n 10 ((zero_glyph + n) ∷ []) (digits_in k (n / 10) ++ ((zero_glyph + n % 10) ∷ []))

-- the decimal digits of a number of 64 bits
unfoldable pub decimal : ℕ → List ℕ
decimal n = digits_in digits_most n

-- a column of a line: a space and a number
abbrev pub column : ℕ → List ℕ
column n = space ∷ decimal n

-- as many bytes as a column can have
abbrev pub column_most : ℕ
column_most = 1 + digits_most

-- a number below zero has a minus sign in front
unfoldable pub signed : ℤ → List ℕ
signed (pos n) = decimal n
signed (negsuc n) = minus_glyph ∷ decimal (suc n)

-- the number that digits spell, after those that spell v
unfoldable pub value_from : ℕ → List ℕ → ℕ
value_from v [] = v
value_from v (d ∷ ds) = value_from (v * 10 + (d - zero_glyph)) ds

-- the number that digits spell
unfoldable pub value_of : List ℕ → ℕ
value_of ds = value_from 0 ds

-- words were put at a position of a buffer, and next is the position past them
pub record Put (before : List ℕ) (at : ℕ) (words after : List ℕ) (next : ℕ) : Type 0 where
  pub past : next ≡ at + length words
  pub is : after ≡ sets before at words
