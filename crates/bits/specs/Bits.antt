-- Words of 64 bits, and arrays of them: "slot i's bit is bit i mod 64 of word i/64".
-- Assumes nothing.
use Rattle.std.specs.Prelude.{Bool, not, ◌&&◌, List, [], ◌∷◌, ℕ, zero, suc, ◌+◌, ◌*◌, ◌/◌, ◌%◌, ◌^◌, eqb, ltb, get_or, set}
use Rattle.rules.specs.Branch.{if_so, if_eq}

-- the bits of a word
abbrev pub word_bits : ℕ
word_bits = 64

-- bit j of a word is set
unfoldable pub bit : ℕ → ℕ → Bool
bit w j = eqb (w / 2 ^ j % 2) 1

-- a number of 64 bits
unfoldable pub is_word : ℕ → Bool
is_word w = ltb w (2 ^ word_bits)

-- bit i of an array of words
unfoldable pub bit_at : List ℕ → ℕ → Bool
bit_at ws i = bit (get_or ws (i / word_bits) 0) (i % word_bits)

-- 1 where a test holds
unfoldable pub one : Bool → ℕ
one b = if_so b 1 0

-- the number whose k lowest bits are these, lowest first, and that has no other
unfoldable pub value_of : (ℕ → Bool) → ℕ → ℕ
value_of f zero = 0
value_of f (suc k) = one (f 0) + 2 * value_of (λ j. f (suc j)) k

-- the word of these bits
abbrev pub word_of : (ℕ → Bool) → ℕ
word_of f = value_of f word_bits

-- n words of these bits
unfoldable pub words_of : (ℕ → Bool) → ℕ → List ℕ
words_of f zero = []
words_of f (suc n) = word_of f ∷ words_of (λ i. f (word_bits + i)) n

-- one bit put, the others as they were
unfoldable pub with_bit : ℕ → ℕ → Bool → ℕ
with_bit w r b = word_of (λ j. if_eq j r b (bit w j))

unfoldable pub put_bit : List ℕ → ℕ → Bool → List ℕ
put_bit ws i b = set ws (i / word_bits) (with_bit (get_or ws (i / word_bits) 0) (i % word_bits) b)

-- the bits of a word that a mask leaves out
unfoldable pub without : ℕ → ℕ → ℕ
without w mask = word_of (λ j. bit w j && not (bit mask j))

-- the first of 0 .. k - 1 at which a test holds; k where it holds at none
unfoldable pub lowest : (ℕ → Bool) → ℕ → ℕ
lowest f zero = 0
lowest f (suc k) = if_so (f 0) 0 (suc (lowest (λ j. f (suc j)) k))

-- what 0 .. n - 1 add up to
unfoldable pub sum_to : (ℕ → ℕ) → ℕ → ℕ
sum_to f zero = 0
sum_to f (suc n) = sum_to f n + f n

-- how many bits of a word a mask finds set
unfoldable pub count_in : ℕ → ℕ → ℕ
count_in w mask = sum_to (λ j. one (bit w j && bit mask j)) word_bits
