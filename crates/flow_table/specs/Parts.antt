-- The parts of a ring buffer. Request M-107: the flows' "rings in one lent ring buffer cut into equal parts". Flow k's slots are the `cap`
-- ones from k · cap on, and its bits the cap / 64 words from k · (cap / 64) on.
-- Assumes nothing.
use Rattle.std.specs.Prelude.{◌≡◌, List, ◌++◌, ℕ, ◌+◌, ◌*◌, ◌/◌, ◌≤◌, length, take, drop}
use Rattle.bits.specs.Bits.{word_bits}
use Rattle.ledger.specs.Memory.{Memory, memory}

-- the `len` elements of a list from `from` on: what is lent of it as `&xs[from..from + len]`
unfoldable pub part : ℕ → ℕ → List ℕ → List ℕ
part from len xs = take len (drop from xs)

-- the list with p in that part's place: how it is once a part that was lent as `&mut xs[from..from + len]` is left as p
unfoldable pub around : ℕ → ℕ → List ℕ → List ℕ → List ℕ
around from len xs p = take from xs ++ (p ++ drop len (drop from xs))

-- how many words of bits a flow's ring has
abbrev pub words_in : ℕ → ℕ
words_in cap = cap / word_bits

-- flow k's ring
unfoldable pub part_of : ℕ → ℕ → Memory → Memory
part_of cap k m =
    memory (part (k * words_in cap) (words_in cap) m.outstanding) (part (k * words_in cap) (words_in cap) m.marked)
    (part (k * cap) cap m.sizes) (part (k * cap) cap m.sent)

-- the ring buffer with p for flow k's ring
unfoldable pub put_part : ℕ → ℕ → Memory → Memory → Memory
put_part cap k m p =
    memory (around (k * words_in cap) (words_in cap) m.outstanding p.outstanding)
    (around (k * words_in cap) (words_in cap) m.marked p.marked)
    (around (k * cap) cap m.sizes p.sizes) (around (k * cap) cap m.sent p.sent)

-- n rings of `cap` slots, end to end; one ring of `cap` slots is `Rings 1 cap`
pub record Rings (n cap : ℕ) (m : Memory) : Type 0 where
  pub outstanding : length m.outstanding ≡ n * words_in cap
  pub marked : length m.marked ≡ n * words_in cap
  pub sizes : length m.sizes ≡ n * cap
  pub sent : length m.sent ≡ n * cap

-- flow k's part lies in each of the four slices
pub record Within (cap k : ℕ) (m : Memory) : Type 0 where
  pub outstanding : k * words_in cap + words_in cap ≤ length m.outstanding
  pub marked : k * words_in cap + words_in cap ≤ length m.marked
  pub sizes : k * cap + cap ≤ length m.sizes
  pub sent : k * cap + cap ≤ length m.sent
