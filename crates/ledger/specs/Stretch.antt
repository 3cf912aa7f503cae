-- Tests and sums over slots that lie beside each other, and over words of bits: what number 2's test is made of.
-- Assumes nothing.
use Rattle.std.specs.Prelude.{◌≡◌, ℕ, ◌+◌, ◌-◌, ◌*◌, Bool, true, not, ◌&&◌, List, length, ◌==◌, nat_le, nat_lt, slice_index}
use Rattle.rules.specs.Branch.{if_so}
use Rattle.rules.specs.Test.{inside}
use Rattle.bits.specs.Bits.{word_bits, bit_at, one, sum_to}
use Rattle.ledger.specs.Bounds.{size_least, resent_most}
use Rattle.ledger.specs.Memory.{Memory, size_in, resent_in}
use Rattle.ledger.specs.Ring.{age_of}
use Rattle.ledger.specs.Sound.{all_to}
use Rattle.ledger.specs.declared.Flow.{Flow}
use Rattle.ledger.specs.declared.Totals.{Totals}
use Rattle.ledger.specs.declared.sound.Tally.{Tally}

-- a test that holds at each of from .. to - 1
unfoldable pub all_in : (ℕ → Bool) → ℕ → ℕ → Bool
all_in f from to = all_to (λ k. f (from + k)) (to - from)

-- numbers that a `|`, by what it asks and what it gives, puts together: the whole is `zero` exactly where each is
pub record Joined {A : Type 0} (eq : A → A → Bool) (can : A → A → Type 0) (gives : A → A → A → Type 0) (zero : A) : Type 0 where
  pub none : eq zero zero ≡ true
  pub any : (a b : A) → can a b
  pub both : (a b c : A) → gives a b c → eq c zero ≡ (eq a zero && eq b zero)

-- a slot's number: a size in low..high, and a resend count of at most `most`
unfoldable pub sized_in : ℕ → ℕ → ℕ → ℕ → Bool
sized_in low high most w = inside low (size_in w) high && nat_le (resent_in w) most

-- the same of slot i
unfoldable pub sized_at : ℕ → ℕ → ℕ → List ℕ → ℕ → Bool
sized_at low high most sizes i = sized_in low high most (slice_index sizes i)

-- the time of slot i is not past `most`
unfoldable pub timed_at : ℕ → List ℕ → ℕ → Bool
timed_at most sent i = nat_le (slice_index sent i) most

-- slot i's bit is not set
unfoldable pub clear_at : List ℕ → ℕ → Bool
clear_at words i = not (bit_at words i)

-- a slot in low..next-1 but for its bits
unfoldable pub live_at : ℕ → ℕ → List ℕ → List ℕ → ℕ → Bool
live_at mtu clock sizes sent i = sized_at size_least mtu resent_most sizes i && timed_at clock sent i

-- another slot, but for its marked bit
unfoldable pub zero_at : List ℕ → List ℕ → List ℕ → ℕ → Bool
zero_at outstanding sizes sent i = clear_at outstanding i && sized_at 0 0 0 sizes i && timed_at 0 sent i

-- slot i, where the n packets from low on stand in a ring of cap slots
unfoldable pub slot_at : ℕ → ℕ → List ℕ → List ℕ → List ℕ → ℕ → ℕ → ℕ → ℕ → Bool
slot_at mtu clock outstanding sizes sent cap low n i =
    if_so (nat_lt (age_of cap low i) n) (live_at mtu clock sizes sent i) (zero_at outstanding sizes sent i)

-- slot i is not marked, or it is outstanding
unfoldable pub mark_ok : List ℕ → List ℕ → ℕ → Bool
mark_ok outstanding marked i = not (bit_at marked i && not (bit_at outstanding i))

-- 1 where slot i's bit is set
unfoldable pub one_at : List ℕ → ℕ → ℕ
one_at words i = one (bit_at words i)

-- how many bits are set
unfoldable pub ones_of : List ℕ → ℕ
ones_of words = sum_to (one_at words) (length words * word_bits)

-- the size of slot i where its bit is set
unfoldable pub size_at : List ℕ → List ℕ → ℕ → ℕ
size_at marked sizes i = if_so (bit_at marked i) (size_in (slice_index sizes i)) 0

-- what the sizes of marked slots add up to
unfoldable pub bytes_of : List ℕ → List ℕ → ℕ
bytes_of marked sizes = sum_to (size_at marked sizes) (length marked * word_bits)

-- what the bits of a flow's ring and its backlog add up to
unfoldable pub tally_of : Flow → Memory → Tally
tally_of f m =
    record {
      outstanding = ones_of m.outstanding;
      marked = ones_of m.marked;
      marked_bytes = bytes_of m.marked m.sizes;
      backlog = f.backlog;
    }

-- the totals are those of the bits: what is outstanding flies or is marked
unfoldable pub totals_ok : Totals → Tally → Bool
totals_ok t s =
    (t.flying + t.marked == s.outstanding)
    && t.marked == s.marked
    && t.marked_bytes == s.marked_bytes
    && t.backlog == s.backlog
