-- The ring's memory, and the ring of statuses that it shows. Request M-109: "Keep two arrays of 64-bit words instead, one bit a slot:
-- outstanding (flying or marked) and marked; done is a slot between low and next with neither."
-- Assumes nothing.
use Rattle.std.specs.Prelude.{◌≡◌, ℕ, ◌+◌, ◌*◌, ◌/◌, ◌%◌, ◌^◌, ◌<◌, Bool, true, ◌&&◌, ◌||◌, List, map, length, ◌==◌, nat_lt, slice_index}
use Rattle.rules.specs.Branch.{if_so, if_eq}
use Rattle.bits.specs.Bits.{word_bits, is_word, bit_at, words_of}
use Rattle.serial.specs.Wrap.{minus}
use Rattle.serial.specs.Psn.{psns}
use Rattle.ledger.specs.Packets.{flying_status, marked_status, done_status}
use Rattle.ledger.specs.Ring.{Ring, ring, Ledger, ledger, tabulate, age_of, cap_of}
use Rattle.ledger.specs.declared.Flow.{Flow}
use Rattle.ledger.specs.declared.Totals.{Totals}

-- the four lent slices: a bit a slot of those outstanding, and of those marked; a slot's size and resend count in one number; its send time
pub record Memory : Type 0 where
  pub outstanding : List ℕ
  pub marked : List ℕ
  pub sizes : List ℕ
  pub sent : List ℕ

abbrev pub memory : List ℕ → List ℕ → List ℕ → List ℕ → Memory
memory a b c d = record { outstanding = a; marked = b; sizes = c; sent = d }

-- ---- size and resend count in one number: size + 2^16 · resends

abbrev pub size_end : ℕ
size_end = 2 ^ 16

unfoldable pub packed : ℕ → ℕ → ℕ
packed size resent = size + size_end * resent

unfoldable pub size_in : ℕ → ℕ
size_in w = w % size_end

unfoldable pub resent_in : ℕ → ℕ
resent_in w = w / size_end

-- ---- the ring that a memory shows, whatever it holds

-- how many slots there are: a slot a bit, where both arrays have as many words
unfoldable pub slots_of : Memory → ℕ
slots_of m = if_eq (length m.marked) (length m.outstanding) (length m.outstanding * word_bits) 0

-- slot i is one of low..next-1
unfoldable pub in_window : ℕ → ℕ → ℕ → ℕ → Bool
in_window cap low next i = nat_lt (age_of cap low i) (minus psns next low)

-- a status that number 2 refuses of every slot
abbrev pub no_status : ℕ
no_status = 4

-- what the two bits of a slot show; `live`: it is one of low..next-1. Outside, a bit shows a packet where none may be.
unfoldable pub status_of : Bool → Bool → Bool → ℕ
status_of live out mark = if_so out (if_so mark marked_status flying_status) (if_so mark no_status (if_so live done_status 0))

-- the bits of slot i stand in numbers of 64 bits
unfoldable pub words_at : Memory → ℕ → Bool
words_at m i = is_word (slice_index m.outstanding (i / word_bits)) && is_word (slice_index m.marked (i / word_bits))

unfoldable pub status_at : ℕ → ℕ → Memory → ℕ → ℕ
status_at low next m i =
    if_so (words_at m i) (status_of (in_window (slots_of m) low next i) (bit_at m.outstanding i) (bit_at m.marked i)) no_status

unfoldable pub shown : ℕ → ℕ → Memory → Ring
shown low next m = ring (tabulate (status_at low next m) (slots_of m)) (map size_in m.sizes) m.sent (map resent_in m.sizes)

-- ---- and back: the memory of a ring

-- the bits of a status
unfoldable pub is_out_status : ℕ → Bool
is_out_status s = s == flying_status || s == marked_status

unfoldable pub is_mark_status : ℕ → Bool
is_mark_status s = s == marked_status || s == no_status

unfoldable pub stored : Ring → Memory
stored r =
    memory (words_of (λ i. is_out_status (slice_index r.status i)) (cap_of r / word_bits))
    (words_of (λ i. is_mark_status (slice_index r.status i)) (cap_of r / word_bits))
    (tabulate (λ i. packed (slice_index r.size i) (slice_index r.resent i)) (length r.size)) r.sent

-- ---- the ledger

-- the ledger that a flow, totals and a memory show
abbrev pub ledger_shown : Flow → Totals → Memory → Ledger
ledger_shown f t m = ledger f t (shown f.low f.next m)

-- a ledger as it is kept
pub record Kept : Type 0 where
  pub flow : Flow
  pub totals : Totals
  pub slots : Memory

abbrev pub kept : Flow → Totals → Memory → Kept
kept f t m = record { flow = f; totals = t; slots = m }

-- what is kept of a ledger
unfoldable pub kept_of : Ledger → Kept
kept_of l = kept l.flow l.totals (stored l.slots)

-- every number has 64 bits
abbrev pub AreWords : List ℕ → Type 0
AreWords words = (q : ℕ) → q < length words → is_word (slice_index words q) ≡ true

-- every word of the bits has 64 bits
pub record Words (m : Memory) : Type 0 where
  pub outstanding : (q : ℕ) → q < length m.outstanding → is_word (slice_index m.outstanding q) ≡ true
  pub marked : (q : ℕ) → q < length m.marked → is_word (slice_index m.marked q) ≡ true
