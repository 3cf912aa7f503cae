-- The ring's memory as contracts name it: the four lent slices as they are given, before the call and after it.
-- Assumes nothing.
use Rattle.std.specs.Prelude.{◌≡◌, ℕ, List, length}
use Rattle.ledger.specs.Memory.{Memory, memory}
use Rattle.ledger.specs.declared.ring.Ring.{Ring}
use Rattle.ledger.specs.declared.ring.RingMut.{RingMut}
use Rattle.ledger.specs.declared.ring.RingMarks.{RingMarks}

-- what a lent slice holds, as a `requires` sees it: `.now` of one that is lent to be read, else `.old`
abbrev pub Slice : Type 0
Slice = List ℕ

-- the same before or after the call, as an `ensures` sees it: `.old` or `.new`; of a slice that is lent to be read only, both are `.now`
abbrev pub LentSlice : Type 0
LentSlice = List ℕ

abbrev pub memory_given : Slice → Slice → Slice → Slice → Memory
memory_given outstanding marked sizes sent = memory outstanding marked sizes sent

abbrev pub memory_before : LentSlice → LentSlice → LentSlice → LentSlice → Memory
memory_before outstanding marked sizes sent = memory_given outstanding marked sizes sent

abbrev pub memory_after : LentSlice → LentSlice → LentSlice → LentSlice → Memory
memory_after outstanding marked sizes sent = memory_given outstanding marked sizes sent

-- ---- the ring that is lent as one value: `ring` or `ring.entry` of one that is lent to be read, `ring.old` and `ring.new` of another

abbrev pub memory_of : Ring → Memory
memory_of r = memory r.outstanding.now r.marked.now r.sizes.now r.sent.now

abbrev pub memory_of_mut : RingMut → Memory
memory_of_mut r = memory r.outstanding.now r.marked.now r.sizes.now r.sent.now

abbrev pub memory_of_marks : RingMarks → Memory
memory_of_marks r = memory r.outstanding.now r.marked.now r.sizes.now r.sent.now

-- its slices are still those that were lent, so that what is written to them reaches whoever lent them, and as long as they were
abbrev pub IsSameLoan : RingMut → RingMut → Type 0
IsSameLoan before after =
    (after.outstanding.ghost_name ≡ before.outstanding.ghost_name)
    × (after.marked.ghost_name ≡ before.marked.ghost_name)
    × (after.sizes.ghost_name ≡ before.sizes.ghost_name)
    × (after.sent.ghost_name ≡ before.sent.ghost_name)
    × (length after.outstanding.now ≡ length before.outstanding.now)
    × (length after.marked.now ≡ length before.marked.now)
    × (length after.sizes.now ≡ length before.sizes.now)
    × (length after.sent.now ≡ length before.sent.now)

-- the same of a ring whose marked bits alone may be changed
abbrev pub IsSameMarks : RingMarks → RingMarks → Type 0
IsSameMarks before after =
    (after.outstanding ≡ before.outstanding)
    × (after.marked.ghost_name ≡ before.marked.ghost_name)
    × (after.sizes ≡ before.sizes)
    × (after.sent ≡ before.sent)
    × (length after.marked.now ≡ length before.marked.now)
