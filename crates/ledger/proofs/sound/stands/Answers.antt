-- `stands` makes the tests of its definition: bad lengths (`not_even`), more packets than slots (`too_long`), else
-- all that is left (`all_tests`).
use Rattle.std.proofs.Common.{◌≡◌, ℕ, ◌%◌, ◌<◌, true, ◌||◌, eqb, length, sym, ap, ◌∙◌, ap₂, arith}
use Rattle.bits.specs.Bits.{bit_at}
use Rattle.serial.specs.Psn.{psns}
use Rattle.ledger.specs.Lent.{memory_of}
use Rattle.ledger.specs.Memory.{slots_of}
use Rattle.ledger.specs.Sound.{all_to, is_capacity, is_even, Lengths}
use Rattle.ledger.specs.Stretch.{mark_ok, slot_at}
use Rattle.ledger.proofs.Shows.{slots_even, even_lengths}
use Rattle.ledger.proofs.Tally.{not_even, too_long, all_tests}
use Rattle.ledger.proofs.sound.stands.Goals as goal
use Rattle.ledger.proofs.sound.stands.Goals.{Else-not-is_ring}

evenly : (c : Else-not-is_ring) →
    let memoryAt = let a = c.args in
    memory_of a.ring in
    is_even (memoryAt) ≡ true
evenly c = sym c.is_ring.ensures ∙ c.if-not-is_ring.false

lengths : (c : Else-not-is_ring) →
    let memoryAt = let a = c.args in
    memory_of a.ring in
    Lengths (memoryAt)
lengths c =
    let memoryAt = let a = c.args in
    memory_of a.ring in
    even_lengths (memoryAt) (evenly c)

slots : (c : Else-not-is_ring) →
    let memoryAt = let a = c.args in
    memory_of a.ring in
    slots_of (memoryAt) ≡ length (memoryAt).sizes
slots c =
    let memoryAt = let a = c.args in
    memory_of a.ring in
    slots_even (memoryAt) (lengths c) ∙ sym (lengths c).sizes

capacity : (c : Else-not-is_ring) →
    let memoryAt = let a = c.args in
    memory_of a.ring in
    is_capacity (length (memoryAt).sizes) ≡ true
capacity c = ap is_capacity (lengths c).sizes ∙ (lengths c).cap

-- low and next are words of 32 bits
low_fits : (c : Else-not-is_ring) → c.args.flow.low < psns
low_fits c = omega arith

next_fits : (c : Else-not-is_ring) → c.args.flow.next < psns
next_fits c = omega arith

pub returns-then-not-is_ring : goal.returns-then-not-is_ring
returns-then-not-is_ring c =
    let a = c.args in
    not_even a.mtu a.clock a.flow
    (memory_of a.ring)
    (sym c.is_ring.ensures ∙ c.if-not-is_ring.true)

pub returns-then-cap-n : goal.returns-then-cap-n
returns-then-cap-n c =
    let memoryAt = let a = c.args in
    memory_of a.ring in
    let a = c.args in
    too_long a.mtu a.clock a.flow (memoryAt) (evenly (goal.at.returns-then-cap-n c).Else-not-is_ring)
    (omega (arith, c.if-cap-n.true, c.long-n.ensures, slots (goal.at.returns-then-cap-n c).Else-not-is_ring))

pub marks_within-requires : goal.marks_within-requires
marks_within-requires c = omega (arith, lengths (goal.at.marks_within-requires c).Else-not-is_ring)

pub slots_ok-requires : goal.slots_ok-requires
slots_ok-requires c = record {
  sizes_value = (capacity (goal.at.slots_ok-requires c).Else-not-is_ring, c.if-cap-n.false);
  word_bits_len = (sym (lengths (goal.at.slots_ok-requires c).Else-not-is_ring).sizes, (lengths (goal.at.slots_ok-requires c).Else-not-is_ring).sent ∙ sym (lengths (goal.at.slots_ok-requires c).Else-not-is_ring).sizes);
}

pub head_ok-requires : goal.head_ok-requires
head_ok-requires c = (capacity (goal.at.head_ok-requires c).Else-not-is_ring, sym (lengths (goal.at.head_ok-requires c).Else-not-is_ring).sizes, omega (arith, lengths (goal.at.head_ok-requires c).Else-not-is_ring))

pub returns : goal.returns
returns c =
    let memoryAt = let a = c.args in
    memory_of a.ring in
    let a = c.args in
    let f = a.flow in
    let m = memoryAt in
    let n = c.long-n.ensures in
    all_tests a.mtu a.clock f m (lengths (goal.at.returns c).Else-not-is_ring) (record { outstanding = c.marks_within.ensures.words.0; marked = c.marks_within.ensures.words.1 }) (evenly (goal.at.returns c).Else-not-is_ring)
    (omega (arith, c.if-cap-n.false, n, slots (goal.at.returns c).Else-not-is_ring)) _ _ _
    (c.marks_within.ensures.within
    ∙ ap (all_to (mark_ok m.outstanding m.marked)) (sym (slots_even m (lengths (goal.at.returns c).Else-not-is_ring))))
    (c.slots_ok.ensures
    ∙ ap₂ (λ (cap n : ℕ). all_to (slot_at a.mtu a.clock m.outstanding m.sizes m.sent cap f.low n) cap) (sym (slots (goal.at.returns c).Else-not-is_ring)) n)
    (c.head_ok.ensures
    ∙ ap₂ (λ (cap n : ℕ). eqb n 0 || bit_at m.outstanding (f.low % cap) || bit_at m.marked (f.low % cap)) (sym (slots (goal.at.returns c).Else-not-is_ring)) n)
    (low_fits (goal.at.returns c).Else-not-is_ring) (next_fits (goal.at.returns c).Else-not-is_ring)
