-- `seek::front` meets its contract: of the packets passed none is words. A turn looks at the rest of one word.
use Rattle.std.proofs.Common.{ℕ, ◌*◌, ◌/◌, ◌%◌, length, sym, ap, ◌∙◌, arith}
use Rattle.ledger.specs.Ring.{place_of}
use Rattle.ledger.proofs.Geometry.{Cap, cap_facts}
use Rattle.ledger.proofs.Fronts.{Slot, Lowest, stops, stops_late, passes, none_left}
use Rattle.ledger.proofs.seek.front.Goals as goal
use Rattle.ledger.proofs.seek.front.Goals.{After-first-j, After-place-i, Start}

caps : (c : Start) → Cap (length c.args.words.now * 64)
caps c = cap_facts (length c.args.words.now * 64) c.requires.word_bits_value

-- the slot of packet k
slot : (c : After-place-i) → Slot c.args.words.now c.args.low c.loop-k.k c.place-i.result
unfolding place_of
slot c =
    let caps : Cap (length c.args.words.now * 64) = cap_facts (length c.args.words.now * 64) c.requires.word_bits_value in
    record {
      caps = caps;
      place = c.place-i.ensures.0 ∙ ap (λ (p : ℕ). p % (length c.args.words.now * 64)) c.psn_plus.ensures;
      inside = c.place-i.ensures.1;
    }

-- and the lowest bit of its word from there on
low_bit : (c : After-first-j) → Lowest c.args.words.now c.place-i.result c.first-j.result
low_bit c =
    record {
      short = omega (arith, c.type_inv.words (c.place-i.result / 64));
      first = c.first-j.ensures.0;
    }

pub overflow_mul-cap : goal.overflow_mul-cap
overflow_mul-cap c = omega (arith, (caps (goal.at.overflow_mul-cap c).Start).most)

pub loop-k-init : goal.loop-k-init
loop-k-init c = record { none = λ j h m. absurd (omega arith) }

pub psn_plus-requires : goal.psn_plus-requires
psn_plus-requires c = tt

pub place-i-requires : goal.place-i-requires
place-i-requires c = c.requires.word_bits_value

pub offset_bounds-words-i : goal.offset_bounds-words-i
offset_bounds-words-i c = omega (arith, c.place-i.ensures.1, (caps (goal.at.offset_bounds-words-i c).Start).most)

pub bounds-words-i : goal.bounds-words-i
bounds-words-i c = omega (arith, c.place-i.ensures.1)

pub overflow_shr-words : goal.overflow_shr-words
overflow_shr-words c = omega arith

pub first-j-requires : goal.first-j-requires
first-j-requires c = tt

pub overflow_cast-t-12 : goal.overflow_cast-t-12
overflow_cast-t-12 c = omega arith

pub overflow_add-at : goal.overflow_add-at
overflow_add-at c =
    omega (arith, c.if-j.true, c.loop-k-test.true, (caps (goal.at.overflow_add-at c).Start).most, c.requires.n_in_bounds)

pub returns-then-at-n : goal.returns-then-at-n
returns-then-at-n c = (
  sym
      (stops (slot (goal.at.returns-then-at-n c).After-place-i) (low_bit (goal.at.returns-then-at-n c).After-first-j) c.loop-k.invariant c.if-j.true c.if-at-n.true),
  omega (arith, c.if-at-n.true),
)

pub returns-then-j : goal.returns-then-j
returns-then-j c = (
  sym
      (stops_late (slot (goal.at.returns-then-j c).After-place-i) (low_bit (goal.at.returns-then-j c).After-first-j) c.loop-k.invariant c.if-j.true c.if-at-n.false),
  omega arith,
)

pub overflow_sub-k : goal.overflow_sub-k
overflow_sub-k c = omega arith

pub overflow_cast-k : goal.overflow_cast-k
overflow_cast-k c = omega arith

pub overflow_add-k : goal.overflow_add-k
overflow_add-k c =
    omega (arith, c.loop-k-test.true, (caps (goal.at.overflow_add-k c).Start).most, c.requires.n_in_bounds)

pub loop-k-smaller : goal.loop-k-smaller
loop-k-smaller c = omega (arith, c.loop-k-test.true)

pub loop-k-preserved : goal.loop-k-preserved
loop-k-preserved c =
    passes (slot (goal.at.loop-k-preserved c).After-place-i) (low_bit (goal.at.loop-k-preserved c).After-first-j) c.loop-k.invariant c.if-j.false

pub returns : goal.returns
returns c = (sym (none_left c.loop-k.invariant c.loop-k-test.false), omega arith)
