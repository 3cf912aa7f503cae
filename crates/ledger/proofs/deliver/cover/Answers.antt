-- `deliver::cover` meets its contract: the loop's invariant is `Inv` of proofs/Covering, whose laws give its start, a turn and the end.
use Rattle.std.proofs.Common.{ℕ, ◌*◌, ◌%◌, ◌^◌, ◌<◌, sym, ap, ◌∙◌, arith}
use Rattle.serial.specs.Psn.{psns}
use Rattle.ledger.specs.Memory.{memory}
use Rattle.ledger.specs.Ring.{place_of}
use Rattle.ledger.specs.Delivery.{slots}
use Rattle.ledger.proofs.Fronts.{Slot}
use Rattle.ledger.proofs.WordsShown.{caps}
use Rattle.ledger.proofs.Covering as covering
use Rattle.ledger.proofs.deliver.cover.Goals as goal
use Rattle.ledger.proofs.deliver.cover.Goals.{After-covered_word, After-place-i, Start}

low_fits : (c : Start) → c.args.flow.low < psns
low_fits c = omega arith

-- the slot of packet k
slot : (c : After-place-i) →
    let given = memory c.args.outstanding.now c.args.marked.now c.args.sizes.now c.args.sent.now in
    Slot (given).outstanding c.args.flow.low c.loop-k.k c.place-i.result
unfolding place_of
slot c =
    let given = memory c.args.outstanding.now c.args.marked.now c.args.sizes.now c.args.sent.now in
    let n = c.requires.standing.lengths.sent in
    record {
      caps = caps c.requires.standing;
      place = rw n at c.place-i.ensures.0 ∙ ap (λ (p : ℕ). p % slots (given)) c.psn_plus-psn.ensures;
      inside = omega (arith, c.place-i.ensures.1, n);
    }

-- what the mask of a turn tells
mask : (c : After-covered_word) → covering.Mask c.args.flow.low c.args.cum c.args.map c.loop-k.k c.place-i.result
    (c.covered_word.result * 2 ^ (c.place-i.result % 64) % 2 ^ 64)
mask c =
    covering.mask_is c.args.flow.low c.args.cum c.args.map c.loop-k.k c.place-i.result c.psn_plus-psn.result
    c.covered_word.result c.psn_plus-psn.ensures c.covered_word.ensures

pub loop-k-init : goal.loop-k-init
loop-k-init c =
    covering.starts c.requires.standing c.requires.reached (low_fits (goal.at.loop-k-init c).Start)

pub psn_plus-psn-requires : goal.psn_plus-psn-requires
psn_plus-psn-requires c = tt

pub place-i-requires : goal.place-i-requires
place-i-requires c =
    let L = c.requires.standing.lengths in
    rw L.sent L.cap

pub covered_word-requires : goal.covered_word-requires
covered_word-requires c =
    rw c.psn_plus-psn.ensures (c.requires.reached.near c.loop-k.k c.loop-k-test.true)

pub overflow_shl-mask : goal.overflow_shl-mask
overflow_shl-mask c = omega arith

pub cover_word-left-requires : goal.cover_word-left-requires
cover_word-left-requires c =
    let I = c.loop-k.invariant in
    let L = I.standing.lengths in
    let l = (slot (goal.at.cover_word-left-requires c).After-place-i).inside in
    record {
      q_in_bounds = (
        omega (arith, l, I.out_long),
        omega (arith, l, I.mark_long),
        omega (arith, l, L.sizes),
        omega (arith, l, (slot (goal.at.cover_word-left-requires c).After-place-i).caps.most),
      );
      counted = covering.counted I c.loop-k-test.true (slot (goal.at.cover_word-left-requires c).After-place-i) (mask (goal.at.cover_word-left-requires c).After-covered_word);
    }

pub overflow_sub-k : goal.overflow_sub-k
overflow_sub-k c = omega arith

pub overflow_cast-k : goal.overflow_cast-k
overflow_cast-k c = omega arith

pub overflow_add-k : goal.overflow_add-k
overflow_add-k c =
    let I = c.loop-k.invariant in
    omega (arith, c.loop-k-test.true, I.reached.within, I.standing.fits, (slot (goal.at.overflow_add-k c).After-place-i).caps.most)

pub loop-k-smaller : goal.loop-k-smaller
loop-k-smaller c = omega (arith, c.loop-k-test.true)

pub loop-k-preserved : goal.loop-k-preserved
loop-k-preserved c =
    covering.again c.loop-k.invariant c.loop-k-test.true (slot (goal.at.loop-k-preserved c).After-place-i) (mask (goal.at.loop-k-preserved c).After-covered_word) c.cover_word-left.ensures.outstanding_after.0
    c.cover_word-left.ensures.outstanding_after.1 c.cover_word-left.ensures.value

pub shape_of-outstanding : goal.shape_of-outstanding
shape_of-outstanding c = c.loop-k.invariant.out_long

pub shape_of-marked : goal.shape_of-marked
shape_of-marked c = c.loop-k.invariant.mark_long ∙ sym c.requires.standing.lengths.marked

pub returns : goal.returns
returns c = record {
  standing_2 = covering.stands_on c.loop-k.invariant c.loop-k-test.false;
  covered = covering.covers c.loop-k.invariant c.loop-k-test.false;
}
