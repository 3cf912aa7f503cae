-- `deliver::retire` meets its contract: the loop's invariant is `Gone` of proofs/Retiring, whose laws give its start, a turn and the end.
use Rattle.std.proofs.Common.{◌≡◌, ℕ, ◌%◌, ◌<◌, sym, ap, ◌∙◌, arith}
use Rattle.bits.specs.Bits.{bit_at}
use Rattle.serial.specs.Psn.{psns}
use Rattle.ledger.specs.Memory.{memory}
use Rattle.ledger.specs.Ring.{place_of}
use Rattle.ledger.specs.Delivery.{slots}
use Rattle.ledger.proofs.Fronts.{Slot}
use Rattle.ledger.proofs.WordsShown.{caps}
use Rattle.ledger.proofs.Retiring.{starts, again, ends}
use Rattle.ledger.proofs.deliver.retire.Goals as goal
use Rattle.ledger.proofs.deliver.retire.Goals.{After-place-i, Start}

low_fits : (c : Start) → c.args.flow.low < psns
low_fits c = omega arith

-- the slot of packet `gone`
slot : (c : After-place-i) →
    let given = memory c.args.outstanding.now c.args.marked.now c.args.sizes.now c.args.sent.now in
    Slot (given).outstanding c.args.flow.low c.loop-gone.gone c.place-i.result
unfolding place_of
slot c =
    let given = memory c.args.outstanding.now c.args.marked.now c.args.sizes.now c.args.sent.now in
    let n = c.requires.standing.lengths.sent in
    record {
      caps = caps c.requires.standing;
      place = rw n at c.place-i.ensures.0 ∙ ap (λ (p : ℕ). p % slots (given)) c.psn_plus.ensures;
      inside = omega (arith, c.place-i.ensures.1, n);
    }

pub loop-gone-init : goal.loop-gone-init
loop-gone-init c =
    let given = memory c.args.outstanding.now c.args.marked.now c.args.sizes.now c.args.sent.now in
    starts (given) c.args.flow

pub psn_plus-requires : goal.psn_plus-requires
psn_plus-requires c = tt

pub place-i-requires : goal.place-i-requires
place-i-requires c =
    let L = c.requires.standing.lengths in
    rw L.sent L.cap

pub is_set-requires : goal.is_set-requires
is_set-requires c = (slot (goal.at.is_set-requires c).After-place-i).inside

pub shape_of-sizes-then-is_set : goal.shape_of-sizes-then-is_set
shape_of-sizes-then-is_set c = c.loop-gone.invariant.sizes_cut.long

pub shape_of-sent-then-is_set : goal.shape_of-sent-then-is_set
shape_of-sent-then-is_set c = c.loop-gone.invariant.sent_cut.long

pub returns-then-is_set : goal.returns-then-is_set
returns-then-is_set c =
    let given = memory c.args.outstanding.now c.args.marked.now c.args.sizes.now c.args.sent.now in
    ends c.requires.standing c.loop-gone.invariant (low_fits (goal.at.returns-then-is_set c).Start) c.requires.n_value
    (λ h. ap (bit_at (given).outstanding) (sym (slot (goal.at.returns-then-is_set c).After-place-i).place) ∙ sym c.is_set.ensures ∙ c.if-is_set.true)

pub offset_bounds-sizes-i : goal.offset_bounds-sizes-i
offset_bounds-sizes-i c = omega (arith, (slot (goal.at.offset_bounds-sizes-i c).After-place-i).inside, (slot (goal.at.offset_bounds-sizes-i c).After-place-i).caps.most)

pub bounds-sizes-i : goal.bounds-sizes-i
bounds-sizes-i c =
    omega (arith, (slot (goal.at.bounds-sizes-i c).After-place-i).inside, c.loop-gone.invariant.sizes_cut.long, c.requires.standing.lengths.sizes)

pub offset_bounds-sent-i : goal.offset_bounds-sent-i
offset_bounds-sent-i c = omega (arith, (slot (goal.at.offset_bounds-sent-i c).After-place-i).inside, (slot (goal.at.offset_bounds-sent-i c).After-place-i).caps.most)

pub bounds-sent-i : goal.bounds-sent-i
bounds-sent-i c =
    omega (arith, (slot (goal.at.bounds-sent-i c).After-place-i).inside, c.loop-gone.invariant.sent_cut.long, c.requires.standing.lengths.sent)

pub loop-gone-preserved : goal.loop-gone-preserved
loop-gone-preserved c =
    again c.requires.standing c.loop-gone.invariant (slot (goal.at.loop-gone-preserved c).After-place-i).place (omega (arith, c.loop-gone-test.true, c.requires.n_value))
    (sym c.is_set.ensures ∙ c.if-is_set.false)

pub shape_of-sizes : goal.shape_of-sizes
shape_of-sizes c = c.loop-gone.invariant.sizes_cut.long

pub shape_of-sent : goal.shape_of-sent
shape_of-sent c = c.loop-gone.invariant.sent_cut.long

pub returns : goal.returns
returns c =
    let all : c.args.n ≡ c.loop-gone.gone = omega (arith, c.loop-gone.invariant.most, c.requires.n_value) in
    rw all
    (ends c.requires.standing c.loop-gone.invariant (low_fits (goal.at.returns c).Start) (sym all ∙ c.requires.n_value)
    (λ h. absurd (omega (arith, c.loop-gone-test.false, c.requires.n_value))))
