-- `deliver::acknowledge` meets its contract: by the laws of proofs/Acked, from what the two halves of the step leave.
use Rattle.std.proofs.Common.{arith}
use Rattle.ledger.specs.Lent.{memory_of_mut}
use Rattle.ledger.specs.Memory.{memory, shown, Words}
use Rattle.ledger.specs.Sound.{Lengths}
use Rattle.ledger.specs.Delivery.{Standing, Reached}
use Rattle.ledger.proofs.WordsShown.{lengths_kept, words_kept}
use Rattle.ledger.proofs.Acked.{reach_asks, cover_asks, less_asks, none_done, acked}
use mir.Facts.{to_z-of_z}
use mir.Syntax.{w64}
use Rattle.ledger.proofs.deliver.acknowledge.Goals as goal
use Rattle.ledger.proofs.deliver.acknowledge.Goals.{After-reach-far, After-retire_reached-gone}

-- it has the lengths and words that the covering leaves
left_lengths : (c : After-retire_reached-gone) →
    let left = memory c.cover-left.new.outstanding c.cover-left.new.marked c.retire_reached-gone.new.sizes c.retire_reached-gone.new.sent in
    Lengths (left)
left_lengths c =
    lengths_kept c.cover-left.ensures.standing_2.lengths c.retire_reached-gone.auto.sizes c.retire_reached-gone.auto.sent

left_words : (c : After-retire_reached-gone) →
    let left = memory c.cover-left.new.outstanding c.cover-left.new.marked c.retire_reached-gone.new.sizes c.retire_reached-gone.new.sent in
    Words (left)
left_words c =
    words_kept c.cover-left.ensures.standing_2.words

-- what the covering asks
asked : (c : After-reach-far) →
    let given = memory_of_mut c.args.ring.now in
    Standing (given) c.args.books.flow
    × Reached (given) c.args.books.flow c.args.books.totals c.reach-far.result c.args.cum c.args.map
asked c =
    let given = memory_of_mut c.args.ring.now in
    cover_asks (given) c.requires.sound_ledger c.long-n.ensures c.args.count c.requires.count_value
    c.back.ensures c.span.ensures c.reach-far.ensures

pub reach-far-requires : goal.reach-far-requires
reach-far-requires c =
    let given = memory_of_mut c.args.ring.now in
    reach_asks (given) c.requires.sound_ledger c.long-n.ensures c.args.map c.span.ensures

pub cover-left-requires : goal.cover-left-requires
cover-left-requires c = record {
  standing = (asked (goal.at.cover-left-requires c).After-reach-far).0;
  reached = (asked (goal.at.cover-left-requires c).After-reach-far).1;
}

pub retire_reached-gone-requires : goal.retire_reached-gone-requires
retire_reached-gone-requires c =
    let given = memory_of_mut c.args.ring.now in
    let covered = shown c.args.books.flow.low c.args.books.flow.next
    (memory c.cover-left.new.outstanding c.cover-left.new.marked c.args.ring.now.sizes.now c.args.ring.now.sent.now) in
    record {
      n_value = c.long-n.ensures;
      standing = c.cover-left.ensures.standing_2;
      n_value_2 = none_done (given) c.requires.sound_ledger c.long-n.ensures {r = covered} c.cover-left.ensures.covered (asked (goal.at.retire_reached-gone-requires c).After-reach-far).1;
    }

pub less-requires : goal.less-requires
less-requires c =
    let given = memory_of_mut c.args.ring.now in
    let covered = shown c.args.books.flow.low c.args.books.flow.next
    (memory c.cover-left.new.outstanding c.cover-left.new.marked c.args.ring.now.sizes.now c.args.ring.now.sent.now) in
    record {
      flown = less_asks (given) c.requires.sound_ledger c.long-n.ensures {r = covered} c.cover-left.ensures.covered;
      bytes_bound = omega (arith, c.newly.ensures.1);
    }

pub returns-clause-kept : goal.returns-clause-kept
returns-clause-kept c =
    let given = memory_of_mut c.args.ring.now in
    let covered = shown c.args.books.flow.low c.args.books.flow.next
    (memory c.cover-left.new.outstanding c.cover-left.new.marked c.args.ring.now.sizes.now c.args.ring.now.sent.now) in
    let left = memory c.cover-left.new.outstanding c.cover-left.new.marked c.retire_reached-gone.new.sizes c.retire_reached-gone.new.sent in
    rw (to_z-of_z {w = w64} {z = c.less.result} (record { sfits = c.less.type_inv }))
    (acked (given) c.requires.sound_ledger c.long-n.ensures {r = covered} c.cover-left.ensures.covered c.args.count (left)
    (left_lengths (goal.at.returns-clause-kept c).After-retire_reached-gone) (left_words (goal.at.returns-clause-kept c).After-retire_reached-gone)
    c.retire_reached-gone.ensures c.psn_plus.ensures
    c.held_after.ensures c.newly.ensures.0 c.less.ensures)
