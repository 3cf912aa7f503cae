-- `deliver::cover_word` meets its contract: by the counts and the bytes of the bits that the mask covers. Where no marked one is covered,
-- both are 0 and the marked bits stay.
use Rattle.std.proofs.Common.{◌^◌, ◌<◌, get_or, set, sym, ap, ◌∙◌, arith, to_z-of_z, w64, rules}
use lib.Seq.{set-get_or}
use Rattle.ledger.specs.Delivery.{lessened}
use Rattle.ledger.proofs.Masks.{sizes_both, count_none, without_none, lessened_none}
use Rattle.ledger.proofs.deliver.cover_word.Goals as goal

pub overflow_sub-result : goal.overflow_sub-result
overflow_sub-result c =
    let mark = get_or c.args.marked.now c.args.q 0 in
    omega (arith, c.count.ensures.0, c.requires.counted.flying, count_none (mark) c.args.mask c.if-mark-mask-eq0.true)

pub returns-then-mark-mask-eq0 : goal.returns-then-mark-mask-eq0
returns-then-mark-mask-eq0 c =
    let mark = get_or c.args.marked.now c.args.q 0 in
    let none = c.if-mark-mask-eq0.true in
    let short : mark < 2 ^ 64 = omega (arith, c.slice_known-2-1.given c.args.q) in
    record {
      outstanding_after = (
        ap (set c.args.outstanding.now c.args.q) c.clear.ensures,
        sym
            (ap (set c.args.marked.now c.args.q) (without_none (mark) c.args.mask none short)
            ∙ set-get_or c.args.marked.now c.args.q 0),
      );
      value = rw (c.count.ensures.0, to_z-of_z {w = w64} {z = c.args.totals.in_flight} (search (rules, c.ranges)))
          (lessened_none (mark) c.args.mask none (get_or c.args.outstanding.now c.args.q 0) c.args.sizes.now c.args.q
          c.args.totals);
    }

pub overflow_sub-result-5 : goal.overflow_sub-result-5
overflow_sub-result-5 c =
    let mark = get_or c.args.marked.now c.args.q 0 in
    omega (arith, c.bytes_in.ensures.0 ∙ sizes_both c.args.sizes.now c.args.q (mark) c.args.mask, c.requires.counted.bytes)

pub returns : goal.returns
unfolding lessened
returns c =
    let mark = get_or c.args.marked.now c.args.q 0 in
    record {
      outstanding_after = (
        ap (set c.args.outstanding.now c.args.q) c.clear.ensures,
        ap (set c.args.marked.now c.args.q) c.clear-2.ensures,
      );
      value = rw (
        c.count-2.ensures.0,
        c.count-waiting.ensures.0,
        c.bytes_in.ensures.0 ∙ sizes_both c.args.sizes.now c.args.q (mark) c.args.mask,
        to_z-of_z {w = w64} {z = c.args.totals.in_flight} (search (rules, c.ranges)),
      );
    }
