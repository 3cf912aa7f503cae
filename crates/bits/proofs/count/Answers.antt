-- `count` counts the set bits of word & mask: `count_both`; they are at most 64.
use lib.Bits.{bit_and, and_lt}
use lib.Count.{ones-le}
use Rattle.bits.proofs.Words.{count_both}
use Rattle.bits.proofs.count.Goals as goal

pub returns : goal.returns
returns c =
    let w = c.args.word in
    let m = c.args.mask in
    let hw = c.ranges.word.fits in
    let hm = c.ranges.mask.fits in
    (count_both w m hw hm, ones-le 64 (bit_and w m) (and_lt 64 w m hw hm))
