-- `seek::next_marked` looks over the marked bits from the PSN's slot on (`next_there`).
use Rattle.std.proofs.Common.{◌*◌, length, ap, ◌∙◌, arith}
use Rattle.bits.specs.Bits.{word_bits, bit_at, lowest}
use Rattle.ledger.specs.Lent.{memory_of}
use Rattle.ledger.specs.Ring.{offset_of, place_of}
use Rattle.ledger.proofs.Keeping.{sound_lengths}
use Rattle.ledger.proofs.Seeking.{packets_fit, next_there, next_none}
use Rattle.ledger.proofs.seek.next_marked.Goals as goal

pub front-requires : goal.front-requires
front-requires c =
    let slots = memory_of c.args.ring in
    let L = sound_lengths _ _ (slots) c.requires in
    record {
      word_bits_value = rw L.marked L.cap;
      n_in_bounds = omega (arith, c.long-n.ensures, packets_fit _ _ (slots) c.requires);
    }

pub returns-then-offset-n : goal.returns-then-offset-n
unfolding offset_of
returns-then-offset-n c =
    let slots = memory_of c.args.ring in
    let a = c.args in
    next_there a.books.flow a.books.totals (slots) c.requires a.psn (omega (arith, c.ranges))
    (omega (arith, c.if-offset-n.true, c.long-n.ensures, c.psn_minus-offset.ensures)) _ _
    (c.front.ensures.0
    ∙ ap (lowest (λ k. bit_at a.ring.marked.now (place_of (length a.ring.marked.now * word_bits) a.psn k)))
    (omega (arith, c.long-n.ensures, c.psn_minus-offset.ensures)))
    c.psn_plus.ensures

pub returns : goal.returns
unfolding offset_of
returns c =
    let slots = memory_of c.args.ring in
    next_none c.args.books.flow c.args.books.totals (slots) c.requires c.args.psn (omega (arith, c.ranges))
    (omega (arith, c.if-offset-n.false, c.long-n.ensures, c.psn_minus-offset.ensures))
