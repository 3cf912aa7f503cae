-- `marked_sum` adds word by word: by its invariant those before q are added up, and a turn is `bytes_word`.
use Rattle.std.proofs.Common.{ℕ, ◌+◌, ap, ◌∙◌, arith}
use Rattle.bits.specs.Bits.{sum_to}
use Rattle.ledger.specs.Stretch.{bytes_of}
use Rattle.ledger.proofs.Stretches.{sum_none, bytes_word}
use Rattle.ledger.proofs.stretch.marked_sum.Goals as goal

pub loop-q-init : goal.loop-q-init
loop-q-init c = (sum_none _, omega arith)

pub loop-q-preserved : goal.loop-q-preserved
loop-q-preserved c =
    let l = c.loop-q in
    let a = c.args in (
      ap (λ (x : ℕ). l.bytes + x) c.bytes_in-bytes.ensures.0 ∙ bytes_word a.marked.now a.sizes.now l.q l.bytes l.invariant.0,
      omega (arith, c.bytes_in-bytes.ensures.1),
    )

pub returns : goal.returns
unfolding bytes_of
returns c = (c.loop-q.invariant.0 ∙ ap (sum_to _) (omega arith), omega arith)
