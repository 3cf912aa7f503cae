-- `ones` counts word by word: by its invariant those before q are counted, and a turn is `ones_word`, or `no_ones_word` for a word
-- that is 0.
use Rattle.std.proofs.Common.{ℕ, ◌+◌, ap, ◌∙◌, arith}
use Rattle.bits.specs.Bits.{sum_to}
use Rattle.ledger.specs.Stretch.{ones_of}
use Rattle.ledger.proofs.Stretches.{sum_none, ones_word, no_ones_word}
use Rattle.ledger.proofs.stretch.ones.Goals as goal
use Rattle.ledger.proofs.stretch.ones.Goals.{then-w-ne0, else-w-ne0}

pub loop-w-init : goal.loop-w-init
loop-w-init c = (sum_none _, omega arith)

pub loop-w-preserved : goal.loop-w-preserved
loop-w-preserved c =
    let l = c.loop-w in
    let a = c.args in
    elim c.if-w-ne0.branch [
      | then-w-ne0 w ↦ (
        w.count-is ∙ ap (λ (x : ℕ). l.count + x) w.count-count.ensures.0 ∙ ones_word a.words.now l.w-index l.count l.invariant.0,
        omega (arith, w.count-is, w.count-count.ensures.1),
      )
      | else-w-ne0 w ↦ (
        w.count-is ∙ no_ones_word a.words.now l.w-index l.count w.if-w-ne0.false l.invariant.0,
        omega (arith, w.count-is),
      )
    ]

pub returns : goal.returns
unfolding ones_of
returns c = (c.loop-w.invariant.0 ∙ ap (sum_to _) (omega arith), omega arith)
