-- `none_in` looks at every word that has slots of the stretch: by its invariant those before word q are told by `all`.
use Rattle.std.proofs.Common.{ℕ, ◌&&◌, eqb, ap, ◌∙◌, ap₂, arith}
use lib.Bits.{bit_and}
use Rattle.bits.specs.Bits.{without}
use Rattle.ledger.specs.Stretch.{all_in}
use Rattle.ledger.proofs.Stretches.{in_none, none_word}
use Rattle.ledger.proofs.stretch.none_in.Goals as goal

pub loop-q-init : goal.loop-q-init
loop-q-init c = in_none _ _ _ (omega arith)

pub loop-q-preserved : goal.loop-q-preserved
loop-q-preserved c =
    let l = c.loop-q in
    let a = c.args in
    ap₂ (λ (x y : ℕ). l.all && eqb (bit_and x y) 0)
    (c.clear-others.ensures ∙ ap (without _) c.below.ensures) c.below-in-loop-q.ensures
    ∙ none_word a.words.now a.from a.to l.q l.all l.invariant

pub returns : goal.returns
returns c = c.loop-q.invariant ∙ ap (all_in _ _) (omega arith)
