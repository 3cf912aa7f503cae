-- `marks_within` looks at every word: by its invariant the slots of those before q are told by `all`, and a turn is `mark_word`.
use Rattle.std.proofs.Common.{ℕ, ◌&&◌, eqb, sym, ap, ◌∙◌, arith}
use Rattle.bits.proofs.Words.{word_yes}
use Rattle.ledger.specs.Sound.{all_to}
use Rattle.ledger.proofs.Stretches.{mark_word}
use Rattle.ledger.proofs.Walks.{all_none}
use Rattle.ledger.proofs.stretch.marks_within.Goals as goal

pub loop-q-init : goal.loop-q-init
loop-q-init c = sym (all_none _)

pub loop-q-preserved : goal.loop-q-preserved
loop-q-preserved c =
    let l = c.loop-q in
    let a = c.args in
    ap (λ (x : ℕ). l.all && eqb x 0) c.clear.ensures ∙ mark_word a.outstanding.now a.marked.now l.q l.all l.invariant

pub returns-clause-words : goal.returns-clause-words
returns-clause-words c = (λ q h. word_yes _ (c.type_inv.outstanding q).fits, λ q h. word_yes _ (c.type_inv.marked q).fits)

pub returns-clause-within : goal.returns-clause-within
returns-clause-within c = c.loop-q.invariant ∙ ap (all_to _) (omega arith)
