-- `none_whole` puts the words together: by its invariant they are 0 so far exactly where their slots are clear, and a turn is `whole_word`.
use Rattle.std.proofs.Common.{◌≡◌, ℕ, ◌+◌, ◌*◌, ap, ◌∙◌, arith}
use Rattle.ledger.specs.Stretch.{all_in, clear_at}
use Rattle.ledger.proofs.Stretches.{in_none, cut_at, whole_word}
use Rattle.ledger.proofs.stretch.none_whole.Goals as goal

pub loop-w-init : goal.loop-w-init
loop-w-init c = in_none _ _ _ (omega arith)

pub loop-w-preserved : goal.loop-w-preserved
loop-w-preserved c =
    let l = c.loop-w in
    let a = c.args in
    let q = a.from + l.w-index in
    rw (cut_at a.words.now a.from a.to l.w-index 0 (omega arith))
    (whole_word a.words.now a.from q l.any (omega arith) (c.type_inv.words q).fits l.invariant
    ∙ ap (λ (x : ℕ). all_in (clear_at a.words.now) (a.from * 64) (x * 64)) (omega arith))

pub returns : goal.returns
returns c =
    let a = c.args in
    let all : a.from + c.loop-w.w-index ≡ a.to = omega arith in
    c.loop-w.invariant ∙ ap (λ (q : ℕ). all_in (clear_at a.words.now) (a.from * 64) (q * 64)) all
