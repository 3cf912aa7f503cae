-- `none_set` joins three stretches: up to the first whole word, the whole words, and what is behind them.
use Rattle.std.proofs.Common.{◌+◌, ◌-◌, ◌*◌, ◌/◌, Bool, ◌&&◌, ◌∙◌, ap₂, arith}
use Rattle.ledger.specs.Stretch.{clear_at}
use Rattle.ledger.proofs.Stretches.{in_join}
use Rattle.ledger.proofs.stretch.none_set.Goals as goal

pub returns : goal.returns
returns c =
    let a = c.args in
    let f = clear_at a.words.now in
    let first = (a.from + 64 - 1) / 64 * 64 in
    let end = a.to / 64 * 64 in
    ap₂ (λ (x y : Bool). x && y)
    (ap₂ (λ (x y : Bool). x && y) c.none_in-2.ensures c.none_whole.ensures
    ∙ in_join f a.from first end (omega arith) (omega arith)) c.none_in-3.ensures
    ∙ in_join f a.from end a.to (omega arith) (omega arith)
