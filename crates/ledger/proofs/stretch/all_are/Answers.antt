-- `all_are` goes block by block: by its invariant each slot of those before is `zero`. A block is `in_last` or `in_stop`.
use Rattle.std.proofs.Common.{◌+◌, ◌-◌, ◌*◌, ◌/◌, sym, ap, ◌∙◌, arith}
use Rattle.ledger.specs.Stretch.{all_in}
use Rattle.ledger.proofs.Stretches.{in_none, in_last, in_stop}
use Rattle.ledger.proofs.stretch.all_are.Goals as goal

pub loop-block-init : goal.loop-block-init
loop-block-init g c = in_none _ _ _ (omega arith)

pub returns-then-not-run_is : goal.returns-then-not-run_is
returns-then-not-run_is g c =
    let l = c.loop-block in
    let a = c.args in
    let at = a.from + l.block * 64 in
    in_stop _ a.from at (omega arith) l.invariant (at + 64) a.to _ (omega arith) (omega arith) c.run_is.ensures c.if-not-run_is.true

pub loop-block-preserved : goal.loop-block-preserved
loop-block-preserved g c =
    let l = c.loop-block in
    let a = c.args in
    let at = a.from + l.block * 64 in
    sym c.if-not-run_is.false
    ∙ in_last _ a.from at (omega arith) l.invariant (at + 64) _ (omega arith) c.run_is.ensures
    ∙ ap (all_in _ a.from) (omega arith)

pub returns : goal.returns
returns g c =
    let a = c.args in
    let at = a.from + (a.to - a.from) / 64 * 64 in
    in_last _ a.from at (omega arith) (c.loop-block.invariant ∙ ap (all_in _ a.from) (omega arith)) a.to _ (omega arith) c.run_is-2.ensures
