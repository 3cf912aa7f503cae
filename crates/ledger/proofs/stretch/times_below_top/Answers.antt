-- `times_below_top` gathers top bits: by its invariant there is none exactly where the test holds so far, and a turn is `top_more`.
use Rattle.std.proofs.Common.{◌+◌, get_or, refl, ap, ◌∙◌, arith}
use Rattle.ledger.specs.Stretch.{all_in, timed_at}
use Rattle.ledger.proofs.Stretches.{in_none, in_next, cut_at, top_more}
use Rattle.ledger.proofs.stretch.times_below_top.Goals as goal

pub loop-x-init : goal.loop-x-init
loop-x-init c = in_none _ _ _ (omega arith)

pub loop-x-preserved : goal.loop-x-preserved
unfolding timed_at
loop-x-preserved c =
    let l = c.loop-x in
    let a = c.args in
    let w = c.wrapping_sub_u64 in
    let x = get_or a.sent.now (a.from + l.x-index) 0 in
    let here = cut_at a.sent.now a.from a.to l.x-index 0 (omega arith) in
    rw here
    (top_more l.late x w.result a.most _ (c.type_inv.sent (a.from + l.x-index)).fits (omega arith) c.requires.2 (rw here at w.ensures.value)
    l.invariant
    ∙ in_next (timed_at a.most a.sent.now) a.from l.x-index _ _ refl refl)

pub returns : goal.returns
returns c = c.loop-x.invariant ∙ ap (all_in _ _) (omega arith)
