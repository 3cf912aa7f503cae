-- `times_counted` counts the late ones: by its invariant there is none exactly where the test holds so far.
use Rattle.std.proofs.Common.{ℕ, leb, ap, ◌∙◌, arith}
use Rattle.ledger.specs.Stretch.{all_in, timed_at}
use Rattle.ledger.proofs.Stretches.{in_none, in_next, cut_at, no_sum}
use Rattle.ledger.proofs.stretch.times_counted.Goals as goal

pub loop-x-init : goal.loop-x-init
loop-x-init c = (omega arith, in_none _ _ _ (omega arith))

pub loop-x-preserved : goal.loop-x-preserved
unfolding timed_at
loop-x-preserved c =
    let l = c.loop-x in
    let a = c.args in (
      omega (arith, c.one_late-late.ensures.1),
      no_sum l.late c.one_late-late.result
          ∙ in_next (timed_at a.most a.sent.now) a.from l.x-index _ _ l.invariant.1
          (c.one_late-late.ensures.0 ∙ ap (λ (x : ℕ). leb x a.most) (cut_at a.sent.now a.from a.to l.x-index 0 (omega arith))),
    )

pub returns : goal.returns
returns c = c.loop-x.invariant.1 ∙ ap (all_in _ _) (omega arith)
