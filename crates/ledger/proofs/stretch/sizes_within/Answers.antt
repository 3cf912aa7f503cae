-- `sizes_within` looks at every slot's number: by its invariant those so far are told by `all`, and a turn is `in_next`.
use Rattle.std.proofs.Common.{ap, ◌∙◌, arith}
use Rattle.ledger.specs.Stretch.{all_in, sized_in, sized_at}
use Rattle.ledger.proofs.Stretches.{in_none, in_next, cut_at, top_sized}
use Rattle.ledger.proofs.stretch.sizes_within.Goals as goal

pub loop-w-init : goal.loop-w-init
loop-w-init c = (in_none _ _ _ (omega arith), c.top_of-top.ensures)

pub loop-w-preserved : goal.loop-w-preserved
unfolding sized_at
loop-w-preserved c =
    let l = c.loop-w in
    let a = c.args in (
      in_next (sized_at a.low a.high a.most a.sizes.now) a.from l.w-index _ _ l.invariant.0
          (c.is_within-all.ensures.0
          ∙ top_sized a.low a.high _ a.most _ c.is_within-all.ensures.1 l.invariant.1
          ∙ ap (sized_in a.low a.high a.most) (cut_at a.sizes.now a.from a.to l.w-index 0 (omega arith))),
      l.invariant.1,
    )

pub returns : goal.returns
returns c = c.loop-w.invariant.0 ∙ ap (all_in _ _) (omega arith)
