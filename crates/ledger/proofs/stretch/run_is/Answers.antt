-- `run_is` puts them together: by its invariant they are `zero` so far exactly where each is, and a turn is `in_next`.
use Rattle.std.proofs.Common.{◌+◌, get_or, ap, ◌∙◌, arith}
use Rattle.std.proofs.lemmas.List.{get_or_default}
use Rattle.ledger.specs.Stretch.{all_in}
use Rattle.ledger.proofs.Stretches.{in_none, in_next, cut_at}
use Rattle.ledger.proofs.stretch.run_is.Goals as goal

pub bitor-any-requires : goal.bitor-any-requires
bitor-any-requires g c = c.requires.joined.any _ _

pub loop-x-init : goal.loop-x-init
loop-x-init g c = c.requires.joined.none ∙ in_none _ _ _ (omega arith)

pub loop-x-preserved : goal.loop-x-preserved
loop-x-preserved g c =
    let l = c.loop-x in
    let a = c.args in
    let x = c.x-item in
    c.requires.joined.both l.any x.result c.bitor-any.result c.bitor-any.ensures
    ∙ in_next (λ i. g.T.PartialEq.eq (get_or a.slots.now i a.zero) a.zero) a.from l.x-index _ _ l.invariant
    (ap (λ v. g.T.PartialEq.eq v a.zero)
    (x.is
    ∙ cut_at a.slots.now a.from a.to l.x-index x.result (omega arith)
    ∙ get_or_default a.slots.now (a.from + l.x-index) x.result a.zero (omega arith)))

pub returns : goal.returns
returns g c = c.eq.ensures ∙ c.loop-x.invariant ∙ ap (all_in _ _) (omega arith)
