-- `all_stand` walks the flows. The invariant: all before flow k stand.
use mathlib.Core.Path.{◌≡◌, sym, ap, ◌∙◌}
use mathlib.Core.Bool.{false, false≢true}
use native.Mathlib.Omega.{arith}
use Rattle.bits.proofs.Words.{same_truth}
use Rattle.ledger.specs.Memory.{memory}
use Rattle.ledger.specs.Sound.{all_to}
use Rattle.ledger.proofs.Walks.{all_none, all_more, all_at}
use Rattle.rules.specs.Test.{whole}
use Rattle.context.specs.Walk.{stands_on}
use Rattle.context.proofs.sound.all_stand.Goals as goal

pub loop-k-init : goal.loop-k-init
loop-k-init c =
    let test = stands_on c.args.mtu c.args.clock c.args.cap c.args.flows.now
    (memory c.args.outstanding.now c.args.marked.now c.args.sizes.now c.args.sent.now) in
    all_none test

pub stands_at-requires : goal.stands_at-requires
stands_at-requires c = (omega (arith, c.requires.0), c.requires.1)

pub returns-then-not-stands_at : goal.returns-then-not-stands_at
returns-then-not-stands_at c =
    let test = stands_on c.args.mtu c.args.clock c.args.cap c.args.flows.now
    (memory c.args.outstanding.now c.args.marked.now c.args.sizes.now c.args.sent.now) in
    let f = test in
    same_truth false (all_to f _) (λ e. absurd (false≢true e))
    (λ t. sym (sym c.stands_at.ensures ∙ c.if-not-stands_at.true)
    ∙ all_at f _ t c.loop-k.k (omega (arith, c.requires.0)))

pub loop-k-preserved : goal.loop-k-preserved
loop-k-preserved c =
    let test = stands_on c.args.mtu c.args.clock c.args.cap c.args.flows.now
    (memory c.args.outstanding.now c.args.marked.now c.args.sizes.now c.args.sent.now) in
    all_more test c.loop-k.k ∙ whole c.loop-k.invariant (sym c.stands_at.ensures ∙ c.if-not-stands_at.false)

pub returns : goal.returns
returns c =
    let test = stands_on c.args.mtu c.args.clock c.args.cap c.args.flows.now
    (memory c.args.outstanding.now c.args.marked.now c.args.sizes.now c.args.sent.now) in
    let e : c.loop-k.k ≡ c.args.n = omega arith in
    sym (ap (all_to test) (sym (e ∙ c.requires.0)) ∙ c.loop-k.invariant)
