-- `tally_all` walks the flows. The invariant: what is added up is the tally of those before flow k, at most 2^40 of each a flow.
use mathlib.Core.Path.{◌≡◌, ap, ◌∙◌}
use Prim.Native.Nat.{◌≤◌}
use native.Mathlib.Omega.{arith}
use Rattle.ledger.specs.Memory.{memory}
use Rattle.context.specs.Walk.{tally_to}
use Rattle.context.proofs.Walks.{tally_none, tally_more}
use Rattle.context.proofs.sound.tally_all.Goals as goal

pub loop-k-init : goal.loop-k-init
loop-k-init c =
    let buffer = memory c.args.outstanding.now c.args.marked.now c.args.sizes.now c.args.sent.now in (
      tally_none c.args.cap c.args.flows.now (buffer),
      record { outstanding = omega arith; marked = omega arith; bytes = omega arith; backlog = omega arith },
    )

pub tally_at-one-requires : goal.tally_at-one-requires
tally_at-one-requires c = (omega (arith, c.requires.0), c.requires.1)

pub plus-all-requires : goal.plus-all-requires
plus-all-requires c =
    let F = c.loop-k.invariant.1 in
    let few : c.loop-k.k ≤ 8 = omega (arith, c.requires.0, c.requires.1.parted.few) in
    let q = c.tally_at-one.ensures in
    record {
      outstanding_bound = (omega (arith, F, few), omega (arith, F, few), omega (arith, F, few), omega (arith, F, few));
      outstanding_bound_2 = (q.1, q.2, q.3, q.4);
    }

pub loop-k-preserved : goal.loop-k-preserved
loop-k-preserved c =
    let buffer = memory c.args.outstanding.now c.args.marked.now c.args.sizes.now c.args.sent.now in
    let F = c.loop-k.invariant.1 in
    let q = c.tally_at-one.ensures in
    let p = c.plus-all.ensures in (
      tally_more c.args.cap c.args.flows.now (buffer) c.loop-k.k c.loop-k.all c.tally_at-one.result c.loop-k.invariant.0
          q.0 p,
      record {
        outstanding = omega (arith, p.0, F, q.1);
        marked = omega (arith, p.1, F, q.2);
        bytes = omega (arith, p.2, F, q.3);
        backlog = omega (arith, p.3, F, q.4);
      },
    )

pub returns : goal.returns
returns c =
    let buffer = memory c.args.outstanding.now c.args.marked.now c.args.sizes.now c.args.sent.now in
    let e : c.loop-k.k ≡ c.args.n = omega arith in
    c.loop-k.invariant.0 ∙ ap (tally_to c.args.cap c.args.flows.now (buffer)) (e ∙ c.requires.0)
