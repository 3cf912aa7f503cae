-- `flows_ok` makes the tests of `flows_ok` in their order: by the laws of proofs/Numbering.
use mathlib.Core.Path.{◌≡◌, ap, ◌∙◌}
use Prim.Native.Nat.{◌/◌}
use native.Mathlib.Omega.{arith}
use lib.ListN.{length}
use mir.Syntax.{w64}
use mir.Val.{to_z, of_z}
use borrow.Author.Rules.{rules}
use Rattle.ledger.specs.Bounds.{in_bounds}
use Rattle.ledger.specs.Memory.{memory}
use Rattle.flow_table.specs.Words.{count_of}
use Rattle.context.specs.Sound.{is_cut}
use Rattle.context.proofs.Numbering.{not_table, table_so, not_cut, parted, not_all, standing, tested}
use mathlib.Core.Bool.{not}
use Rattle.context.proofs.sound.flows_ok.Goals as goal
use Rattle.context.proofs.sound.flows_ok.Goals.{After-is_cut, After-share-cap}

-- the share and the cut, of the number of flows that the table has
share_is : (c : After-share-cap) → let a = c.args in
    c.share-cap.result ≡ length a.sizes.now / count_of a.flows.now
share_is c = rw c.count-n.ensures at c.share-cap.ensures

cut_is : (c : After-is_cut) →
    let buffer = memory c.args.outstanding.now c.args.marked.now c.args.sizes.now c.args.sent.now in
    c.is_cut.result ≡ is_cut (count_of c.args.flows.now) c.share-cap.result (buffer)
cut_is c = rw c.count-n.ensures at c.is_cut.ensures

pub returns-then-not-is_table : goal.returns-then-not-is_table
returns-then-not-is_table c =
    let buffer = memory c.args.outstanding.now c.args.marked.now c.args.sizes.now c.args.sent.now in
    not_table c.args.c c.args.flows.now (buffer) _
    c.is_table.ensures (ap not c.if-not-is_table.true)

pub share-cap-requires : goal.share-cap-requires
share-cap-requires c =
    let buffer = memory c.args.outstanding.now c.args.marked.now c.args.sizes.now c.args.sent.now in
    let T = table_so c.args.c c.args.flows.now (buffer) _
    c.is_table.ensures (ap not c.if-not-is_table.false) in
    omega (arith, T.some, c.count-n.ensures)

pub is_cut-requires : goal.is_cut-requires
is_cut-requires c =
    let buffer = memory c.args.outstanding.now c.args.marked.now c.args.sizes.now c.args.sent.now in
    let T = table_so c.args.c c.args.flows.now (buffer) _
    c.is_table.ensures (ap not c.if-not-is_table.false) in
    omega (arith, T.few, c.count-n.ensures)

pub returns-then-not-is_cut : goal.returns-then-not-is_cut
returns-then-not-is_cut c =
    let buffer = memory c.args.outstanding.now c.args.marked.now c.args.sizes.now c.args.sent.now in
    not_cut c.args.c c.args.flows.now (buffer) _
    c.is_table.ensures (ap not c.if-not-is_table.false) _ (share_is (goal.at.returns-then-not-is_cut c).After-share-cap) _ (cut_is (goal.at.returns-then-not-is_cut c).After-is_cut)
    (ap not c.if-not-is_cut.true)

pub all_stand-requires : goal.all_stand-requires
all_stand-requires c =
    let buffer = memory c.args.outstanding.now c.args.marked.now c.args.sizes.now c.args.sent.now in (
      c.count-n.ensures,
      parted c.args.c c.args.flows.now (buffer) _
          c.is_table.ensures (ap not c.if-not-is_table.false) _ (share_is (goal.at.all_stand-requires c).After-share-cap) _ (cut_is (goal.at.all_stand-requires c).After-is_cut)
          (ap not c.if-not-is_cut.false),
    )

pub returns-then-not-all_stand : goal.returns-then-not-all_stand
returns-then-not-all_stand c =
    let buffer = memory c.args.outstanding.now c.args.marked.now c.args.sizes.now c.args.sent.now in
    not_all c.args.c c.args.flows.now (buffer) _
    c.is_table.ensures (ap not c.if-not-is_table.false) _ (share_is (goal.at.returns-then-not-all_stand c).After-share-cap) _ (cut_is (goal.at.returns-then-not-all_stand c).After-is_cut)
    (ap not c.if-not-is_cut.false) _ c.all_stand.ensures (ap not c.if-not-all_stand.true)

pub tally_all-all-requires : goal.tally_all-all-requires
tally_all-all-requires c =
    let buffer = memory c.args.outstanding.now c.args.marked.now c.args.sizes.now c.args.sent.now in (
      c.count-n.ensures,
      standing c.args.c c.args.flows.now (buffer) _
          c.is_table.ensures (ap not c.if-not-is_table.false) _ (share_is (goal.at.tally_all-all-requires c).After-share-cap) _ (cut_is (goal.at.tally_all-all-requires c).After-is_cut)
          (ap not c.if-not-is_cut.false) _ c.all_stand.ensures (ap not c.if-not-all_stand.false),
    )

pub returns : goal.returns
returns c =
    let buffer = memory c.args.outstanding.now c.args.marked.now c.args.sizes.now c.args.sent.now in
    let k = c.args.c in
    let word : to_z w64 (of_z w64 k.totals.in_flight) ≡ k.totals.in_flight =
    search (rules, c.struct_told-1.given.1) in
    tested k c.args.flows.now (buffer) _
    c.is_table.ensures (ap not c.if-not-is_table.false) _ (share_is (goal.at.returns c).After-share-cap) _ (cut_is (goal.at.returns c).After-is_cut)
    (ap not c.if-not-is_cut.false) _ c.all_stand.ensures (ap not c.if-not-all_stand.false) _ _ _ c.tally_all-all.ensures
    c.totals_ok.ensures (c.in_bounds.ensures ∙ ap (in_bounds k.settings.maxwnd) word)
