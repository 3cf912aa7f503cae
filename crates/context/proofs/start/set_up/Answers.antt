-- `set_up` makes the tests of `on_set_up` in their order, and overwrites what it was lent only after them: by the laws of proofs/Starts on
-- its answer.
use borrow.Author.Rules.{rules}
use mathlib.Core.Path.{◌≡◌, ap, ◌∙◌}
use mathlib.Core.Bool.{true}
use lib.ListN.{length}
use Rattle.rules.specs.Verdict.{number_of}
use Rattle.ledger.specs.Memory.{memory}
use Rattle.ledger.proofs.Shows.{memories}
use Rattle.flow_table.specs.Words.{is_table}
use Rattle.context.proofs.Starts.{refused_range, refused_lengths, accepted_table, accepted_so, fresh_length}
use mathlib.Core.Bool.{not}
use Rattle.context.proofs.start.set_up.Goals as goal
use Rattle.context.proofs.start.set_up.Goals.{Else-not-lengths_ok-evs}

-- past both tests: a table
table : (c : Else-not-lengths_ok-evs) → is_table c.args.flows.now ≡ true
table c =
    let handed = memory c.args.outstanding.now c.args.marked.now c.args.sizes.now c.args.sent.now in
    accepted_table c.args.settings c.args.flows.now (handed) c.args.evs.now _ c.in_range.ensures
    (ap not c.if-not-in_range.false) _ c.lengths_ok.ensures (ap not c.if-not-lengths_ok-evs.false)

pub returns-then-not-in_range : goal.returns-then-not-in_range
unfolding number_of
returns-then-not-in_range c =
    let handed = memory c.args.outstanding.now c.args.marked.now c.args.sizes.now c.args.sent.now in
    refused_range c.args.settings c.args.flows.now (handed) c.args.evs.now _ c.in_range.ensures
    _ c.not_set_up.ensures.0 _ (ap number_of c.not_set_up.ensures.1) (ap not c.if-not-in_range.true)

pub returns-then-not-lengths_ok-evs : goal.returns-then-not-lengths_ok-evs
unfolding number_of
returns-then-not-lengths_ok-evs c =
    let handed = memory c.args.outstanding.now c.args.marked.now c.args.sizes.now c.args.sent.now in
    refused_lengths c.args.settings c.args.flows.now (handed) c.args.evs.now _ c.in_range.ensures
    _ c.not_set_up-then-not-lengths_ok-evs.ensures.0 _ (ap number_of c.not_set_up-then-not-lengths_ok-evs.ensures.1) (ap not c.if-not-in_range.false) _ c.lengths_ok.ensures
    (ap not c.if-not-lengths_ok-evs.true)

pub fresh_flows-requires : goal.fresh_flows-requires
fresh_flows-requires c = table (goal.at.fresh_flows-requires c).Else-not-lengths_ok-evs

pub shape_of-flows : goal.shape_of-flows
shape_of-flows c =
    let handed = memory c.args.outstanding.now c.args.marked.now c.args.sizes.now c.args.sent.now in
    ap length c.fresh_flows.ensures ∙ fresh_length c.args.settings c.args.flows.now (handed) c.args.evs.now (table (goal.at.shape_of-flows c).Else-not-lengths_ok-evs)

pub returns : goal.returns
unfolding number_of
returns c =
    let handed = memory c.args.outstanding.now c.args.marked.now c.args.sizes.now c.args.sent.now in
    accepted_so c.args.settings c.args.flows.now (handed) c.args.evs.now _ c.in_range.ensures
    (ap not c.if-not-in_range.false) _ c.lengths_ok.ensures (ap not c.if-not-lengths_ok-evs.false)
    _ _ _ _ c.fresh.ensures c.fresh_flows.ensures
    (memories (search rules) (search rules) (search rules) (search rules) ∙ c.clear.ensures.zeros.0) c.clear.ensures.zeros.1
