-- `start` takes the records over: low and next of each flow of a sound context are PSNs. In-flight reads back by `word`.
use native.Mathlib.Omega.{arith}
use Rattle.ledger.proofs.Signs.{word, flown_wide}
use Rattle.context.specs.Lent.{context_given}
use Rattle.context.proofs.Sounds.{SoundContext, context_facts}
use Rattle.context.proofs.Joins.{flow_fits}
use Rattle.plan.specs.Ahead.{ahead_of}
use Rattle.plan.proofs.ahead.start.Goals as goal
use Rattle.plan.proofs.ahead.start.Goals.{Start}

facts : (c : Start) →
    let handed = let a = c.args in
    context_given a.c a.flows.now a.outstanding.now a.marked.now a.sizes.now a.sent.now a.evs.now in
    SoundContext handed
facts c = context_facts _ c.requires

pub from_words-requires : goal.from_words-requires
from_words-requires c =
    let g = goal.at.from_words-requires c in
    let handed = let a = c.args in
    context_given a.c a.flows.now a.outstanding.now a.marked.now a.sizes.now a.sent.now a.evs.now in
    let S = facts g.Start in
    let n = c.count.ensures in
    record {
      n_le_flows_most = (omega (arith, n, S.table.few), omega (arith, n, S.table.whole));
      all_fit = λ k h. flow_fits handed S k (omega (arith, n));
    }

pub returns : goal.returns
unfolding ahead_of
returns c =
    let g = goal.at.returns c in
    let S = facts g.Start in
    rw (c.from_words.ensures, c.count.ensures, word _ (flown_wide _ S.range.maxwnd_high S.flown))
