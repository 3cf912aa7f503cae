-- `nscc_replay` tests what it was lent, replays, and stores what the batch gave.
use mathlib.Core.Path.{sym, ◌∙◌}
use Rattle.c_api.proofs.Handing.{lent_long, lent_wrong, handed_back}
use Rattle.c_api.proofs.batch.nscc_replay.Goals as goal

pub returns-then-not-is_lent : goal.returns-then-not-is_lent
returns-then-not-is_lent c =
    lent_wrong _ _ _ _ _ _ _ (sym c.is_lent.ensures ∙ c.if-not-is_lent.true)

pub place_of-from-requires : goal.place_of-from-requires
place_of-from-requires c = (lent_long _ _ (sym c.is_lent.ensures ∙ c.if-not-is_lent.false)).0

pub keep_batch-requires : goal.keep_batch-requires
keep_batch-requires c =
    lent_long _ _ (sym c.is_lent.ensures ∙ c.if-not-is_lent.false)

pub returns : goal.returns
returns c =
    let stored = c.keep_batch.ensures in
    handed_back _ _ _ _ _ _ _ (sym c.is_lent.ensures ∙ c.if-not-is_lent.false) _ c.place_of-from.ensures _
    c.unpack-given.ensures _ c.replay-batch.ensures
    _ _ _ stored.0 stored.1 stored.2
