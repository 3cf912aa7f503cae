-- `nscc_chunk` tests what it was lent, takes the chunk, and stores what it gave.
use mathlib.Core.Path.{sym, ◌∙◌}
use Rattle.c_api.proofs.Parting.{part_long, part_wrong, part_back}
use Rattle.c_api.proofs.parts.nscc_chunk.Goals as goal

pub returns-then-not-is_lent : goal.returns-then-not-is_lent
returns-then-not-is_lent c =
    part_wrong _ _ _ _ _ _ _ _ _ (sym c.is_lent.ensures ∙ c.if-not-is_lent.true)

pub carry_of-carry-requires : goal.carry_of-carry-requires
carry_of-carry-requires c = (part_long _ _ (sym c.is_lent.ensures ∙ c.if-not-is_lent.false)).0

pub keep_took-requires : goal.keep_took-requires
keep_took-requires c =
    part_long _ _ (sym c.is_lent.ensures ∙ c.if-not-is_lent.false)

pub returns : goal.returns
returns c =
    let stored = c.keep_took.ensures in
    part_back _ _ _ _ _ _ _ _ _ (sym c.is_lent.ensures ∙ c.if-not-is_lent.false) _ c.carry_of-carry.ensures _
    c.unpack-given.ensures _ c.chunk-took.ensures
    _ _ _ stored.0 stored.1 stored.2
