-- `times_ok` goes block by block. The invariant: the times are in their bounds exactly if those from the block on are; a block is
-- `times_block`.
use Rattle.std.proofs.Common.{true, false, sym, ◌∙◌, ◌/◌, length, arith}
use Rattle.sender.proofs.Sounds.{times_block}
use Rattle.sender.proofs.sound.times_ok.Goals as goal

pub returns-then-not-block_ok : goal.returns-then-not-block_ok
returns-then-not-block_ok c =
    let ts = c.args.evs.now in
    let blocks = c.as_chunks.ensures in
    sym (times_block ts _ 64 (length ts / 64) c.loop-block.block-index false blocks.front (omega (arith, blocks.front_len))
    c.loop-block.invariant (sym c.block_ok.ensures ∙ c.if-not-block_ok.true))

pub loop-block-preserved : goal.loop-block-preserved
loop-block-preserved c =
    let ts = c.args.evs.now in
    let blocks = c.as_chunks.ensures in
    times_block ts _ 64 (length ts / 64) c.loop-block.block-index true blocks.front (omega (arith, blocks.front_len))
    c.loop-block.invariant (sym c.block_ok.ensures ∙ c.if-not-block_ok.false)
