-- `times_ok` goes block by block. The invariant: the times are in their bounds exactly if those from the block on are; a block is
-- `times_block`.
use Rattle.std.proofs.Common.{◌≡◌, ◌*◌, drop}
use Rattle.sender.specs.Sound.{times_ok}
use Rattle.sender.proofs.sound.times_ok.Given as goal

abbrev pub invariant-loop-block : goal.invariant-loop-block
invariant-loop-block l = times_ok l.evs ≡ times_ok (drop (l.block-index * 64) l.evs)
