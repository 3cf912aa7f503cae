-- `block_ok` puts the times together: by its invariant they are in their bound so far exactly where each is, and a turn is `or_below`.
use Rattle.std.proofs.Common.{◌≡◌, ltb, take}
use Rattle.window.specs.Limits.{later_end}
use Rattle.sender.specs.Sound.{times_ok}
use Rattle.sender.proofs.sound.block_ok.Given as goal

abbrev pub invariant-loop-time : goal.invariant-loop-time
invariant-loop-time l = ltb l.all later_end ≡ times_ok (take l.time-index l.block)
