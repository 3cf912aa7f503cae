-- `block_ok` puts the times together: by its invariant they are in their bound so far exactly where each is, and a turn is `or_below`.
use Rattle.std.proofs.Common.{sym, ap, ◌∙◌, ltb, get_or, take_all, arith}
use Rattle.bits.proofs.Words.{or_below}
use Rattle.window.specs.Limits.{later_end}
use Rattle.sender.specs.Sound.{times_ok}
use Rattle.sender.proofs.Sounds.{times_none, times_more}
use Rattle.sender.proofs.sound.block_ok.Goals as goal

pub loop-time-init : goal.loop-time-init
loop-time-init c = sym times_none

pub loop-time-preserved : goal.loop-time-preserved
loop-time-preserved c =
    let l = c.loop-time in
    let times = c.args.block.now in
    or_below 49 l.all (get_or times l.time-index 0)
    ∙ times_more times l.time-index (ltb l.all later_end) (omega arith) l.invariant

pub returns : goal.returns
returns c = c.loop-time.invariant ∙ ap times_ok (take_all c.loop-time.time-index c.args.block.now (omega arith))
