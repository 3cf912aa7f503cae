-- `slots::find` reads the PSN's slot where the PSN lies in low..next-1 (`found`); anywhere else there is no packet (`packet_none`).
use Rattle.std.proofs.Common.{◌≤◌, sym, refl, arith}
use Rattle.ledger.specs.Ring.{long_of, offset_of}
use Rattle.ledger.specs.Lent.{memory_of}
use Rattle.ledger.specs.Memory.{shown, Words}
use Rattle.ledger.proofs.Geometry.{packet_none}
use Rattle.ledger.proofs.Puts.{found}
use Rattle.ledger.proofs.slots.find.Goals as goal

pub place-i-requires : goal.place-i-requires
place-i-requires c =
    rw c.requires.sent c.requires.cap

pub returns-then-offset-long : goal.returns-then-offset-long
unfolding offset_of
returns-then-offset-long c =
    let a = c.args in
    let m = memory_of a.ring in
    let W : Words m =
    record {
      outstanding = c.status_at-status.ensures.words.0;
      marked = c.status_at-status.ensures.words.1;
    } in
    found a.flow m c.requires W a.psn _ _ _ _ _ _ _ c.ranges.psn.fits
    (omega (arith, c.if-offset-long.true, c.long.ensures, c.psn_minus-offset.ensures))
    c.place-i.ensures.0 c.status_at-status.ensures.status refl refl
    c.size_in.ensures.0 refl c.resent_in.ensures

pub returns : goal.returns
unfolding offset_of
returns c =
    let a = c.args in
    let m = memory_of a.ring in
    let l : long_of a.flow ≤ offset_of a.flow a.psn =
    omega (arith, c.if-offset-long.false, c.long.ensures, c.psn_minus-offset.ensures) in
    sym (packet_none a.flow (shown a.flow.low a.flow.next m) a.psn l)
