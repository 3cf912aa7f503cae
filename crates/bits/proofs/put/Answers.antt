-- `put` sets word i / 64 to what it was but for bit i % 64: `put_law`.
use Prim.Native.Nat.{◌/◌}
use Rattle.bits.proofs.Machine.{put_law}
use Rattle.bits.proofs.put.Goals as goal

pub returns : goal.returns
returns c =
    let a = c.args in
    put_law a.words.now a.i a.b (c.slice_known-1.given (a.i / 64)).fits
