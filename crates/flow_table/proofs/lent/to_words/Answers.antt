-- `to_words` stores the words of each of the eight records in turn (`Spelt`).
use Rattle.std.proofs.Common.{arith}
use Rattle.flow_table.proofs.Eight.{eight, low_fits, next_fits}
use Rattle.flow_table.proofs.Turns.{none_spelt, all_spelt, spelt_length, spelt_next}
use Rattle.flow_table.proofs.lent.to_words.Goals as goal

pub loop-k-init : goal.loop-k-init
loop-k-init c = none_spelt c.args.fs.at (eight c.args.fs _ c.well_formed.0)

pub put-requires : goal.put-requires
put-requires c =
    let fs = c.args.fs in
    let n = spelt_length fs.at (eight fs _ c.well_formed.0) c.loop-k.k c.loop-k.words c.loop-k.invariant in
    omega arith

pub loop-k-preserved : goal.loop-k-preserved
loop-k-preserved c =
    let fs = c.args.fs in
    let f = c.nth.result in
    spelt_next fs.at (eight fs _ c.well_formed.0) c.loop-k.k c.loop-k.words c.loop-k.invariant f (omega arith)
    c.nth.ensures (low_fits f _ c.nth.type_inv) (next_fits f _ c.nth.type_inv) _ c.put.ensures

pub returns : goal.returns
returns c =
    let fs = c.args.fs in
    all_spelt fs.at (eight fs _ c.well_formed.0) c.loop-k.k c.loop-k.words c.loop-k.invariant (omega arith)
