-- `covered_word` tells by cum up to cum itself and by the map from there on, or by the map alone where cum lies behind psn:
-- one law for each way out.
use Rattle.std.proofs.Common.{arith, pow_pos}
use Rattle.serial.proofs.CoverWord.{far_is, all_law, low_fits, joined_law, shifted_law, none_law}
use Rattle.serial.proofs.covered_word.Goals as goal

pub returns-then-behind-ge63 : goal.returns-then-behind-ge63
returns-then-behind-ge63 c =
    let a = c.args in
    all_law a.cum a.map a.psn c.ranges.map.fits (omega arith) (omega arith)

pub overflow_sub-result : goal.overflow_sub-result
overflow_sub-result c =
    let a = c.args in
    rw (c.psn_minus-behind.ensures, low_fits a.cum a.map a.psn c.ranges.map.fits (omega arith) (omega arith))
    (pow_pos _)

pub returns-then-behind-le-REACH : goal.returns-then-behind-le-REACH
returns-then-behind-le-REACH c =
    let a = c.args in
    rw c.psn_minus-behind.ensures
    (joined_law a.cum a.map a.psn c.ranges.map.fits (omega arith) (omega arith))

pub returns-then-ahead-lt64 : goal.returns-then-ahead-lt64
returns-then-ahead-lt64 c =
    let a = c.args in
    let far = far_is a.cum a.psn c.requires (omega arith) in
    let ahead = rw c.psn_plus.ensures at c.psn_minus-ahead.ensures in
    rw ahead (shifted_law a.cum a.map a.psn c.ranges.map.fits far)

pub returns : goal.returns
returns c =
    let a = c.args in
    let far = far_is a.cum a.psn c.requires (omega arith) in
    let ahead = rw c.psn_plus.ensures at c.psn_minus-ahead.ensures in
    none_law a.cum a.map a.psn c.ranges.map.fits far (omega arith)
