-- `text::put_signed` meets its contract. Below zero a minus sign and the digits, which leave room for it; else the digits alone.
-- Assumes nothing.
use native.Mathlib.Omega.{arith}
use Rattle.text.proofs.Puts.{then, renamed}
use Rattle.text.proofs.Signs.{signed_short, minus_room, minus, plain}
use Rattle.text.proofs.put_signed.Goals as goal

pub put_digits-requires : goal.put_digits-requires
put_digits-requires c =
    let far = c.below_zero in
    omega (
      arith,
      minus_room c.args.z c.ranges.z far.result far.ensures,
      c.put-after.ensures.past,
    )

pub returns-then-z-lt0 : goal.returns-then-z-lt0
returns-then-z-lt0 c =
    let far = c.below_zero in
    let sign = c.put-after in
    let z = c.args.z in
    let words = renamed (minus z c.ranges.z far.result c.if-z-lt0.true far.ensures)
    (then sign.ensures c.put_digits.ensures) in
    (words, omega (arith, words.past, signed_short z c.ranges.z))

pub overflow_cast-z : goal.overflow_cast-z
overflow_cast-z c =
    (plain c.args.z c.ranges.z c.if-z-lt0.false).0

pub returns : goal.returns
returns c =
    let put = c.put_decimal.ensures in
    (renamed (plain c.args.z c.ranges.z c.if-z-lt0.false).1 put.0, put.1)
