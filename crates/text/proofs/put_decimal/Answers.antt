-- `text::put_decimal` meets its contract. The room for any number's digits is room for these.
-- Assumes nothing.
use native.Mathlib.Omega.{arith}
use Rattle.text.proofs.Digits.{decimal_short}
use Rattle.text.proofs.put_decimal.Goals as goal

pub put_digits-requires : goal.put_digits-requires
put_digits-requires c = omega (arith, decimal_short c.args.n)

pub returns : goal.returns
returns c =
    let words = c.put_digits.ensures in
    (words, omega (arith, words.past, decimal_short c.args.n))
