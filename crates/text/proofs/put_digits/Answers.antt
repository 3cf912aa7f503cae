-- `text::put_digits` meets its contract. `fill_digits` leaves n's decimal text at the end of its bytes.
-- Assumes nothing.
use Rattle.std.proofs.Common.{ap, length, arith}
use Rattle.text.proofs.Puts.{renamed}
use Rattle.text.proofs.Digits.{from_first}
use Rattle.text.proofs.put_digits.Goals as goal

pub put-requires : goal.put-requires
put-requires c =
    let made = c.fill_digits-first in
    omega (arith, ap length (from_first _ _ made.new.digits (omega arith) made.ensures.text), c.requires)

pub returns : goal.returns
returns c =
    let made = c.fill_digits-first in
    renamed (from_first _ _ made.new.digits (omega arith) made.ensures.text) c.put.ensures
