-- `deliver::retire_reached` meets its contract: with nothing reached none leaves, by the law of proofs/Retiring; else `retire` does it.
use Rattle.std.proofs.Common.{◌<◌, arith}
use Rattle.serial.specs.Psn.{psns}
use Rattle.ledger.proofs.Retiring.{none_retires}
use Rattle.ledger.proofs.deliver.retire_reached.Goals as goal
use Rattle.ledger.proofs.deliver.retire_reached.Goals.{Start}

low_fits : (c : Start) → c.args.flow.low < psns
low_fits c = omega arith

pub returns-then-far-eq0 : goal.returns-then-far-eq0
returns-then-far-eq0 c =
    none_retires c.requires.standing (low_fits (goal.at.returns-then-far-eq0 c).Start) c.requires.n_value (c.requires.n_value_2 c.if-far-eq0.true)
