-- `in_range` tests every range, by what `within` tests; the first PSN is a word of 32 bits.
use mathlib.Core.Bool.{and-true}
use Prim.Native.Nat.{◌<◌}
use native.Mathlib.Omega.{arith}
use borrow.Author.Tests.{lt-ltb}
use Rattle.serial.specs.Psn.{psns}
use Rattle.window.specs.Range.{in_range}
use Rattle.window.proofs.bounds.in_range.Goals as goal
use Rattle.window.proofs.bounds.in_range.Goals.{Start}

psn_fits : (c : Start) → c.args.s.first_psn < psns
psn_fits c = omega arith

pub returns : goal.returns
unfolding in_range
returns c = rw (lt-ltb c.args.s.first_psn psns (psn_fits (goal.at.returns c).Start), and-true) (cc)
