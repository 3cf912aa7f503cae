-- `gap` is the difference as a signed number: from 2^23 on one turn less, by `turn_less`.
use Rattle.std.proofs.Common.{◌<◌, pos, ◌-ℤ◌, arith, w64, rules}
use mir.ValLaws.{to_z_pos, to_z-of_z}
use Rattle.rules.specs.Branch.{lt_yes, lt_no}
use Rattle.serial.specs.Count.{counts, half, gap_of}
use Rattle.serial.proofs.Counts.{ahead_lt, turn_less, turn_fits}
use Rattle.serial.proofs.gap.Goals as goal

pub returns-then-units-lt-HALF : goal.returns-then-units-lt-HALF
unfolding gap_of
returns-then-units-lt-HALF c =
    rw (← c.ahead-units.ensures)
    (lt_yes c.ahead-units.result half _ _ _ c.if-units-lt-HALF.true (to_z_pos w64 _ (omega arith)))

pub overflow_cast-result-2 : goal.overflow_cast-result-2
overflow_cast-result-2 c = search (rules, ahead_lt c.args.count c.args.held)

pub overflow_sub-result : goal.overflow_sub-result
overflow_sub-result c =
    let u = c.ahead-units.result in
    let l : u < counts = omega (arith, ahead_lt c.args.count c.args.held) in
    rw (to_z_pos w64 u (omega arith)) (turn_fits u l)

pub returns : goal.returns
unfolding gap_of
returns c =
    let u = c.ahead-units.result in
    let l : u < counts = omega (arith, ahead_lt c.args.count c.args.held) in
    rw (to_z_pos w64 u (omega arith), to_z-of_z w64 (pos u -ℤ pos counts) (turn_fits u l), ← c.ahead-units.ensures)
    (lt_no u half _ _ _ c.if-units-lt-HALF.false (turn_less u l))
