-- `choose` is the next path: the cursor where its EV is free or more than half are avoided, else as many steps on as the round passes.
use Rattle.std.proofs.Common.{◌-◌, length, ◌∙◌, arith, rules}
use Rattle.paths.proofs.Walk.{avoided_le, early_part}
use Rattle.paths.proofs.Circle.{steps_inside, cursor_free, over_half, half_or_less, free_parts, avoided_parts, lands_on}
use Rattle.paths.proofs.choose.Goals as goal

pub returns-then-evs-cursor : goal.returns-then-evs-cursor
returns-then-evs-cursor c = let cursor = c.args.cursor in
    let evs = c.args.evs.now in
    let time = c.args.time in
    c.stay.ensures ∙ lands_on cursor evs c.requires.cursor_in_bounds time 0 (cursor_free cursor evs c.requires.cursor_in_bounds time (omega arith))

pub go_round-round-requires : goal.go_round-round-requires
go_round-round-requires c = let evs = c.args.evs.now in
    let E = c.requires.early.0 in
    let cursor = c.args.cursor in
    record {
      head_len_bound = omega arith;
      early = (early_part evs (length evs - cursor) cursor E, early_part evs (cursor - 0) 0 E, c.requires.early.1);
    }

pub overflow_mul-round : goal.overflow_mul-round
overflow_mul-round c = let cursor = c.args.cursor in
    let evs = c.args.evs.now in
    let time = c.args.time in
    let round = c.go_round-round in
    let bound = avoided_le time evs in
    let counted = avoided_parts cursor evs c.requires.cursor_in_bounds time round.result.avoided round.ensures.1 in
    search rules

pub returns-then-n-round : goal.returns-then-n-round
returns-then-n-round c = let cursor = c.args.cursor in
    let evs = c.args.evs.now in
    let time = c.args.time in
    let round = c.go_round-round in
    let counted = avoided_parts cursor evs c.requires.cursor_in_bounds time round.result.avoided round.ensures.1 in
    c.stay-then-n-round.ensures ∙ lands_on cursor evs c.requires.cursor_in_bounds time 0 (over_half cursor evs c.requires.cursor_in_bounds time (omega arith))

pub land-requires : goal.land-requires
land-requires c = let cursor = c.args.cursor in
    let evs = c.args.evs.now in
    let time = c.args.time in
    let round = c.go_round-round in
    let counted = avoided_parts cursor evs c.requires.cursor_in_bounds time round.result.avoided round.ensures.1 in
    omega (
      arith,
      steps_inside cursor evs c.requires.cursor_in_bounds time,
      half_or_less cursor evs c.requires.cursor_in_bounds time (omega arith),
      free_parts cursor evs c.requires.cursor_in_bounds time round.result.passed round.ensures.0,
    )

pub returns : goal.returns
returns c = let cursor = c.args.cursor in
    let evs = c.args.evs.now in
    let time = c.args.time in
    let round = c.go_round-round in
    let counted = avoided_parts cursor evs c.requires.cursor_in_bounds time round.result.avoided round.ensures.1 in
    c.land.ensures
    ∙ lands_on cursor evs c.requires.cursor_in_bounds time round.result.passed
    (free_parts cursor evs c.requires.cursor_in_bounds time round.result.passed round.ensures.0
    ∙ half_or_less cursor evs c.requires.cursor_in_bounds time (omega arith))
