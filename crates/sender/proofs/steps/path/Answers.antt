-- `path` takes the EV that `paths` chooses, which lies among those that there are, and names the state.
use mathlib.Core.Path.{ap}
use Prim.Native.Nat.{◌<◌}
use native.Mathlib.Omega.{arith}
use borrow.Author.Rules.{rules}
use Rattle.paths.specs.declared.Choice.{Choice}
use Rattle.sender.specs.Steps.{path_state}
use Rattle.sender.proofs.Sounds.{times_early}
use Rattle.sender.proofs.Stepping.{taken_inside}
use Rattle.sender.proofs.steps.path.Goals as goal
use Rattle.sender.proofs.steps.path.Goals.{After-choose-taken}

-- the EV that is taken and the cursor after it
inside : (c : After-choose-taken) → (c.choose-taken.result.ev < 4096) × (c.choose-taken.result.cursor < 4096)
inside c =
    let i = taken_inside c.args.time c.args.c.cursor c.args.evs.now c.choose-taken.ensures c.requires.evs_len.0
    c.requires.evs_len.1 in
    (omega (arith, i.0, c.requires.bounded.evs_high), omega (arith, i.1, c.requires.bounded.evs_high))

pub choose-taken-requires : goal.choose-taken-requires
choose-taken-requires c = record {
  cursor_in_bounds = search rules;
  early = (times_early c.args.evs.now c.requires.evs_value.0, omega arith);
}

pub overflow_cast-cursor : goal.overflow_cast-cursor
overflow_cast-cursor c = omega (arith, inside (goal.at.overflow_cast-cursor c).After-choose-taken)

pub overflow_cast-result : goal.overflow_cast-result
overflow_cast-result c = omega (arith, inside (goal.at.overflow_cast-result c).After-choose-taken)

pub returns : goal.returns
unfolding path_state
returns c =
    (rw (← c.choose-taken.ensures) c.state_of-state.ensures, ap (λ (x : Choice). x.ev) c.choose-taken.ensures)
