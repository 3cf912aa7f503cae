-- `first_free` finds the first free EV: by its invariant, the place that is reached and the first free place of
-- what is left make that of all.
use Rattle.std.proofs.Common.{◌≡◌, ◌+◌, drop}
use Rattle.paths.specs.Path.{first_free}
use Rattle.paths.proofs.first_free.Given as goal

abbrev pub invariant-loop-i : goal.invariant-loop-i
invariant-loop-i l = l.i + first_free l.time (drop l.i l.evs) ≡ first_free l.time l.evs
