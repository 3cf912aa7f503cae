-- `count_avoided` counts the avoided EVs: by its invariant, what is counted and the count of what is left make the count of all.
use Rattle.std.proofs.Common.{◌≡◌, ◌+◌, ◌≤◌, drop}
use Rattle.paths.specs.Path.{avoided}
use Rattle.paths.proofs.count_avoided.Given as goal

abbrev pub invariant-loop-until : goal.invariant-loop-until
invariant-loop-until l = (l.count ≤ l.until-index) × (l.count + avoided l.time (drop l.until-index l.evs) ≡ avoided l.time l.evs)
