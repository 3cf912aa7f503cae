-- The world as contracts name it where the ring is lent as four slices: a state with the ring's lent memory and EV times as they are given
-- and before the call; and what a call answers.
-- Assumes nothing.
use Rattle.std.specs.Prelude.{ℕ}
use Rattle.ledger.specs.Lent.{Slice, LentSlice, memory_given, memory_before, memory_after}
use Rattle.sender.specs.World.{World, world, Answered, answered}
use Rattle.sender.specs.declared.Controller.{Controller}

abbrev pub world_given : Controller → Slice → Slice → Slice → Slice → Slice → World
world_given c outstanding marked sizes sent evs = world c (memory_given outstanding marked sizes sent) evs

abbrev pub world_before : Controller → LentSlice → LentSlice → LentSlice → LentSlice → LentSlice → World
world_before c outstanding marked sizes sent evs = world c (memory_before outstanding marked sizes sent) evs

-- the number, the state and what was lent, as a call leaves them
abbrev pub answered_after : ℕ → Controller → LentSlice → LentSlice → LentSlice → LentSlice → LentSlice → Answered
answered_after n c outstanding marked sizes sent evs = answered n c (memory_after outstanding marked sizes sent) evs
