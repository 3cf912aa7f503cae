-- The context as contracts name it: a state with the lent table, ring buffer and EV times as they are given, before the call and after
-- it; and what a call answers.
-- Assumes nothing.
use Rattle.std.specs.Prelude.{ℕ}
use Rattle.ledger.specs.Lent.{Slice, LentSlice, memory_given, memory_before, memory_after}
use Rattle.context.specs.Context.{Context, context, Answered, answered, Routing, routed}
use Rattle.context.specs.declared.Controller.{Controller}

abbrev pub context_given : Controller → Slice → Slice → Slice → Slice → Slice → Slice → Context
context_given c flows outstanding marked sizes sent evs = context c flows (memory_given outstanding marked sizes sent) evs

abbrev pub context_before : Controller → LentSlice → LentSlice → LentSlice → LentSlice → LentSlice → LentSlice → Context
context_before c flows outstanding marked sizes sent evs =
    context c flows (memory_before outstanding marked sizes sent) evs

-- the number, the state and what was lent, as a call leaves them
abbrev pub answered_after : ℕ → Controller → LentSlice → LentSlice → LentSlice → LentSlice → LentSlice → LentSlice → Answered
answered_after n c flows outstanding marked sizes sent evs =
    answered n c flows (memory_after outstanding marked sizes sent) evs

-- the same with the EV of a path choice
abbrev pub routed_after : ℕ → ℕ → Controller → LentSlice → LentSlice → LentSlice → LentSlice → LentSlice → LentSlice → Routing
routed_after n ev c flows outstanding marked sizes sent evs =
    routed n ev c flows (memory_after outstanding marked sizes sent) evs
