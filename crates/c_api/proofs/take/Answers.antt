-- `take`: words that are no state's are refused with 2; else the event's answer is kept.
use Rattle.c_api.proofs.Answers.{no_state, words_long, event_on}
use Rattle.c_api.proofs.take.Goals as goal

pub returns-then-not-given : goal.returns-then-not-given
returns-then-not-given c = no_state _ _ c.unpack-given.ensures c.if-not-given.true _ _ _ _

pub keep-requires : goal.keep-requires
keep-requires c =
    words_long _ _ c.unpack-given.ensures c.if-not-given.false

pub returns : goal.returns
returns c =
    event_on _ _ c.unpack-given.ensures c.if-not-given.false _ _ _ _ _ _ _ _ _ c.once-word.ensures _ c.keep.ensures
