-- `nscc_choose`: a wrong number of words to answer in, and words that are no state's, are refused with 2; else the context's choice is kept
-- (proofs/Choosings).
use Rattle.c_api.proofs.Answers.{words_long}
use Rattle.c_api.proofs.Choosings.{not_four, choose_none, choose_on}
use Rattle.c_api.proofs.turns.nscc_choose.Goals as goal

pub returns-then-turn-ne-TURN_WORDS : goal.returns-then-turn-ne-TURN_WORDS
returns-then-turn-ne-TURN_WORDS c = not_four _ _ _ _ _ c.if-turn-ne-TURN_WORDS.true

pub returns-then-not-given : goal.returns-then-not-given
returns-then-not-given c =
    choose_none _ _ _ _ _ c.if-turn-ne-TURN_WORDS.false _ c.unpack-given.ensures c.if-not-given.true

pub keep-requires : goal.keep-requires
keep-requires c =
    words_long _ _ c.unpack-given.ensures c.if-not-given.false

pub returns : goal.returns
returns c =
    choose_on _ _ _ _ _ c.if-turn-ne-TURN_WORDS.false _ c.unpack-given.ensures c.if-not-given.false _ _ _ _ c.number_of-number.ensures
    c.choose-outcome.ensures _ _ c.keep.ensures c.keep_turn.ensures
