-- `nscc_next_marked`: words that are no state's are refused with 2 (`look_none`); else the context looks (`look_on`).
use Rattle.c_api.proofs.Lookings.{look_none, look_on}
use Rattle.c_api.proofs.looks.nscc_next_marked.Goals as goal

pub returns-then-not-given : goal.returns-then-not-given
returns-then-not-given c = look_none _ _ _ _ _ _ c.unpack-given.ensures c.if-not-given.true

pub returns : goal.returns
returns c =
    look_on _ _ _ _ _ _ c.unpack-given.ensures c.if-not-given.false _ _ _ c.next_marked.ensures c.word_of.ensures
