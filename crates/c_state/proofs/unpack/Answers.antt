-- `unpack` is `unpacked`, by the test of the words.
use Rattle.c_state.proofs.Checked.{passed_facts, not_passed, passed}
use mathlib.Core.Bool.{not}
use mathlib.Core.Path.{ap}
use Rattle.c_state.proofs.unpack.Goals as goal

pub returns-then-not-words_ok : goal.returns-then-not-words_ok
returns-then-not-words_ok c =
    not_passed _ _ c.words_ok.ensures _ _
    c.no_settings.ensures c.fresh.ensures (ap not c.if-not-words_ok.true)

pub state_from-requires : goal.state_from-requires
state_from-requires c = passed_facts _ _ c.words_ok.ensures (ap not c.if-not-words_ok.false)

pub returns : goal.returns
returns c = passed _ _ c.words_ok.ensures _ c.state_from.ensures (ap not c.if-not-words_ok.false)
