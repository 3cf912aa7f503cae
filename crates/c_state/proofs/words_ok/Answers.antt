-- `words_ok` is `words_ok`: the length first (`not_long`), then every other bound (`rest_left`).
use Rattle.c_state.proofs.Checked.{not_long, rest_left}
use Rattle.c_state.proofs.words_ok.Goals as goal

pub returns-then-ws-ne-WORDS : goal.returns-then-ws-ne-WORDS
returns-then-ws-ne-WORDS c = not_long _ c.if-ws-ne-WORDS.true

pub returns : goal.returns
returns c = rest_left _ c.if-ws-ne-WORDS.false
