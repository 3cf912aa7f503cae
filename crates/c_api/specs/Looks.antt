-- A look at a flow's ring over lent words: the number, and above its 32 bits what is found. Words that are no state's are refused with 2.
-- Assumes nothing.
use Rattle.std.specs.Prelude.{List, ℕ, ◌+◌, ◌*◌, ◌^◌}
use Rattle.rules.specs.Branch.{if_so}
use Rattle.ledger.specs.Memory.{Memory}
use Rattle.sender.specs.Look.{Looked}
use Rattle.context.specs.Context.{Context, context}
use Rattle.c_state.specs.Layout.{state_from, words_ok}

abbrev pub look_word : Looked → ℕ
look_word x = 2 ^ 32 * x.found + x.number

unfoldable pub on_look_words : (Context → Looked) → List ℕ → List ℕ → Memory → List ℕ → ℕ
on_look_words look ws fs m t = if_so (words_ok ws) (look_word (look (context (state_from ws) fs m t))) 2
