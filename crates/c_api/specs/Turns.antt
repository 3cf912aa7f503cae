-- A choice over lent words (request M-108): who is named, and what it sends, in four words of the caller's.
-- Assumes nothing.
use Rattle.std.specs.Prelude.{◌&&◌, List, [], ◌∷◌, ℕ, eqb, length}
use Rattle.std.proofs.Math.Option.{Option, none, some}
use Rattle.rules.specs.Branch.{if_so, if_eq}
use Rattle.ledger.specs.Lent.{LentSlice}
use Rattle.ledger.specs.Memory.{Memory}
use Rattle.context.specs.Context.{context}
use Rattle.context.specs.Turns.{Chosen, on_choose}
use Rattle.context.specs.declared.choice.Turn.{Turn}
use Rattle.c_state.specs.Layout.{state_from, words_ok}
use Rattle.c_api.specs.Flags.{bit}
use Rattle.c_api.specs.Calls.{words_after}

abbrev pub turn_count : ℕ
turn_count = 4

-- whether somebody is named; the flow, whether it sends a marked packet, and the PSN. All 0 where nobody is
unfoldable pub turn_words : Option Turn → List ℕ
turn_words none = 0 ∷ 0 ∷ 0 ∷ 0 ∷ []
turn_words (some t) = 1 ∷ t.flow ∷ bit t.resend ∷ t.psn ∷ []

-- the number, the state's words and those four; table, ring buffer and EV times are only read
pub record Choosing : Type 0 where
  pub number : ℕ
  pub words : List ℕ
  pub turn : List ℕ

abbrev pub choosing : ℕ → List ℕ → List ℕ → Choosing
choosing n ws turn = record { number = n; words = ws; turn = turn }

-- the same as a call leaves what it was lent
abbrev pub choosing_after : ℕ → LentSlice → LentSlice → Choosing
choosing_after n state turn = choosing n state turn

-- the four words once a choice was answered: where it was refused, as they were
unfoldable pub turn_after : ℕ → List ℕ → Option Turn → List ℕ
turn_after n turn t = if_eq n 0 (turn_words t) turn

abbrev pub packed_turn : List ℕ → List ℕ → Chosen → Choosing
packed_turn ws turn c = choosing c.number (words_after c.number ws c.after.state) (turn_after c.number turn c.turn)

-- a choice on the state that the words are; 2 where they are none's, or where there are not four to answer in
unfoldable pub on_choose_words : List ℕ → List ℕ → Memory → List ℕ → List ℕ → Choosing
on_choose_words ws fs m t turn =
    if_so (eqb (length turn) turn_count && words_ok ws) (packed_turn ws turn (on_choose (context (state_from ws) fs m t))) (choosing 2 ws turn)
