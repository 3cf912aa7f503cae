-- `keep_turn` stores where the choice was accepted, and else leaves the words.
use mathlib.Core.Path.{sym, ap, ◌∙◌}
use Rattle.std.specs.Prelude.{Option, Result}
use Rattle.rules.specs.Verdict.{ok_zero, err_not}
use Rattle.rules.specs.declared.verdict.Refusal.{Refusal}
use Rattle.context.specs.Turns.{named_in}
use Rattle.context.specs.declared.choice.Turn.{Turn}
use Rattle.c_api.specs.Turns.{turn_words}
use Rattle.c_api.proofs.Choosings.{turn_stored, turn_left}
use Rattle.c_api.proofs.turns.keep_turn.Goals as goal

pub returns-in-Ok : goal.returns-in-Ok
unfolding named_in
returns-in-Ok c =
    turn_stored _ _ _ (ok_zero _ _ c.in-Ok.is) _
    (c.copy_from_slice.ensures.after
    ∙ c.words_of.ensures
    ∙ sym (ap (λ (o : Result (Option Turn) Refusal). turn_words (named_in o)) c.in-Ok.is))

pub returns-in_default : goal.returns-in_default
returns-in_default c = turn_left _ _ _ (err_not _ _ c.in_default.is)
