-- `words_of` is `turn_words`, by the two cases of a choice.
use mathlib.Core.Path.{ap}
use mathlib.Core.List.{[], ◌∷◌}
use Prim.Native.Nat.{ℕ}
use Rattle.context.specs.Turns.{choice_of}
use Rattle.c_api.specs.Turns.{turn_words}
use Rattle.c_api.proofs.Flags.{byte_bit}
use Rattle.c_api.proofs.turns.words_of.Goals as goal

pub returns-in-Some : goal.returns-in-Some
unfolding choice_of turn_words
returns-in-Some c =
    let t = c.in-Some.field-0 in
    rw c.in-Some.is (ap (λ (n : ℕ). 1 ∷ t.flow ∷ n ∷ t.psn ∷ []) (byte_bit t.resend))

pub returns-in-None : goal.returns-in-None
unfolding choice_of turn_words
returns-in-None c = rw c.in-None.is
