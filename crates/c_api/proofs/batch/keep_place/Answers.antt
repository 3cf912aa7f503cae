-- `keep_place` stores the four words at once, the flag as its bit.
use mathlib.Core.Path.{ap, ◌∙◌}
use mathlib.Core.List.{[], ◌∷◌}
use Prim.Native.Nat.{ℕ}
use Rattle.c_api.proofs.Flags.{byte_bit}
use Rattle.c_api.proofs.batch.keep_place.Goals as goal

pub returns : goal.returns
returns c =
    let p = c.args.place in
    c.copy_from_slice.ensures.after ∙ ap (λ (n : ℕ). p.at ∷ p.done ∷ n ∷ c.args.count ∷ []) (byte_bit p.stopped)
