-- `keep_part` stores the six words at once, the flag as its bit.
use mathlib.Core.Path.{ap, ◌∙◌}
use mathlib.Core.List.{[], ◌∷◌}
use Prim.Native.Nat.{ℕ}
use Rattle.c_api.proofs.Flags.{byte_bit}
use Rattle.c_api.proofs.parts.keep_part.Goals as goal

pub returns : goal.returns
returns c =
    let h = c.args.carry in
    let p = h.place in
    c.copy_from_slice.ensures.after
    ∙ ap (λ (n : ℕ). p.at ∷ p.done ∷ n ∷ h.length ∷ c.args.count ∷ c.args.taken ∷ []) (byte_bit p.stopped)
