-- Plain data.
--     outcome      a test comes out one way or the other
-- Assumes nothing.
use Rattle.std.proofs.Common.{◌≡◌, refl, Bool, true, false, ◌⊎◌, inl, inr}

pub outcome : (t : Bool) → (t ≡ true) ⊎ (t ≡ false)
outcome true = inl refl
outcome false = inr refl
