-- What firmware is answered that asks of a flow's ring, which it need not read itself (request M-109).
-- Assumes nothing.
use Rattle.std.specs.Prelude.{ℕ}

-- the number that is answered, and what is found: 0 where it is refused
pub record Looked : Type 0 where
  pub number : ℕ
  pub found : ℕ

abbrev pub looked : ℕ → ℕ → Looked
looked n x = record { number = n; found = x }
