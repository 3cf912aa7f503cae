-- Numbers that wrap: M of them, 0 to M - 1, and after M - 1 comes 0 again.
-- Assumes nothing.
use Rattle.std.specs.Prelude.{ℕ, ◌+◌, ◌-◌, ◌%◌}

-- a - b, modulo M: how far one goes on from b to meet a
unfoldable pub minus : ℕ → ℕ → ℕ → ℕ
minus M a b = (a + (M - b % M)) % M
