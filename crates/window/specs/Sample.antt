-- A round-trip sample in ticks, or that there is none.
-- Assumes nothing.
use Rattle.std.specs.Prelude.{ℕ, Option}

abbrev pub Sample : Type 0
Sample = Option ℕ
