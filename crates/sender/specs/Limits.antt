-- The numbers of document 01, "Numbers and their bounds", that the sender names itself.
-- Assumes nothing.
use Rattle.std.specs.Prelude.{ℕ}

-- "NACK reason over 2"
abbrev pub reason_most : ℕ
reason_most = 2
