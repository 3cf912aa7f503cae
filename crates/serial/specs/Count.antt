-- Received counts: document 01, "Numbers and their bounds" and "The ledger".
-- Assumes nothing.
use Rattle.std.specs.Prelude.{ℕ, ◌-◌, ◌^◌, Bool, ℤ, pos, negsuc, nat_le}
use Rattle.rules.specs.Branch.{if_lt}
use Rattle.serial.specs.Wrap.{minus}

-- "Received count: units of 256 bytes, 24 bits, wraps"
abbrev pub counts : ℕ
counts = 2 ^ 24

-- a count is old where it lies this far ahead or farther
abbrev pub half : ℕ
half = 2 ^ 23

-- (count - held) modulo 2^24
unfoldable pub ahead_of : ℕ → ℕ → ℕ
ahead_of count held = minus counts count held

-- the same difference as a signed number of units: below zero where the count is old
unfoldable pub gap_of : ℕ → ℕ → ℤ
gap_of count held = if_lt (ahead_of count held) half (pos (ahead_of count held)) (negsuc (counts - ahead_of count held - 1))

-- "if f is below 2^23 ..; else the count is old"
unfoldable pub is_old : ℕ → ℕ → Bool
is_old count held = nat_le half (ahead_of count held)

-- forward units: f, and 0 where the count is old
unfoldable pub forward_of : ℕ → ℕ → ℕ
forward_of count held = if_lt (ahead_of count held) half (ahead_of count held) 0
