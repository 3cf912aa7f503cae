-- Signed in-flight, and the numbers that the ledger's rules name. Document 01, "Numbers and their bounds".
-- Assumes nothing.
use Rattle.std.specs.Prelude.{ℕ, suc, ◌-◌, ◌^◌, ◌≤◌, Bool, ◌&&◌, ℤ, pos, negsuc, ◌-ℤ◌, int_le, int_lt}

-- "size outside 41..MTU"
abbrev pub size_least : ℕ
size_least = 41

-- "resend count over 2"; "resend count up by one, stopping at 2"
abbrev pub resent_most : ℕ
resent_most = 2

-- "Backlog at most 2^40"
abbrev pub backlog_most : ℕ
backlog_most = 2 ^ 40

-- "units of 256 bytes"
abbrev pub unit : ℕ
unit = 256

-- -2^24
abbrev pub in_flight_least : ℤ
in_flight_least = negsuc (2 ^ 24 - 1)

-- "In-flight is signed, from -2^24 up to MaxWnd"
unfoldable pub in_bounds : ℕ → ℤ → Bool
in_bounds maxwnd z = int_le in_flight_least z && int_le z (pos maxwnd)

-- how far a signed number stands above zero, and how far below
abbrev pub above : ℤ → ℕ
above (pos n) = n
above (negsuc n) = 0

abbrev pub below : ℤ → ℕ
below (pos n) = 0
below (negsuc n) = suc n

-- in-flight, lower by n bytes: it is signed and goes below zero
abbrev pub fallen : ℤ → ℕ → ℤ
fallen z n = z -ℤ pos n

-- "in-flight would fall below -2^24", by n bytes
unfoldable pub sinks : ℤ → ℕ → Bool
sinks z n = int_lt (fallen z n) in_flight_least

-- in-flight's bounds as facts
pub record Flown (maxwnd : ℕ) (z : ℤ) : Type 0 where
  pub low : below z ≤ 2 ^ 24
  pub high : above z ≤ maxwnd
