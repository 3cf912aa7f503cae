-- Packet sequence numbers and what an ACK covers: document 01, "The ledger".
-- Assumes nothing.
use Rattle.std.specs.Prelude.{ℕ, ◌+◌, ◌-◌, ◌/◌, ◌%◌, ◌^◌, Bool, ◌&&◌, ◌||◌, ◌==◌, nat_le, nat_lt}
use Rattle.std.specs.Int.Count.{count_leading_zeros}
use Rattle.serial.specs.Wrap.{minus}

-- "PSN: 32 bits, wraps"
abbrev pub psns : ℕ
psns = 2 ^ 32

-- how far behind a PSN may lie: "at most 2^30"
abbrev pub reach : ℕ
reach = 2 ^ 30

-- the PSN k after p
unfoldable pub plus : ℕ → ℕ → ℕ
plus p k = (p + k) % psns

-- bit i of a 64-bit map is set
unfoldable pub bit_of : ℕ → ℕ → Bool
bit_of map i = nat_lt i 64 && map / 2 ^ i % 2 == 1

-- "cum covers every PSN up to and including itself; bit i of the 64-bit map covers cum+1+i"
unfoldable pub covered : ℕ → ℕ → ℕ → Bool
covered cum map psn = nat_le (minus psns cum psn) reach || bit_of map (minus psns psn (plus cum 1))

-- "back = next-1-cum, difference modulo 2^32"
unfoldable pub back_of : ℕ → ℕ → ℕ
back_of next cum = minus psns (minus psns next 1) cum

-- how many bits a map has up to its highest set one: 64 less its leading zeros, and 0 where no bit is set
unfoldable pub span_of : ℕ → ℕ
span_of map = 64 - count_leading_zeros 64 map

-- Refusal 9: back is over 2^30, or the highest set bit of the map isn't below back.
unfoldable pub unsent_or_old : ℕ → ℕ → ℕ → Bool
unsent_or_old next cum map = nat_lt reach (back_of next cum) || nat_lt (back_of next cum) (span_of map)
