-- The next path: document 01, "Next path". Entry e of the list is the time of EV e; n is the list's length: by request M-110 "any power of
-- two from 256 to 4,096", and here any.
-- Assumes nothing.
use Rattle.std.specs.Prelude.{ℕ, suc, ◌+◌, ◌*◌, ◌%◌, ◌^◌, ◌<◌, List, [], ◌∷◌, ◌++◌, length, take, drop, slice_index, slice_set}
use Rattle.rules.specs.Branch.{if_lt}
use Rattle.paths.specs.declared.Choice.{Choice}

-- "that EV's time becomes" until
abbrev pub with_time : List ℕ → ℕ → ℕ → List ℕ
with_time evs ev until = slice_set evs ev until

-- "An EV is avoided while its time > now": 1 where it is, else 0
unfoldable pub avoids : ℕ → ℕ → ℕ
avoids time until = if_lt time until 1 0

-- "the avoided count"
unfoldable pub avoided : ℕ → List ℕ → ℕ
avoided time [] = 0
avoided time (until ∷ evs) = avoids time until + avoided time evs

-- "the first EV .. not avoided": how many stand before it; all of them where every one is avoided
unfoldable pub first_free : ℕ → List ℕ → ℕ
first_free time [] = 0
first_free time (until ∷ evs) = if_lt time until (suc (first_free time evs)) 0

-- "from the cursor on, circularly": the times in that order
abbrev pub from : ℕ → List ℕ → List ℕ
from cursor evs = drop cursor evs ++ take cursor evs

-- "Twice the avoided count over 256: take the cursor. Else the first EV from the cursor on", and M-110: "compares twice the avoided count
-- with" n: how many EVs, of those in that order, are passed
unfoldable pub steps : ℕ → List ℕ → ℕ
steps time evs = if_lt (length evs) (2 * avoided time evs) 0 (first_free time evs)

-- what the code relies on: no time is 2^63 or more ("an EV time of 2^49 or more" is refusal 2)
abbrev pub time_most : ℕ
time_most = 2 ^ 63

pub record Early (evs : List ℕ) : Type 0 where
  pub each : (k : ℕ) → k < length evs → slice_index evs k < time_most

-- the EV that lies s steps from the cursor; "Cursor becomes that EV + 1, modulo 256", which is n
unfoldable pub landed : ℕ → ℕ → ℕ → Choice
landed cursor s n = record { ev = (cursor + s) % n; cursor = ((cursor + s) % n + 1) % n }

-- the next path
unfoldable pub choice : ℕ → ℕ → List ℕ → Choice
choice time cursor evs = landed cursor (steps time (from cursor evs)) (length evs)
