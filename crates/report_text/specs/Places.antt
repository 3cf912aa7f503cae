-- The figures of a run report, request M-105, and where each of them stands.
-- Assumes nothing.
use Rattle.std.specs.Prelude.{ℕ}

-- "records accepted, and refused by number": the figure at 0 counts the accepted ones, the one at n those refused with n, up to number 28
abbrev pub answers : ℕ
answers = 29

-- "samples by the five kinds of M-103", whose numbers start at 1
abbrev pub kinds_at : ℕ
kinds_at = 28

-- "least and greatest sample (0 if none)"
abbrev pub least_at : ℕ
least_at = 34

abbrev pub greatest_at : ℕ
greatest_at = 35

-- "how many samples fell in each of 32 buckets"
abbrev pub buckets_at : ℕ
buckets_at = 36

abbrev pub buckets : ℕ
buckets = 32

-- "the bytes sent new and sent again"
abbrev pub new_at : ℕ
new_at = 68

abbrev pub again_at : ℕ
again_at = 69

-- how many figures there are
abbrev pub figure_count : ℕ
figure_count = 70
