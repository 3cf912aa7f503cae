-- What the theorems on a report speak of, request M-105: exact counts over the turns of a replay. The theorems stand in proofs/Exact
-- (`figure_counts`, `bytes_count`, `least_is`, `greatest_is`), proofs/Totals (`buckets_add_up`, `report_counts`, `report_adds_up`),
-- proofs/Sent (`report_bytes`), proofs/Highest (`highest_bit`) and proofs/Parts (`parts_tallied`).
-- Assumes nothing.
use Rattle.std.specs.Prelude.{◌≡◌, Bool, false, List, [], ◌∷◌, ℕ, zero, suc, ◌+◌, ◌^◌, ◌≤◌, ◌<◌, max, eqb, replicate}
use Rattle.rules.specs.Branch.{if_so, if_eq}
use Rattle.window.specs.Delays.{sample_in}
use Rattle.window.specs.Sample.{Sample}
use Rattle.std.specs.Prelude.{Some, None}
use Rattle.context.specs.Context.{Context}
use Rattle.sender.specs.declared.Send.{Send}
use Rattle.replay.specs.Batches.{kind_of}
use Rattle.replay.specs.Places.{Feed, logged, found_at, Turning, turns_of}
use Rattle.replay.specs.declared.Place.{Place}
use Rattle.replay.specs.declared.Shown.{Shown}
use Rattle.replay.specs.declared.Shown.TheVariants.{Nothing, State, Path, Sample as Sampled}
use Rattle.replay.specs.declared.records.Event.{Event}
use Rattle.replay.specs.declared.records.Event.TheVariants as event
use Rattle.replay.specs.declared.turns.Found.{Found}
use Rattle.replay.specs.declared.turns.Found.TheVariants as found
use Rattle.report_text.specs.Places.{answers, kinds_at, buckets_at, buckets, figure_count}
use Rattle.replay_report.specs.Figures.{bucket_of, lesser}
use Rattle.replay_report.specs.Tallies.{counting}

-- how many turns a test holds of
abbrev pub one : Bool → ℕ
one b = if_so b 1 0

unfoldable pub how_many : (Turning → Bool) → List Turning → ℕ
how_many test [] = 0
how_many test (t ∷ ts) = one (test t) + how_many test ts

-- "records accepted, and refused by number": 0 is accepted
abbrev pub answered_with : ℕ → Turning → Bool
answered_with n t = eqb t.number n

-- "samples by the five kinds of M-103"
unfoldable pub kind_test : ℕ → Shown → Bool
kind_test k Nothing = false
kind_test k State = false
kind_test k (Path ev) = false
kind_test k (Sampled sampling) = eqb (kind_of sampling) k

abbrev pub of_kind : ℕ → Turning → Bool
of_kind k t = kind_test k t.shown

-- the sample that a turn's line tells of
unfoldable pub sample_shown : Shown → Sample
sample_shown Nothing = None
sample_shown State = None
sample_shown (Path ev) = None
sample_shown (Sampled sampling) = sample_in sampling

-- "bucket k holds those whose highest set bit is k"
unfoldable pub ticks_test : ℕ → Sample → Bool
ticks_test k (Some ticks) = eqb (bucket_of ticks) k
ticks_test k None = false

abbrev pub in_bucket : ℕ → Turning → Bool
in_bucket k t = ticks_test k (sample_shown t.shown)

-- the sum of the first n of some numbers
unfoldable pub total : ℕ → (ℕ → ℕ) → ℕ
total zero number = 0
total (suc n) number = total n number + number n

-- which figure counts which turns
pub data Counts : ℕ → (Turning → Bool) → Type 0 where
  answer : (n : ℕ) → n < answers → Counts n (answered_with n)
  kind : (k : ℕ) → 1 ≤ k → k ≤ 5 → Counts (kinds_at + k) (of_kind k)
  bucket : (k : ℕ) → k < buckets → Counts (buckets_at + k) (in_bucket k)

-- "least and greatest sample (0 if none)", over turns
unfoldable pub with_least : Sample → ℕ → ℕ
with_least (Some ticks) least = lesser least ticks
with_least None least = least

unfoldable pub least_of : List Turning → ℕ
least_of [] = 0
least_of (t ∷ ts) = with_least (sample_shown t.shown) (least_of ts)

-- of two such, where 0 is none
unfoldable pub least_of_both : ℕ → ℕ → ℕ
least_of_both a b = if_eq b 0 a (lesser a b)

-- no sample is 0
abbrev pub Positive : List Turning → Type 0
Positive [] = Unit {0}
Positive (t ∷ ts) = ((ticks : ℕ) → sample_shown t.shown ≡ Some ticks → 1 ≤ ticks) × Positive ts

unfoldable pub with_greatest : Sample → ℕ → ℕ
with_greatest (Some ticks) greatest = max greatest ticks
with_greatest None greatest = greatest

unfoldable pub greatest_of : List Turning → ℕ
greatest_of [] = 0
greatest_of (t ∷ ts) = with_greatest (sample_shown t.shown) (greatest_of ts)

-- "the bytes sent new and sent again": those of a send, where it is of that kind ..
unfoldable pub send_bytes : Bool → Send → ℕ
send_bytes again a = if_so a.resend (if_so again a.size 0) (if_so again 0 a.size)

unfoldable pub event_bytes : Bool → Event → ℕ
event_bytes again (event.NewData time k bytes) = 0
event_bytes again (event.Send time k a) = send_bytes again a
event_bytes again (event.Ack time k a) = 0
event_bytes again (event.Nack time k a) = 0
event_bytes again (event.Loss time k a) = 0
event_bytes again (event.Path time k) = 0
event_bytes again (event.SetUp s) = 0

-- .. and accepted ..
unfoldable pub record_bytes : Bool → ℕ → Found → ℕ
record_bytes again number (found.Whole e next) = if_eq number 0 (event_bytes again e) 0
record_bytes again number found.End = 0
record_bytes again number found.Malformed = 0

-- .. over turns: each turn's record stands where the turn before it ended
unfoldable pub bytes_sent : Bool → Feed → Place → List Turning → ℕ
bytes_sent again f p [] = 0
bytes_sent again f p (t ∷ ts) = record_bytes again t.number (found_at f p.at) + bytes_sent again f t.place ts

-- a log of fewer bytes sends fewer than 2^64: it has no more records than bytes, and a packet has at most 2^14. A log in chunks
-- ends before 2^48 (request M-104)
abbrev pub bytes_end : ℕ
bytes_end = 2 ^ 50

-- the figures of a report over one log: those of a replay, from its start or from another place on, added to zeros
abbrev pub zeros : List ℕ
zeros = replicate figure_count 0

abbrev pub report_from : List ℕ → Place → Context → List ℕ
report_from log p w = counting (logged log) p (turns_of (logged log) p w) zeros
