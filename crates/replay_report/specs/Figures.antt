-- How a turn changes the figures of a run report, request M-105. Where each figure stands: sheet/specs/Places.
-- Assumes nothing.
use Rattle.std.specs.Prelude.{Bool, List, ℕ, zero, suc, ◌+◌, ◌-◌, ◌/◌, ◌^◌, min, max, get_or, set}
use Rattle.rules.specs.Branch.{if_so, if_lt, if_eq}
use Rattle.report_text.specs.Places.{answers, kinds_at, least_at, greatest_at, buckets_at, buckets, new_at, again_at}
use Rattle.window.specs.Delays.{sample_in}
use Rattle.window.specs.Sample.{Sample}
use Rattle.std.specs.Prelude.{Some, None}
use Rattle.window.specs.declared.Sampling.{Sampling}
use Rattle.sender.specs.declared.Send.{Send}
use Rattle.replay.specs.Batches.{kind_of}
use Rattle.replay.specs.declared.Shown.{Shown}
use Rattle.replay.specs.declared.Shown.TheVariants.{Nothing, State, Path, Sample as Sampled}
use Rattle.replay.specs.declared.records.Event.{Event}
use Rattle.replay.specs.declared.records.Event.TheVariants as event
use Rattle.replay.specs.declared.turns.Found.{Found}
use Rattle.replay.specs.declared.turns.Found.TheVariants as found

-- ---- a figure is a word

abbrev pub word_most : ℕ
word_most = 2 ^ 64 - 1

-- adding stops at the greatest word
abbrev pub added : ℕ → ℕ → ℕ
added a b = min (a + b) word_most

unfoldable pub raised : ℕ → ℕ → List ℕ → List ℕ
raised at n figures = set figures at (added (get_or figures at 0) n)

-- ---- answers

-- "records accepted, and refused by number"; a number above 28 is no answer's, and none is counted for it
unfoldable pub answer_counted : ℕ → List ℕ → List ℕ
answer_counted number figures = if_lt number answers (raised number 1 figures) figures

-- ---- samples

-- "samples by the five kinds of M-103"
unfoldable pub kind_counted : Sampling → List ℕ → List ℕ
kind_counted sampling figures = raised (kinds_at + kind_of sampling) 1 figures

-- "bucket k holds those whose highest set bit is k": how often a number can be halved before it is below 2, at most so often
unfoldable pub halvings : ℕ → ℕ → ℕ
halvings zero n = 0
halvings (suc most) n = if_lt n 2 0 (suc (halvings most (n / 2)))

-- the last bucket is 31, and no sample is above 2^20
unfoldable pub bucket_of : ℕ → ℕ
bucket_of ticks = halvings (buckets - 1) ticks

-- "least .. sample (0 if none)": a sample is at least 1
unfoldable pub lesser : ℕ → ℕ → ℕ
lesser least ticks = if_eq least 0 ticks (min least ticks)

unfoldable pub least_kept : ℕ → List ℕ → List ℕ
least_kept ticks figures = set figures least_at (lesser (get_or figures least_at 0) ticks)

-- "and greatest"
unfoldable pub greatest_kept : ℕ → List ℕ → List ℕ
greatest_kept ticks figures = set figures greatest_at (max (get_or figures greatest_at 0) ticks)

-- a sample of so many ticks; one that is cut is a sample of 2^20 (`sample_in`)
unfoldable pub ticks_counted : Sample → List ℕ → List ℕ
ticks_counted (Some ticks) figures = raised (buckets_at + bucket_of ticks) 1 (greatest_kept ticks (least_kept ticks figures))
ticks_counted None figures = figures

-- what the sample step of an accepted ACK or NACK said
unfoldable pub sample_counted : Shown → List ℕ → List ℕ
sample_counted Nothing figures = figures
sample_counted State figures = figures
sample_counted (Path ev) figures = figures
sample_counted (Sampled sampling) figures = ticks_counted (sample_in sampling) (kind_counted sampling figures)

-- ---- bytes

-- "the bytes sent new and sent again"
abbrev pub sent_at : Bool → ℕ
sent_at resend = if_so resend again_at new_at

-- of a send that is accepted
unfoldable pub send_counted : ℕ → Send → List ℕ → List ℕ
send_counted number a figures = if_eq number 0 (raised (sent_at a.resend) a.size figures) figures

unfoldable pub event_counted : ℕ → Event → List ℕ → List ℕ
event_counted number (event.NewData time k bytes) figures = figures
event_counted number (event.Send time k a) figures = send_counted number a figures
event_counted number (event.Ack time k a) figures = figures
event_counted number (event.Nack time k a) figures = figures
event_counted number (event.Loss time k a) figures = figures
event_counted number (event.Path time k) figures = figures
event_counted number (event.SetUp s) figures = figures

-- of what stands in the log
unfoldable pub bytes_counted : ℕ → Found → List ℕ → List ℕ
bytes_counted number (found.Whole e next) figures = event_counted number e figures
bytes_counted number found.End figures = figures
bytes_counted number found.Malformed figures = figures

-- ---- a record, by what stands in the log, its answer's number and what its line shows

unfoldable pub counted : Found → ℕ → Shown → List ℕ → List ℕ
counted stands number shown figures = bytes_counted number stands (sample_counted shown (answer_counted number figures))
