-- The table of flow records as words. Request M-107: "Each flow has its own ring, low, next, held count and backlog; they sit in a lent
-- table of flow records, one to eight". Flow k has the words 4k .. 4k + 3. Each definition is one for every list, whatever its length.
-- Assumes nothing.
use Rattle.std.specs.Prelude.{◌≡◌, Bool, ◌&&◌, List, [], ◌∷◌, ℕ, ◌+◌, ◌*◌, ◌/◌, ◌≤◌, ◌<◌, ltb, eqb, length, get_or, set}
use Rattle.rules.specs.Test.{inside}
use Rattle.serial.specs.Psn.{psns}
use Rattle.ledger.specs.Ring.{tabulate}
use Rattle.ledger.specs.declared.Flow.{Flow}

-- the words of a flow
abbrev pub flow_words : ℕ
flow_words = 4

-- "one to eight"
abbrev pub flows_most : ℕ
flows_most = 8

-- the places of a flow's words
abbrev pub low_place : ℕ
low_place = 0

abbrev pub next_place : ℕ
next_place = 1

abbrev pub held_place : ℕ
held_place = 2

abbrev pub backlog_place : ℕ
backlog_place = 3

-- where a word of flow k stands
abbrev pub word_place : ℕ → ℕ → ℕ
word_place k place = flow_words * k + place

-- how many whole flows there are
abbrev pub count_of : List ℕ → ℕ
count_of ws = length ws / flow_words

-- the words are those of one to eight whole flows
unfoldable pub is_table : List ℕ → Bool
is_table ws = eqb (length ws) (flow_words * count_of ws) && inside 1 (count_of ws) flows_most

-- the record of flow k
unfoldable pub flow_at : List ℕ → ℕ → Flow
flow_at ws k =
    record {
      low = get_or ws (word_place k low_place) 0;
      next = get_or ws (word_place k next_place) 0;
      held = get_or ws (word_place k held_place) 0;
      backlog = get_or ws (word_place k backlog_place) 0;
    }

-- the table with another record for flow k
unfoldable pub with_flow : List ℕ → ℕ → Flow → List ℕ
with_flow ws k f =
    let w₁ = set ws (word_place k low_place) f.low in
    let w₂ = set w₁ (word_place k next_place) f.next in
    let w₃ = set w₂ (word_place k held_place) f.held in
    set w₃ (word_place k backlog_place) f.backlog

-- a record with the words of another that an event can change, and its own for the others: new data the backlog, a send next and backlog,
-- an ACK low and the held count
abbrev pub with_backlog : Flow → Flow → Flow
with_backlog g f = record { low = g.low; next = g.next; held = g.held; backlog = f.backlog }

abbrev pub with_sent : Flow → Flow → Flow
with_sent g f = record { low = g.low; next = f.next; held = g.held; backlog = f.backlog }

abbrev pub with_acked : Flow → Flow → Flow
with_acked g f = record { low = f.low; next = g.next; held = f.held; backlog = g.backlog }

-- low and next of flow k are PSNs: "PSN: 32 bits"
unfoldable pub fits_at : List ℕ → ℕ → Bool
fits_at ws k = ltb (flow_at ws k).low psns && ltb (flow_at ws k).next psns

-- the words of records, one flow after the other
unfoldable pub words_of : List Flow → List ℕ
words_of [] = []
words_of (f ∷ fs) = f.low ∷ f.next ∷ f.held ∷ f.backlog ∷ words_of fs

-- and back: the records of the first n flows, and of all
unfoldable pub first_flows : ℕ → List ℕ → List Flow
first_flows n ws = tabulate (flow_at ws) n

abbrev pub flows_of : List ℕ → List Flow
flows_of ws = first_flows (count_of ws) ws

-- a record of zeros: what a table shows past its end
abbrev pub no_flow : Flow
no_flow = record { low = 0; next = 0; held = 0; backlog = 0 }

-- the test of a table, as facts
pub record Table (ws : List ℕ) : Type 0 where
  pub whole : length ws ≡ flow_words * count_of ws
  pub some : 1 ≤ count_of ws
  pub few : count_of ws ≤ flows_most

-- low and next of flow k are PSNs, as facts
pub record Fits (ws : List ℕ) (k : ℕ) : Type 0 where
  pub low : (flow_at ws k).low < psns
  pub next : (flow_at ws k).next < psns

-- those of the first n flows are
abbrev pub AllFit : ℕ → List ℕ → Type 0
AllFit n ws = (k : ℕ) → k < n → Fits ws k
