-- The events over a lent table of records. Document 01, "Form by location": "they sit in a lent table of flow records: &mut slice of up to
-- eight flow structs, taken apart and handed to the by-value ledger step". What is promised of the records is the event's own definition,
-- on the context whose table is the records' words; the step between them has the table by value.
-- Assumes nothing.
use Rattle.std.specs.Prelude.{List, ℕ, ◌≡◌, ◌*◌, take, length, Result, Err}
use Rattle.rules.specs.declared.verdict.Refusal.{Refusal}
use Rattle.rules.specs.declared.verdict.Refusal.TheVariants.{Unsound}
use Rattle.rules.specs.Branch.{if_lt}
use Rattle.ledger.specs.Memory.{Memory}
use Rattle.ledger.specs.Lent.{LentSlice, memory_before, memory_after}
use Rattle.ledger.specs.declared.Flow.{Flow}
use Rattle.flow_table.specs.Words.{flow_words, flows_most, count_of, words_of, flows_of, AllFit}
use Rattle.flow_table.specs.Lent.{value_words, value_from}
use Rattle.flow_table.specs.declared.lent.Flows.{Flows}
use Rattle.context.specs.Context.{Context, context, Answered, Routing}
use Rattle.context.specs.declared.Controller.{Controller}

-- ---- over the lent table

-- the number that is answered, and what is left, the table as records
pub record Tabled : Type 0 where
  pub number : ℕ
  pub state : Controller
  pub table : List Flow
  pub slots : Memory
  pub times : List ℕ

abbrev pub tabled : ℕ → Controller → List Flow → Memory → List ℕ → Tabled
tabled n c ys m t = record { number = n; state = c; table = ys; slots = m; times = t }

-- an event's answer, for each of the six: the records are those of the words that it leaves
abbrev pub in_records : Answered → Tabled
in_records r = tabled r.number r.after.state (flows_of r.after.flows) r.after.slots r.after.times

-- a path choice's answer but for the EV
abbrev pub route_answer : Routing → Answered
route_answer r = record { number = r.number; after = r.after }

-- a table before or after the call, as an `ensures` sees it
abbrev pub LentRecords : Type 0
LentRecords = List Flow

-- the context whose table is the records' words, as it is handed in. More than eight records are no table's words: 2
abbrev pub words_before : Controller → LentRecords → LentSlice → LentSlice → LentSlice → LentSlice → LentSlice → Context
words_before c table outstanding marked sizes sent evs =
    context c (words_of table) (memory_before outstanding marked sizes sent) evs

-- the number, the state and what was lent, as a call leaves them
abbrev pub tabled_after : ℕ → Controller → LentRecords → LentSlice → LentSlice → LentSlice → LentSlice → LentSlice → Tabled
tabled_after n c table outstanding marked sizes sent evs =
    tabled n c table (memory_after outstanding marked sizes sent) evs

-- ---- over the table by value

pub record Stepped : Type 0 where
  pub number : ℕ
  pub state : Controller
  pub flows : Flows
  pub slots : Memory
  pub times : List ℕ

abbrev pub stepped : ℕ → Controller → Flows → Memory → List ℕ → Stepped
stepped n c fs m t = record { number = n; state = c; flows = fs; slots = m; times = t }

-- the context whose table is the words of its records, which stand before those of the eight that it has room for
abbrev pub front_before : Controller → Flows → LentSlice → LentSlice → LentSlice → LentSlice → LentSlice → Context
front_before c fs outstanding marked sizes sent evs =
    context c (take (flow_words * fs.n) (value_words fs)) (memory_before outstanding marked sizes sent) evs

abbrev pub stepped_after : ℕ → Controller → Flows → LentSlice → LentSlice → LentSlice → LentSlice → LentSlice → Stepped
stepped_after n c fs outstanding marked sizes sent evs = stepped n c fs (memory_after outstanding marked sizes sent) evs

-- an event's answer, the records of the first n flows by value
abbrev pub by_value : ℕ → Answered → Stepped
by_value n r = stepped r.number r.after.state (value_from n r.after.flows) r.after.slots r.after.times

-- of more flows than there is room for, what is answered is the first
abbrev pub unless_many : {A : Type 0} → Flows → A → A → A
unless_many fs refused answer = if_lt flows_most fs.n refused answer

-- what a step asks of an event's call: it leaves as many words, and PSNs where there were PSNs
abbrev pub Keeps : List ℕ → List ℕ → Type 0
Keeps ws left = (length left ≡ length ws) × (AllFit (count_of ws) ws → AllFit (count_of left) left)

-- refusal 2 of any event
abbrev pub unsound : {T : Type 0} → Result T Refusal
unsound = Err Unsound

-- the event of a table by value, of the context x whose table is its words: 2, and all as it was, where it has more than eight flows
abbrev pub on_flows : Flows → (Context → Answered) → Context → Stepped
on_flows fs on x = unless_many fs (stepped 2 x.state fs x.slots x.times) (by_value fs.n (on x))
