-- The table as a lent slice of records, and the same by value, which has room for eight: "they sit in a lent table of flow records, one to
-- eight". An event takes the records over by value, works on their words, and stores the records of the words that it leaves.
-- Assumes nothing.
use Rattle.std.specs.Prelude.{List, ◌++◌, ℕ, ◌-◌, min, length, take, drop, set, replicate}
use Rattle.ledger.specs.declared.Flow.{Flow}
use Rattle.flow_table.specs.Words.{flows_most, words_of, first_flows, no_flow}
use Rattle.flow_table.specs.declared.lent.Flows.{Flows}

-- how many records of a table of n are taken over: all of them, in a table that is none too long
abbrev pub room : ℕ → ℕ
room n = min n flows_most

-- the first i records of a table, and records of zeros up to eight
abbrev pub filled : ℕ → List Flow → List Flow
filled i ys = take i ys ++ replicate (flows_most - i) no_flow

-- the lent table, by value
abbrev pub loaded : List Flow → Flows
loaded ys = record { n = length ys; at = filled (room (length ys)) ys }

-- the first i records are those of fs, and the others the table's
abbrev pub over_first : ℕ → List Flow → List Flow → List Flow
over_first i fs ys = take i fs ++ drop i ys

-- the lent table once the table by value is stored in it
abbrev pub saved : Flows → List Flow → List Flow
saved fs ys = over_first (room (length ys)) fs.at ys

-- eight records of zeros, in a table of n
abbrev pub no_flows : ℕ → Flows
no_flows n = record { n = n; at = replicate flows_most no_flow }

-- the table by value with another record for flow k
abbrev pub with_record : Flows → ℕ → Flow → Flows
with_record fs k f = record { n = fs.n; at = set fs.at k f }

-- the words of all eight records
abbrev pub value_words : Flows → List ℕ
value_words fs = words_of fs.at

-- the table by value of the first n flows' words
abbrev pub value_from : ℕ → List ℕ → Flows
value_from n ws = record { n = n; at = filled n (first_flows n ws) }
