-- Setting up a context. Document 01: "A fresh state has an empty ring of zeros, low = next = first PSN, all times and tallies 0, modes off,
-- cwnd = MaxWnd, base = config_base_rtt, clock 0, path cursor 0." Request M-107: "every flow starts at the settings' first PSN."
-- Assumes nothing.
use Rattle.std.specs.Prelude.{Bool, not, ◌&&◌, List, [], ◌∷◌, ℕ, ◌/◌, eqb, length, replicate}
use Rattle.rules.specs.Branch.{if_eq}
use Rattle.rules.specs.Rows.{Row, row, first_of}
use Rattle.window.specs.Range.{in_range}
use Rattle.window.specs.declared.Settings.{Settings}
use Rattle.ledger.specs.Memory.{Memory}
use Rattle.flow_table.specs.Words.{count_of, is_table, words_of}
use Rattle.sender.specs.Start.{no_settings, fresh_flow, zeros, clear_memory}
use Rattle.sender.specs.Start.{fresh_state as freshSender}
use Rattle.context.specs.Context.{Answered, answered, shared_of}
use Rattle.context.specs.Sound.{is_cut}
use Rattle.context.specs.declared.Controller.{Controller}

-- a table of one to eight whole flows, and a ring buffer of as many equal rings of a capacity
unfoldable pub lengths_ok : List ℕ → Memory → Bool
lengths_ok flows m = is_table flows && is_cut (count_of flows) (length m.sizes / count_of flows) m

-- "setting up tests 1, then 2 on lengths only": those of the table and of the ring buffer, and as many EV times as the settings say
abbrev pub set_up_rows : Settings → List ℕ → Memory → List ℕ → List Row
set_up_rows s flows m times =
    row (not (in_range s)) 1 ∷ row (not (lengths_ok flows m && eqb (length times) s.ev_count)) 2 ∷ []

-- what is shared of the fresh state of settings, turns "at set-up from flow 0" (request M-108); of no settings it is the state of zeros
unfoldable pub fresh_state : Settings → Controller
fresh_state s = shared_of 0 (freshSender s)

-- every flow from the same PSN on, nothing held, no backlog
unfoldable pub fresh_table : ℕ → List ℕ → List ℕ
fresh_table psn flows = words_of (replicate (count_of flows) (fresh_flow psn))

-- "A refused setting up: a state of zeros", and what was lent as it was
unfoldable pub on_set_up : Settings → List ℕ → Memory → List ℕ → Answered
on_set_up s flows m times =
    let n = first_of (set_up_rows s flows m times) in
    if_eq n 0 (answered 0 (fresh_state s) (fresh_table s.first_psn flows) (clear_memory m) (zeros times))
    (answered n (fresh_state no_settings) flows m times)
