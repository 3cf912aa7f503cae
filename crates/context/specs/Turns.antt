-- Fair turns, request M-108: which flow sends next, or nobody. A choice has no time and tests number 2 only.
-- Assumes nothing.
use Rattle.std.specs.Prelude.{Bool, false, not, ◌&&◌, ◌||◌, List, [], ◌∷◌, ℕ, zero, suc, ◌+◌, ◌%◌, ltb, eqb}
use Rattle.std.specs.Prelude.{Option as Named, Some, None, Result, Ok, Err}
use Rattle.std.proofs.Math.Option.{Option, none, some}
use Rattle.rules.specs.declared.verdict.Refusal.{Refusal}
use Rattle.rules.specs.Branch.{if_so}
use Rattle.paths.specs.Path.{from}
use Rattle.ledger.specs.Packets.{is_marked}
use Rattle.ledger.specs.Ring.{packets, long_of}
use Rattle.ledger.specs.declared.Packet.{Packet}
use Rattle.sender.specs.Named.{has_room}
use Rattle.context.specs.Context.{Context, context, flow_count, cap_in, flow_in, ring_in}
use Rattle.context.specs.Sound.{sound_context}
use Rattle.context.specs.Look.{marked_from}
use Rattle.context.specs.declared.Controller.{Controller}
use Rattle.context.specs.declared.choice.Turn.{Turn}

-- ---- a flow that is ready

-- "a marked packet": one of a flow's packets
unfoldable pub any_marked : List Packet → Bool
any_marked [] = false
any_marked (p ∷ ps) = is_marked p || any_marked ps

abbrev pub has_marked : Context → ℕ → Bool
has_marked x k = any_marked (packets (flow_in x k) (ring_in x k))

-- a new packet would be refused for 7: "next - low = capacity on a new packet"
abbrev pub ring_full : Context → ℕ → Bool
ring_full x k = eqb (long_of (flow_in x k)) (cap_in x)

-- "A flow is ready if it has backlog or a marked packet and its send would not be refused for 7 in the case of a new packet; a marked
-- packet goes first": with a marked packet it is ready with a full ring too
unfoldable pub is_ready : Context → ℕ → Bool
is_ready x k = has_marked x k || (ltb 0 (flow_in x k).backlog && not (ring_full x k))

-- ---- the round

-- n numbers from k on
unfoldable pub numbers : ℕ → ℕ → List ℕ
numbers k zero = []
numbers k (suc n) = k ∷ numbers (suc k) n

-- "Turns go round from the flow after the last one named", which is the held turn: the flows in that order
abbrev pub round_of : ℕ → ℕ → List ℕ
round_of turn n = from turn (numbers 0 n)

-- the first of some flows that is ready
unfoldable pub first_ready : (ℕ → Bool) → List ℕ → Option ℕ
first_ready ready [] = none
first_ready ready (k ∷ ks) = if_so (ready k) (some k) (first_ready ready ks)

-- not "in-flight + MTU > cwnd"
abbrev pub window_open : Context → Bool
window_open x = has_room x.state.settings.mtu x.state.window.cwnd x.state.totals.in_flight

-- who is named. "No flow ready, or in-flight + MTU > cwnd: the answer is nobody"
unfoldable pub named_by : Context → Option ℕ
named_by x = if_so (window_open x) (first_ready (is_ready x) (round_of x.state.turn (flow_count x))) none

-- ---- the answer

-- what flow k sends: "a marked packet goes first", the one nearest to low; where there is none, a new packet, whose PSN is next
unfoldable pub turn_of : Context → ℕ → Turn
turn_of x k = record { flow = k; resend = has_marked x k; psn = marked_from k (flow_in x k).low x }

-- what the flow that is named sends, if one is
unfoldable pub offered_by : Context → Option ℕ → Option Turn
offered_by x none = none
offered_by x (some k) = some (turn_of x k)

-- whom the code names, case by case
unfoldable pub choice_of : Named Turn → Option Turn
choice_of None = none
choice_of (Some turn) = some turn

-- a refused choice names nobody
unfoldable pub named_in : Result (Named Turn) Refusal → Option Turn
named_in (Ok named) = choice_of named
named_in (Err r) = none

-- the state with another turn, and all else as it was
unfoldable pub with_turn : ℕ → Controller → Controller
with_turn turn c =
    record {
      settings = c.settings;
      totals = c.totals;
      window = c.window;
      clock = c.clock;
      cursor = c.cursor;
      phase = c.phase;
      turn = turn;
    }

-- the number that is answered, what is to be sent, nothing where nobody is named, and the context afterwards
pub record Chosen : Type 0 where
  pub number : ℕ
  pub turn : Option Turn
  pub after : Context

abbrev pub chose : ℕ → Option Turn → Context → Chosen
chose n t x = record { number = n; turn = t; after = x }

-- the round after a flow is named starts at the one behind it, "whether it then sent or not"; of nobody "the turn doesn't move"
unfoldable pub turn_after : Option ℕ → Context → ℕ
turn_after none x = x.state.turn
turn_after (some k) x = (k + 1) % flow_count x

abbrev pub with_turn_of : ℕ → Context → Context
with_turn_of turn x = context (with_turn turn x.state) x.flows x.slots x.times

-- a choice past number 2
unfoldable pub past_choose : Context → Chosen
past_choose x = chose 0 (offered_by x (named_by x)) (with_turn_of (turn_after (named_by x) x) x)

-- the whole choice
unfoldable pub on_choose : Context → Chosen
on_choose x = if_so (sound_context x) (past_choose x) (chose 2 none x)
