-- A plan. Request M-111: "The card's scheduler, which we don't trust, proposes up to 64 sends for one instant: flow, new or resend, PSN,
-- size." It is lent as numbers of 32 bits, four a send, in that order; every list of them is some plan.
-- Assumes nothing.
use Rattle.std.specs.Prelude.{not, List, [], ◌∷◌, ℕ, zero, suc, ◌+◌, ◌*◌, ◌/◌, ◌%◌, eqb, length, get_or, set}
use Rattle.rules.specs.Mode.{mode_of}
use Rattle.serial.specs.Psn.{psns}
use Rattle.plan.specs.declared.Planned.{Planned}

-- the numbers of a send
abbrev pub send_words : ℕ
send_words = 4

-- "up to 64 sends"
abbrev pub sends_most : ℕ
sends_most = 64

-- the places of a send's numbers
abbrev pub flow_place : ℕ
flow_place = 0

abbrev pub resend_place : ℕ
resend_place = 1

abbrev pub psn_place : ℕ
psn_place = 2

abbrev pub size_place : ℕ
size_place = 3

-- where a number of send i stands
abbrev pub plan_place : ℕ → ℕ → ℕ
plan_place i place = send_words * i + place

-- how many whole sends there are
abbrev pub send_count : List ℕ → ℕ
send_count ws = length ws / send_words

-- send i: a resend unless its number is 0. "PSN: 32 bits", as its number has
unfoldable pub planned_at : List ℕ → ℕ → Planned
planned_at ws i =
    record {
      flow = get_or ws (plan_place i flow_place) 0;
      send = record {
        psn = get_or ws (plan_place i psn_place) 0 % psns;
        size = get_or ws (plan_place i size_place) 0;
        resend = not (eqb (get_or ws (plan_place i resend_place) 0) 0);
      };
    }

-- n sends from send i on, and all of them
unfoldable pub sends_from : List ℕ → ℕ → ℕ → List Planned
sends_from ws i zero = []
sends_from ws i (suc n) = planned_at ws i ∷ sends_from ws (suc i) n

abbrev pub plan_of : List ℕ → List Planned
plan_of ws = sends_from ws 0 (send_count ws)

-- the numbers with p for send i
unfoldable pub with_send : List ℕ → ℕ → Planned → List ℕ
with_send ws i p =
    let w₁ = set ws (plan_place i flow_place) p.flow in
    let w₂ = set w₁ (plan_place i resend_place) (mode_of p.send.resend) in
    let w₃ = set w₂ (plan_place i psn_place) p.send.psn in
    set w₃ (plan_place i size_place) p.send.size

-- the numbers with a plan from send i on; what stands behind it is as it was
unfoldable pub written : List ℕ → ℕ → List Planned → List ℕ
written ws i [] = ws
written ws i (p ∷ ps) = written (with_send ws i p) (suc i) ps
