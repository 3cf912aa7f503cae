-- Document 01, "Numbers to check by hand (settings E)": the cases P7 to P10, which are events, of a context of one flow. Each has what the
-- definitions that the contracts cite give, and what 01 says. proofs/Cases shows that all agree.
-- Assumes nothing.
use Rattle.std.specs.Prelude.{false, cond, List, [], ◌∷◌, ◌++◌, ℕ, ◌+◌, ◌-◌, ◌*◌, ◌^◌, pos, replicate}
use Rattle.window.specs.Sound.{fresh_of}
use Rattle.ledger.specs.Ring.{Ledger, laid}
use Rattle.ledger.specs.Memory.{stored}
use Rattle.ledger.specs.Steps.{new_packet}
use Rattle.ledger.specs.declared.Flow.{Flow}
use Rattle.flow_table.specs.Words.{words_of}
use Rattle.sender.specs.World.{ledger_of}
use Rattle.sender.specs.Steps.{state_of}
use Rattle.sender.specs.declared.Send.{Send}
use Rattle.sender.specs.declared.Ack.{Ack}
use Rattle.context.specs.Context.{Context, context, Answered, Routing, flow_in, shared_of, world_at}
use Rattle.context.specs.Events.{on_send, on_ack, on_path}
use Rattle.demands.specs.Burst.{is_delivered}
use Rattle.demands.specs.Cases.{Case, case, settings_e}

-- a context of one flow with these settings at time 0, with 64 slots: n packets of 4,096 bytes from low on, all flying, and the fresh
-- window (cwnd is 614,400)
unfoldable pub context_with : Flow → ℕ → ℕ → List ℕ → Context
context_with f n in_flight times =
    context
    (shared_of 0 (state_of settings_e f
    (record { flying = n; marked = 0; marked_bytes = 0; backlog = f.backlog; in_flight = pos in_flight }) (fresh_of settings_e) 0 0))
    (words_of (f ∷ []))
    (stored (laid 64 f.low (replicate n (new_packet 0 4096))))
    times

abbrev pub flow_of : ℕ → ℕ → ℕ → Flow
flow_of low next backlog = record { low = low; next = next; held = 0; backlog = backlog }

abbrev pub free : ℕ → List ℕ
free k = replicate k 0

-- n packets from low to next - 1
abbrev pub holding : ℕ → ℕ → ℕ → Context
holding low next n = context_with (flow_of low next 0) n (4096 * n) (free 256)

-- a packet of 4,096 bytes to send, at this in-flight
abbrev pub sending : ℕ → Context
sending in_flight = context_with (flow_of 0 0 4096) 0 in_flight (free 256)

-- the first k EVs avoided until 20, the others free, and the cursor at 0
abbrev pub avoiding : ℕ → Context
avoiding k = context_with (flow_of 0 0 0) 0 0 (replicate k 20 ++ free (256 - k))

-- an ACK whose trigger is cum itself
abbrev pub ack_with : ℕ → ℕ → Ack
ack_with cum map = record {
  cum = cum;
  map = map;
  trigger = cum;
  count = 0;
  service = 0;
  ev = 0;
  marked = false;
  retx = false;
}

abbrev pub new_send : Send
new_send = record { psn = 0; size = 4096; resend = false }

-- those of some PSNs that count as delivered
unfoldable pub delivered_of : Ledger → List ℕ → List ℕ
delivered_of l [] = []
delivered_of l (p ∷ ps) = cond (is_delivered l p) (p ∷ delivered_of l ps) (delivered_of l ps)

-- what an ACK answers: its number, low afterwards, and those of some PSNs that are delivered
unfoldable pub acknowledged : Answered → List ℕ → List ℕ
acknowledged x psns = x.number ∷ (flow_in x.after 0).low ∷ delivered_of (ledger_of (world_at 0 x.after)) psns

-- what a path choice answers: its number, the EV, and the cursor afterwards
unfoldable pub chosen : Routing → List ℕ
chosen x = x.number ∷ x.ev ∷ x.after.state.cursor ∷ []

unfoldable pub event_cases : List Case
event_cases =
    -- P7 "low 5, next 10, cum 5, bits 1 and 3: 5, 7, 9 delivered, low 6" (accepted) ..
    case (acknowledged (on_ack 10 0 (ack_with 5 (2 ^ 1 + 2 ^ 3)) (holding 5 10 5)) (5 ∷ 6 ∷ 7 ∷ 8 ∷ 9 ∷ [])) (0 ∷ 6 ∷ 5 ∷ 7 ∷ 9 ∷ [])
    -- .. "Bit 4: refusal 9" (low stays, none delivered)
    ∷ case (acknowledged (on_ack 10 0 (ack_with 5 (2 ^ 4)) (holding 5 10 5)) (5 ∷ 6 ∷ 7 ∷ 8 ∷ 9 ∷ [])) (9 ∷ 5 ∷ [])
    -- P8 "low 4,294,967,294, next 2, cum 0: three delivered, low 1" (accepted)
    ∷ case (acknowledged (on_ack 10 0 (ack_with 0 0) (holding 4294967294 2 4)) (4294967294 ∷ 4294967295 ∷ 0 ∷ 1 ∷ []))
    (0 ∷ 1 ∷ 4294967294 ∷ 4294967295 ∷ 0 ∷ [])
    -- P9 "cwnd 614,400: send at in-flight 610,304 accepted ..
    ∷ case ((on_send 10 0 new_send (sending 610304)).number ∷ []) (0 ∷ [])
    -- .. at 610,305 refused 6"
    ∷ case ((on_send 10 0 new_send (sending 610305)).number ∷ []) (6 ∷ [])
    -- P10 "128 EVs avoided: skipped .. (accepted, EV 128, cursor 129)
    ∷ case (chosen (on_path 10 0 (avoiding 128))) (0 ∷ 128 ∷ 129 ∷ [])
    -- .. 129: cursor taken" (accepted, EV 0, cursor 1)
    ∷ case (chosen (on_path 10 0 (avoiding 129))) (0 ∷ 0 ∷ 1 ∷ [])
    ∷ []
