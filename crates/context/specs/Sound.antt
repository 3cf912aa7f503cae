-- Refusal 2 over a context. Request M-107: "Refusal 2 tests every flow and the number of flows"; the shared totals are over all flows.
-- Assumes nothing.
use Rattle.std.specs.Prelude.{Bool, ◌&&◌, ℕ, ◌*◌, length, ltb, eqb}
use Rattle.bits.specs.Bits.{sum_to}
use Rattle.window.specs.Limits.{time_end}
use Rattle.window.specs.Range.{in_range}
use Rattle.window.specs.Sound.{sound_window}
use Rattle.ledger.specs.Bounds.{in_bounds}
use Rattle.ledger.specs.Packets.{flying_one, marked_one, marked_size, sum_of}
use Rattle.ledger.specs.Ring.{packets}
use Rattle.ledger.specs.Memory.{Memory}
use Rattle.ledger.specs.Sound.{all_to, is_capacity, stands}
use Rattle.ledger.specs.declared.Packet.{Packet}
use Rattle.flow_table.specs.Words.{is_table}
use Rattle.flow_table.specs.Parts.{words_in}
use Rattle.sender.specs.Sound.{times_ok}
use Rattle.sender.specs.Named.{phase_of}
use Rattle.context.specs.Context.{Context, flow_count, cap_in, flow_in, ring_in}
use Rattle.context.specs.declared.Controller.{Controller}

-- the ring buffer is n rings of `cap` slots, end to end
unfoldable pub is_cut : ℕ → ℕ → Memory → Bool
is_cut n cap m =
    is_capacity cap
    && eqb (length m.outstanding) (n * words_in cap)
    && eqb (length m.marked) (n * words_in cap)
    && eqb (length m.sizes) (n * cap)
    && eqb (length m.sent) (n * cap)

-- flow k and its ring hold together
unfoldable pub stands_at : Context → ℕ → Bool
stands_at x k = stands x.state.settings.mtu x.state.clock (flow_in x k) (ring_in x k)

-- what flow k adds to a total, and what the flows add up to
abbrev pub adds_at : (Packet → ℕ) → Context → ℕ → ℕ
adds_at adds x k = sum_of adds (packets (flow_in x k) (ring_in x k))

abbrev pub adds_up : (Packet → ℕ) → Context → ℕ
adds_up adds x = sum_to (adds_at adds x) (flow_count x)

abbrev pub backlogs : Context → ℕ
backlogs x = sum_to (λ k. (flow_in x k).backlog) (flow_count x)

-- the totals are the sums over all flows, and in-flight is in its bounds
unfoldable pub totals_over : Context → Bool
totals_over x =
    let t = x.state.totals in
    eqb t.flying (adds_up flying_one x)
    && eqb t.marked (adds_up marked_one x)
    && eqb t.marked_bytes (adds_up marked_size x)
    && eqb t.backlog (backlogs x)
    && in_bounds x.state.settings.maxwnd t.in_flight

-- "a state name other than the rule's"
unfoldable pub named_ok : Controller → Bool
named_ok c = eqb c.phase (phase_of c.settings.mtu c.window.cwnd c.totals)

-- request M-108: "A held turn that names no flow is refusal 2."
unfoldable pub sound_context : Context → Bool
sound_context x =
    let c = x.state in
    in_range c.settings
    && sound_window c.settings c.clock c.window
    && is_table x.flows
    && is_cut (flow_count x) (cap_in x) x.slots
    && all_to (stands_at x) (flow_count x)
    && totals_over x
    && ltb c.clock time_end
    && eqb (length x.times) c.settings.ev_count
    && times_ok x.times
    && ltb c.cursor c.settings.ev_count
    && ltb c.turn (flow_count x)
    && named_ok c
