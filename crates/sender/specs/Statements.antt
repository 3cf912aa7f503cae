-- What the theorems on refusals say: which row a number is, what request M-100 leaves as it was, and which send document 01 permits.
-- Assumes nothing.
use Rattle.std.specs.Prelude.{◌≡◌, ◌↔◌, Bool, true, false, not, ◌&&◌, ◌||◌, List, [], ◌∷◌, ◌++◌, ℕ, ◌+◌, ◌≤◌, ◌<◌, leb, ltb, eqb}
use Rattle.rules.specs.Rows.{Row, row, first_of}
use Rattle.serial.specs.Psn.{covered}
use Rattle.serial.specs.Count.{counts}
use Rattle.ledger.specs.Bounds.{backlog_most}
use Rattle.ledger.specs.Packets.{is_marked}
use Rattle.ledger.specs.Ring.{Ring, long_of, packet_of}
use Rattle.ledger.specs.Memory.{slots_of}
use Rattle.ledger.specs.Rows.{ack_rows, mark_rows}
use Rattle.window.specs.Limits.{time_end}
use Rattle.sender.specs.Limits.{reason_most}
use Rattle.sender.specs.World.{World, ring_of}
use Rattle.sender.specs.Named.{has_room}
use Rattle.sender.specs.Sound.{sound}
use Rattle.sender.specs.Rows.{time_row}
use Rattle.sender.specs.declared.Controller.{Controller}
use Rattle.sender.specs.declared.Send.{Send}
use Rattle.sender.specs.declared.Ack.{Ack}
use Rattle.sender.specs.declared.Nack.{Nack}
use Rattle.sender.specs.declared.Loss.{Loss}

-- ---- "Of several that apply, the first in the order below is given."

-- no row's test holds
unfoldable pub silent : List Row → Bool
silent [] = true
silent (x ∷ xs) = not x.test && silent xs

-- a row of this number has a test that holds, and no test before it does
pub record First (n : ℕ) (rows : List Row) : Type 0 where
  pub before : List Row
  pub here : Row
  pub after : List Row
  pub order : rows ≡ before ++ (here ∷ after)
  pub number_is : here.number ≡ n
  pub applies : here.test ≡ true
  pub none_before : silent before ≡ true

-- the number that is given, told by the rows and by nothing else
pub record Exact (rows : List Row) (number : ℕ) : Type 0 where
  pub refused : (n : ℕ) → (n ≡ 0 → ⊥) → number ≡ n → First n rows
  pub first : (n : ℕ) → First n rows → number ≡ n
  pub accepted : number ≡ 0 → silent rows ≡ true
  pub none : silent rows ≡ true → number ≡ 0

-- ---- request M-100: "Tell us which field. .. Split it .. what is refused at all stays"

-- document 01's rows as they were, with 4 for every field; those of a send are as they were
abbrev pub plain_new_data : ℕ → ℕ → Controller → List Row
plain_new_data time bytes c = time_row time c ∷ row (eqb bytes 0 || ltb backlog_most (c.flow.backlog + bytes)) 4 ∷ []

abbrev pub plain_ack : ℕ → Ack → Controller → List Row
plain_ack time a c =
    time_row time c
    ∷ row (leb counts a.count || leb c.settings.ev_count a.ev || not (covered a.cum a.map a.trigger)) 4
    ∷ ack_rows c.flow c.totals.in_flight a.cum a.map a.count

abbrev pub plain_nack : ℕ → Nack → Controller → Ring → List Row
plain_nack time a c r =
    time_row time c
    ∷ row (ltb reason_most a.reason || leb c.settings.ev_count a.ev) 4
    ∷ mark_rows c.flow c.totals.in_flight r a.psn

abbrev pub plain_loss : ℕ → Loss → Controller → Ring → List Row
plain_loss time a c r = time_row time c ∷ row (leb c.settings.ev_count a.ev) 4
    ∷ mark_rows c.flow c.totals.in_flight r a.psn

-- the number that is answered, told by the old rows and the rows of the event's fields
pub record Apart (old fields : List Row) (number : ℕ) : Type 0 where
  -- what was refused is refused, and nothing else
  pub same_refused : (number ≡ 0) ↔ (silent old ≡ true)
  -- every number but 4 is given as it was
  pub same_number : (first_of old ≡ 4 → ⊥) → number ≡ first_of old
  -- where it was 4, the fields tell: the number is n exactly where the field's row of that number applies and none before it does
  pub by_field : first_of old ≡ 4 → Exact fields number

-- ---- a send that 01 permits

-- a send for which 01 names no refusal, but for the packet itself
pub record Permitted (time : ℕ) (a : Send) (w : World) : Type 0 where
  -- not 2: state and buffers hold together
  pub holds_together : sound w ≡ true
  -- not 3: "time before the held clock, or 2^48 or more"
  pub not_before : w.state.clock ≤ time
  pub in_time : time < time_end
  -- not 4: "size outside 41..MTU on a send"
  pub size_least_lem : 41 ≤ a.size
  pub size_most : a.size ≤ w.state.settings.mtu
  -- not 6: "in-flight + MTU > cwnd on a send"
  pub room : has_room w.state.settings.mtu w.state.window.cwnd w.state.totals.in_flight ≡ true

-- a new packet
pub record PermittedNew (time : ℕ) (a : Send) (w : World) : Type 0 where
  pub is_new : a.resend ≡ false
  pub permitted : Permitted time a w
  -- not 8: "new packet's PSN is not next"
  pub psn_next : a.psn ≡ w.state.flow.next
  -- not 5: "new packet larger than backlog"
  pub in_backlog : a.size ≤ w.state.flow.backlog
  -- not 7: "next - low = capacity on a new packet"
  pub slot_free : long_of w.state.flow ≡ slots_of w.slots → ⊥

-- a resend
pub record PermittedResend (time : ℕ) (a : Send) (w : World) : Type 0 where
  pub is_resend : a.resend ≡ true
  pub permitted : Permitted time a w
  -- not 8: "a resend's PSN is not marked, or its size differs from the record"
  pub psn_marked : is_marked (packet_of w.state.flow (ring_of w) a.psn) ≡ true
  pub same_size : a.size ≡ (packet_of w.state.flow (ring_of w) a.psn).size
