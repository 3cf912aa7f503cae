-- What each accepted event does to the ledger. Document 01, "The ledger".
-- Assumes nothing.
use Rattle.std.specs.Prelude.{ℕ, ◌+◌, ◌-◌, ◌*◌, min, [], ◌∷◌, ◌++◌, drop, pos, ◌+ℤ◌, slice_set}
use Rattle.rules.specs.Branch.{if_so}
use Rattle.serial.specs.Psn.{plus, covered}
use Rattle.serial.specs.Count.{is_old, forward_of}
use Rattle.ledger.specs.Packets.{flying_status, marked_status, with_status, flying_one, marked_one, marked_size, cover_all, covered_sum}
use Rattle.ledger.specs.Packets.{done_run}
use Rattle.ledger.specs.Bounds.{resent_most, unit, fallen}
use Rattle.ledger.specs.Ring.{Ring, Ledger, ledger, cap_of, laid, packets, offset_of, packet_of}
use Rattle.ledger.specs.declared.Flow.{Flow}
use Rattle.ledger.specs.declared.Totals.{Totals}
use Rattle.ledger.specs.declared.Packet.{Packet}

-- the ledger with one packet of the queue changed
unfoldable pub changed : Flow → Ring → ℕ → Packet → Ring
changed f r psn x = laid (cap_of r) f.low (slice_set (packets f r) (offset_of f psn) x)

-- ---- new data: the backlog rises, and with it the total over all flows

unfoldable pub supplied : ℕ → Flow → Flow
supplied bytes f = record { low = f.low; next = f.next; held = f.held; backlog = f.backlog + bytes }

unfoldable pub supplied_totals : ℕ → Totals → Totals
supplied_totals bytes t =
    record {
      flying = t.flying;
      marked = t.marked;
      marked_bytes = t.marked_bytes;
      backlog = t.backlog + bytes;
      in_flight = t.in_flight;
    }

abbrev pub supply_of : ℕ → Ledger → Ledger
supply_of bytes l = ledger (supplied bytes l.flow) (supplied_totals bytes l.totals) l.slots

-- ---- "New packet: slot flying, size and time stored, backlog falls, in-flight rises."

abbrev pub new_packet : ℕ → ℕ → Packet
new_packet time size = record { status = flying_status; size = size; sent = time; resent = 0 }

unfoldable pub push_of : ℕ → ℕ → Ledger → Ledger
push_of time size l =
    let f = l.flow in
    let t = l.totals in
    ledger
    (record { low = f.low; next = plus f.next 1; held = f.held; backlog = f.backlog - size })
    (record {
      flying = t.flying + 1;
      marked = t.marked;
      marked_bytes = t.marked_bytes;
      backlog = t.backlog - size;
      in_flight = t.in_flight +ℤ pos size;
    })
    (laid (cap_of l.slots) f.low (packets f l.slots ++ (new_packet time size ∷ [])))

-- ---- "Resend: marked becomes flying, in-flight rises by its size, time renewed, resend count up by one, stopping at 2."

abbrev pub resent_packet : ℕ → Packet → Packet
resent_packet time x = record { status = flying_status; size = x.size; sent = time; resent = min (x.resent + 1) resent_most }

unfoldable pub resend_of : ℕ → ℕ → Ledger → Ledger
resend_of time psn l =
    let t = l.totals in
    let x = packet_of l.flow l.slots psn in
    ledger l.flow
    (record {
      flying = t.flying + 1;
      marked = t.marked - 1;
      marked_bytes = t.marked_bytes - x.size;
      backlog = t.backlog;
      in_flight = t.in_flight +ℤ pos x.size;
    })
    (changed l.flow l.slots psn (resent_packet time x))

-- ---- "NACK and loss: flying becomes marked; in-flight falls by the recorded size."

unfoldable pub mark_of : ℕ → Ledger → Ledger
mark_of psn l =
    let t = l.totals in
    let x = packet_of l.flow l.slots psn in
    ledger l.flow
    (record {
      flying = t.flying - 1;
      marked = t.marked + 1;
      marked_bytes = t.marked_bytes + x.size;
      backlog = t.backlog;
      in_flight = fallen t.in_flight x.size;
    })
    (changed l.flow l.slots psn (with_status marked_status x))

-- ---- ACK

-- "if f is below 2^23, .. held = count; else the count is old"
unfoldable pub held_of : ℕ → ℕ → ℕ
held_of count held = if_so (is_old count held) held count

-- newly reported bytes: "256·f"
unfoldable pub newly_of : ℕ → ℕ → ℕ
newly_of count held = unit * forward_of count held

-- "Covered flying or marked packets become done; low then moves past done slots, which become zero and are used
-- again. .. in-flight falls by 256·f"
unfoldable pub acknowledge_of : ℕ → ℕ → ℕ → Ledger → Ledger
acknowledge_of cum map count l =
    let f = l.flow in
    let t = l.totals in
    let cov = covered cum map in
    let xs = packets f l.slots in
    let after = cover_all cov f.low xs in
    let gone = done_run after in
    ledger
    (record { low = plus f.low gone; next = f.next; held = held_of count f.held; backlog = f.backlog })
    (record {
      flying = t.flying - covered_sum flying_one cov f.low xs;
      marked = t.marked - covered_sum marked_one cov f.low xs;
      marked_bytes = t.marked_bytes - covered_sum marked_size cov f.low xs;
      backlog = t.backlog;
      in_flight = fallen t.in_flight (newly_of count f.held);
    })
    (laid (cap_of l.slots) (plus f.low gone) (drop gone after))
