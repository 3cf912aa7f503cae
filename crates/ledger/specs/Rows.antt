-- The ledger's refusals, in document 01's order: "send: 8, 5, 7, 6; ACK: 9, 11; NACK and loss: 10, 11". Row 6 is the sender's.
-- Assumes nothing.
use Rattle.std.specs.Prelude.{ℕ, Bool, true, false, not, ◌||◌, List, [], ◌∷◌, ℤ, ◌==◌, nat_lt}
use Rattle.rules.specs.Rows.{Row, row}
use Rattle.serial.specs.Psn.{unsent_or_old}
use Rattle.ledger.specs.Packets.{is_flying, is_marked}
use Rattle.ledger.specs.Bounds.{sinks}
use Rattle.ledger.specs.Ring.{Ring, cap_of, long_of, packet_of}
use Rattle.ledger.specs.Steps.{newly_of}
use Rattle.ledger.specs.declared.Flow.{Flow}

-- "new packet's PSN is not next" (8); "new packet larger than backlog" (5); "next - low = capacity on a new packet" (7)
abbrev pub new_rows : Flow → ℕ → ℕ → ℕ → List Row
new_rows f cap psn size = row (not (psn == f.next)) 8 ∷ row (nat_lt f.backlog size) 5 ∷ row (long_of f == cap) 7 ∷ []

-- "a resend's PSN is not marked, or its size differs from the record" (8)
abbrev pub resend_rows : Flow → Ring → ℕ → ℕ → List Row
resend_rows f r psn size = row (not (is_marked (packet_of f r psn)) || not (size == (packet_of f r psn).size)) 8 ∷ []

abbrev pub send_rows : Flow → Ring → ℕ → ℕ → Bool → List Row
send_rows f r psn size true = resend_rows f r psn size
send_rows f r psn size false = new_rows f (cap_of r) psn size

-- "ACK names an unsent packet, or is too old" (9); "in-flight would fall below -2^24" (11)
abbrev pub ack_rows : Flow → ℤ → ℕ → ℕ → ℕ → List Row
ack_rows f in_flight cum map count = row (unsent_or_old f.next cum map) 9 ∷ row (sinks in_flight (newly_of count f.held)) 11 ∷ []

-- "NACK or loss of a packet not flying" (10); "in-flight would fall below -2^24" (11)
abbrev pub mark_rows : Flow → ℤ → Ring → ℕ → List Row
mark_rows f in_flight r psn = row (not (is_flying (packet_of f r psn))) 10 ∷ row (sinks in_flight (packet_of f r psn).size) 11 ∷ []
