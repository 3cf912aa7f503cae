-- What a history's accepted events sent, reported and took out as lost. The sums know nothing of the state: what a count newly reports they
-- take from the counts that came before, and what a lost packet had in bytes from the event that sent it.
-- Assumes nothing.
use Rattle.std.specs.Prelude.{List, [], ◌∷◌, ℕ, ◌+◌, ◌%◌}
use Rattle.rules.specs.Branch.{if_eq, if_so}
use Rattle.serial.specs.Psn.{psns}
use Rattle.ledger.specs.Steps.{held_of, newly_of}
use Rattle.sender.specs.World.{World}
use Rattle.demands.specs.Events.{Event, new_data, send, ack, nack, loss, path, answer}

-- what is remembered of the events so far: the newest count, and the bytes of each PSN's last new packet
pub record Past : Type 0 where
  pub count : ℕ
  pub bytes : ℕ → ℕ

abbrev pub no_past : Past
no_past = record { count = 0; bytes = λ psn. 0 }

-- an accepted event, remembered
unfoldable pub remember : Event → Past → Past
remember (new_data time bytes) p = p
remember (send time a) p = if_so a.resend p (record { count = p.count; bytes = λ psn. if_eq psn a.psn a.size (p.bytes psn) })
remember (ack time a) p = record { count = held_of a.count p.count; bytes = p.bytes }
remember (nack time a) p = p
remember (loss time a) p = p
remember (path time) p = p

-- bytes that an accepted event sends, new or again
unfoldable pub sent_by : Event → Past → ℕ
sent_by (new_data time bytes) p = 0
sent_by (send time a) p = a.size
sent_by (ack time a) p = 0
sent_by (nack time a) p = 0
sent_by (loss time a) p = 0
sent_by (path time) p = 0

-- bytes that it reports as received: 256 for each unit by which its count is ahead
unfoldable pub reported_by : Event → Past → ℕ
reported_by (new_data time bytes) p = 0
reported_by (send time a) p = 0
reported_by (ack time a) p = newly_of a.count p.count
reported_by (nack time a) p = 0
reported_by (loss time a) p = 0
reported_by (path time) p = 0

-- bytes that it takes out as lost: those of the packet that it names; "PSN: 32 bits, wraps"
unfoldable pub lost_by : Event → Past → ℕ
lost_by (new_data time bytes) p = 0
lost_by (send time a) p = 0
lost_by (ack time a) p = 0
lost_by (nack time a) p = p.bytes (a.psn % psns)
lost_by (loss time a) p = p.bytes (a.psn % psns)
lost_by (path time) p = 0

-- summed over the accepted events of a history
unfoldable pub sum : (Event → Past → ℕ) → World → Past → List Event → ℕ
sum by w p [] = 0
sum by w p (e ∷ es) =
    if_eq (answer e w).number 0 (by e p + sum by (answer e w).after (remember e p) es) (sum by (answer e w).after p es)
