-- Which packet comes next: what firmware asks of the ring, which it does not read itself.
-- Assumes nothing.
use Rattle.std.specs.Prelude.{ℕ, suc, List, [], ◌∷◌, drop}
use Rattle.rules.specs.Branch.{if_so, if_lt}
use Rattle.serial.specs.Psn.{plus}
use Rattle.ledger.specs.Packets.{is_marked}
use Rattle.ledger.specs.Ring.{Ring, long_of, packets, offset_of}
use Rattle.ledger.specs.declared.Flow.{Flow}
use Rattle.ledger.specs.declared.Packet.{Packet}

-- how many packets of a queue stand before the first marked one
unfoldable pub unmarked_run : List Packet → ℕ
unmarked_run [] = 0
unmarked_run (x ∷ xs) = if_so (is_marked x) 0 (suc (unmarked_run xs))

-- the first marked PSN from psn on; next where there is none, or where psn is not one of low..next-1
unfoldable pub next_marked_of : Flow → Ring → ℕ → ℕ
next_marked_of f r psn =
    if_lt (offset_of f psn) (long_of f) (plus psn (unmarked_run (drop (offset_of f psn) (packets f r)))) f.next
