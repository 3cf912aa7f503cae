-- Packets in the order of their PSNs, oldest first, and what an ACK does to them. Document 01, "The ledger".
-- Assumes nothing.
use Rattle.std.specs.Prelude.{ℕ, suc, ◌+◌, Bool, ◌&&◌, ◌||◌, List, [], ◌∷◌, ◌==◌}
use Rattle.rules.specs.Branch.{if_so, if_eq}
use Rattle.serial.specs.Psn.{plus}
use Rattle.ledger.specs.declared.Packet.{Packet}

-- the status of a slot: 0 where it is empty
abbrev pub flying_status : ℕ
flying_status = 1

abbrev pub marked_status : ℕ
marked_status = 2

abbrev pub done_status : ℕ
done_status = 3

-- no packet: an empty slot is all zero
abbrev pub no_packet : Packet
no_packet = record { status = 0; size = 0; sent = 0; resent = 0 }

abbrev pub with_status : ℕ → Packet → Packet
with_status s x = record { status = s; size = x.size; sent = x.sent; resent = x.resent }

unfoldable pub is_flying : Packet → Bool
is_flying x = x.status == flying_status

unfoldable pub is_marked : Packet → Bool
is_marked x = x.status == marked_status

unfoldable pub is_done : Packet → Bool
is_done x = x.status == done_status

-- flying or marked
unfoldable pub is_out : Packet → Bool
is_out x = is_flying x || is_marked x

-- what a packet adds to the flying packets, the marked packets and the marked bytes
unfoldable pub flying_one : Packet → ℕ
flying_one x = if_eq x.status flying_status 1 0

unfoldable pub marked_one : Packet → ℕ
marked_one x = if_eq x.status marked_status 1 0

unfoldable pub marked_size : Packet → ℕ
marked_size x = if_eq x.status marked_status x.size 0

-- what the packets of a queue add up to
unfoldable pub sum_of : (Packet → ℕ) → List Packet → ℕ
sum_of adds [] = 0
sum_of adds (x ∷ xs) = adds x + sum_of adds xs

-- "Covered flying or marked packets become done"
unfoldable pub cover_one : Bool → Packet → Packet
cover_one hit x = if_so (hit && is_out x) (with_status done_status x) x

-- the same of each packet of a queue, the first of which has the PSN p; `cov` says which PSNs are covered
unfoldable pub cover_all : (ℕ → Bool) → ℕ → List Packet → List Packet
cover_all cov p [] = []
cover_all cov p (x ∷ xs) = cover_one (cov p) x ∷ cover_all cov (plus p 1) xs

-- what the covered packets of a queue add up to, before they are done
unfoldable pub covered_sum : (Packet → ℕ) → (ℕ → Bool) → ℕ → List Packet → ℕ
covered_sum adds cov p [] = 0
covered_sum adds cov p (x ∷ xs) = if_so (cov p) (adds x) 0 + covered_sum adds cov (plus p 1) xs

-- "low then moves past done slots": how many done packets stand at the front
unfoldable pub done_run : List Packet → ℕ
done_run [] = 0
done_run (x ∷ xs) = if_eq x.status done_status (suc (done_run xs)) 0
