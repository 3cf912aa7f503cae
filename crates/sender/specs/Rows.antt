-- The refusals of each event, in document 01's order: "2, 3, 4, then send: 8, 5, 7, 6; ACK: 9, 11; NACK and loss: 10, 11". New data and
-- path choice "use only the rows that apply". Where 01 has 4 for every field, request M-100 tells which. The ledger's rows are `ledger`'s.
-- Assumes nothing.
use Rattle.std.specs.Prelude.{not, ◌&&◌, ◌||◌, List, [], ◌∷◌, ◌++◌, ℕ, ◌+◌, leb, ltb, eqb, length}
use Rattle.rules.specs.Rows.{Row, row}
use Rattle.rules.specs.Test.{inside}
use Rattle.serial.specs.Psn.{covered}
use Rattle.serial.specs.Count.{counts}
use Rattle.window.specs.Range.{in_range}
use Rattle.window.specs.declared.Settings.{Settings}
use Rattle.ledger.specs.Bounds.{size_least, backlog_most}
use Rattle.ledger.specs.Ring.{Ring}
use Rattle.ledger.specs.Memory.{Memory}
use Rattle.ledger.specs.Sound.{is_even}
use Rattle.ledger.specs.Rows.{send_rows, ack_rows, mark_rows}
use Rattle.window.specs.Limits.{time_end}
use Rattle.sender.specs.Limits.{reason_most}
use Rattle.sender.specs.World.{World}
use Rattle.sender.specs.Named.{has_room}
use Rattle.sender.specs.Sound.{sound}
use Rattle.sender.specs.declared.Controller.{Controller}
use Rattle.sender.specs.declared.Send.{Send}
use Rattle.sender.specs.declared.Ack.{Ack}
use Rattle.sender.specs.declared.Nack.{Nack}
use Rattle.sender.specs.declared.Loss.{Loss}

-- "time before the held clock, or 2^48 or more" (3)
abbrev pub time_row : ℕ → Controller → Row
time_row time c = row (ltb time c.clock || leb time_end time) 3

-- The fields of each event, where 01 has one row 4. Request M-100: "4 stays for send size, 20 is new-data bytes, 21 count, 22 reason, 23
-- EV, 24 trigger not covered. Where several apply, the order is 4, 20, 21, 22, 23, 24."

-- "0 bytes or a sum over 2^40 on new data" (20)
abbrev pub new_data_fields : ℕ → Controller → List Row
new_data_fields bytes c = row (eqb bytes 0 || ltb backlog_most (c.flow.backlog + bytes)) 20 ∷ []

-- "size outside 41..MTU on a send" (4)
abbrev pub send_fields : Send → Controller → List Row
send_fields a c = row (not (inside size_least a.size c.settings.mtu)) 4 ∷ []

-- an EV that is not below the number of EVs (23): "EV over 255", and by request M-110 the chosen number
abbrev pub ev_row : ℕ → Controller → Row
ev_row ev c = row (leb c.settings.ev_count ev) 23

-- "count 2^24 or more" (21); the EV (23); "ACK's trigger PSN not covered by that ACK" (24)
abbrev pub ack_fields : Ack → Controller → List Row
ack_fields a c = row (leb counts a.count) 21 ∷ ev_row a.ev c ∷ row (not (covered a.cum a.map a.trigger)) 24 ∷ []

-- "NACK reason over 2" (22); the EV (23)
abbrev pub nack_fields : Nack → Controller → List Row
nack_fields a c = row (ltb reason_most a.reason) 22 ∷ ev_row a.ev c ∷ []

-- the EV (23)
abbrev pub loss_fields : Loss → Controller → List Row
loss_fields a c = ev_row a.ev c ∷ []

-- All rows of each event behind number 2: the time, the fields, the ledger's

abbrev pub new_data_rows : ℕ → ℕ → Controller → List Row
new_data_rows time bytes c = time_row time c ∷ new_data_fields bytes c

-- the last of a send: "in-flight + MTU > cwnd on a send" (6)
abbrev pub send_all_rows : ℕ → Send → Controller → Ring → List Row
send_all_rows time a c r =
    time_row time c
    ∷ (send_fields a c
    ++ (send_rows c.flow r a.psn a.size a.resend
    ++ (row (not (has_room c.settings.mtu c.window.cwnd c.totals.in_flight)) 6 ∷ [])))

abbrev pub ack_all_rows : ℕ → Ack → Controller → List Row
ack_all_rows time a c = time_row time c ∷ (ack_fields a c ++ ack_rows c.flow c.totals.in_flight a.cum a.map a.count)

abbrev pub nack_all_rows : ℕ → Nack → Controller → Ring → List Row
nack_all_rows time a c r = time_row time c ∷ (nack_fields a c ++ mark_rows c.flow c.totals.in_flight r a.psn)

abbrev pub loss_all_rows : ℕ → Loss → Controller → Ring → List Row
loss_all_rows time a c r = time_row time c ∷ (loss_fields a c ++ mark_rows c.flow c.totals.in_flight r a.psn)

abbrev pub path_rows : ℕ → Controller → List Row
path_rows time c = time_row time c ∷ []

-- "state or buffers don't hold together" (2), before all others
abbrev pub with_sound : World → List Row → List Row
with_sound w rows = row (not (sound w)) 2 ∷ rows

-- "setting up tests 1, then 2 on lengths only": those of the ring, and as many EV times as the settings say
abbrev pub set_up_rows : Settings → Memory → List ℕ → List Row
set_up_rows s m times = row (not (in_range s)) 1 ∷ row (not (is_even m && eqb (length times) s.ev_count)) 2 ∷ []
