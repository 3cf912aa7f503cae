-- Request M-109: "Prove that the new ring and the old one show the same ledger after every event and give the same refusals." The old ring
-- is the ring of statuses; the sender over it has document 01's rows and steps, which are over views, and keeps the view itself.
-- Assumes nothing.
use Rattle.std.specs.Prelude.{◌≡◌, true, false, not, ◌&&◌, ◌||◌, List, [], ◌∷◌, ℕ, eqb, length}
use Rattle.rules.specs.Branch.{if_eq}
use Rattle.rules.specs.Test.{inside}
use Rattle.rules.specs.Rows.{Row, row, first_of}
use Rattle.bits.specs.Bits.{bit_at}
use Rattle.window.specs.Range.{in_range}
use Rattle.window.specs.declared.Settings.{Settings}
use Rattle.ledger.specs.Packets.{flying_status, done_status}
use Rattle.ledger.specs.Ring.{Ring, ring, cap_of}
use Rattle.ledger.specs.Memory.{Memory, slots_of, in_window, words_at, status_at}
use Rattle.ledger.specs.Sound.{is_ring, is_even}
use Rattle.sender.specs.World.{World, View, view, view_of, ledger_of, ledger_in}
use Rattle.sender.specs.Sound.{sound_view}
use Rattle.sender.specs.Rows.{new_data_rows, send_all_rows, ack_all_rows, nack_all_rows, loss_all_rows, path_rows}
use Rattle.sender.specs.Start.{no_settings, fresh_state, zeros, on_set_up}
use Rattle.demands.specs.Events.{Event, new_data, send, ack, nack, loss, path, answer, view_step, run, SetUp}

-- ---- the sender over the old ring

-- the number that it answers, and what it keeps afterwards
pub record OldAnswered : Type 0 where
  pub number : ℕ
  pub after : View

-- "Each returns its number, the state as given, and lent memory untouched. Accepted is 0"
unfoldable pub old_decided : ℕ → View → View → OldAnswered
old_decided n v after = if_eq n 0 (record { number = 0; after = after }) (record { number = n; after = v })

-- the rows that it tests an event by: number 2 with the old status test, then the others
abbrev pub old_rows : Event → View → List Row
old_rows (new_data time bytes) v = row (not (sound_view v)) 2 ∷ new_data_rows time bytes v.state
old_rows (send time a) v = row (not (sound_view v)) 2 ∷ send_all_rows time a v.state v.slots
old_rows (ack time a) v = row (not (sound_view v)) 2 ∷ ack_all_rows time a v.state
old_rows (nack time a) v = row (not (sound_view v)) 2 ∷ nack_all_rows time a v.state v.slots
old_rows (loss time a) v = row (not (sound_view v)) 2 ∷ loss_all_rows time a v.state v.slots
old_rows (path time) v = row (not (sound_view v)) 2 ∷ path_rows time v.state

abbrev pub old_answer : Event → View → OldAnswered
old_answer e v = old_decided (first_of (old_rows e v)) v (view_step e v)

-- setting up, over four lent slices of the old ring
abbrev pub old_clear : Ring → Ring
old_clear r = ring (zeros r.status) (zeros r.size) (zeros r.sent) (zeros r.resent)

abbrev pub old_set_up_rows : Settings → Ring → List ℕ → List Row
old_set_up_rows s r times = row (not (in_range s)) 1 ∷ row (not (is_ring r && eqb (length times) s.ev_count)) 2 ∷ []

abbrev pub old_set_up : Settings → Ring → List ℕ → OldAnswered
old_set_up s r times =
    old_decided (first_of (old_set_up_rows s r times)) (view (fresh_state no_settings) r times) (view (fresh_state s) (old_clear r) (zeros times))

-- what it keeps after a list of events, and the numbers that it answers on the way
abbrev pub old_run : View → List Event → View
old_run v [] = v
old_run v (e ∷ es) = old_run (old_answer e v).after es

abbrev pub old_numbers : View → List Event → List ℕ
old_numbers v [] = []
old_numbers v (e ∷ es) = (old_answer e v).number ∷ old_numbers (old_answer e v).after es

-- the numbers of the sender over the new ring
abbrev pub numbers : World → List Event → List ℕ
numbers w [] = []
numbers w (e ∷ es) = (answer e w).number ∷ numbers (answer e w).after es

-- ---- the request's words

pub record SameLedger : Type 0 where
  -- ".. and give the same refusals": one event, whatever the memory holds, gets the number that the old ring gets which it shows
  pub same_refusals : (e : Event) (w : World) → (answer e w).number ≡ (old_answer e (view_of w)).number
  -- "the new ring and the old one show the same ledger ..": what is shown afterwards is the old ring, with its state and EV times
  pub same_view : (e : Event) (w : World) → view_of (answer e w).after ≡ (old_answer e (view_of w)).after
  -- ".. after every event": along any list of events, refused ones among them, with every number on the way
  pub same_along : (es : List Event) (w : World) → view_of (run w es) ≡ old_run (view_of w) es
  pub same_numbers : (es : List Event) (w : World) → numbers w es ≡ old_numbers (view_of w) es
  -- a setting up over as many slots gets the same number ..
  pub same_set_up : (s : Settings) (m : Memory) (r : Ring) (times : List ℕ) → is_ring r ≡ is_even m
      → (on_set_up s m times).number ≡ (old_set_up s r times).number
  -- .. and from an accepted one on both show the same ledger after every event
  pub from_set_up : (s : Settings) (m : Memory) (r : Ring) (times : List ℕ) (w : World) (es : List Event) → is_ring r ≡ true
      → cap_of r ≡ slots_of m → SetUp s m times w → ledger_of (run w es) ≡ ledger_in (old_run (old_set_up s r times).after es)

-- "Refusal 2 reads: a marked bit without an outstanding one, or a bit outside low..next-1, in place of the old status test": of slot i,
-- whose bits stand in words of 64 bits, as the code's do
pub record StatusTest (low next : ℕ) (m : Memory) (i : ℕ) : Type 0 where
  -- in low..next-1: flying, marked or done, exactly without such a bit
  pub inside_window : in_window (slots_of m) low next i ≡ true
      → inside flying_status (status_at low next m i) done_status ≡ not (bit_at m.marked i && not (bit_at m.outstanding i))
  -- outside: status 0, exactly without any bit
  pub outside_window : in_window (slots_of m) low next i ≡ false
      → eqb (status_at low next m i) 0 ≡ not (bit_at m.outstanding i || bit_at m.marked i)

abbrev pub Refusal2Reads : Type 0
Refusal2Reads = (low next : ℕ) (m : Memory) (i : ℕ) → words_at m i ≡ true → StatusTest low next m i
