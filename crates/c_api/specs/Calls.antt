-- The library's calls over lent words: each is the context's event on the state that the words are.
-- Assumes nothing.
use Rattle.std.specs.Prelude.{Bool, List, ℕ, ◌+◌, ◌*◌, ◌^◌, ◌%◌, eqb, length}
use Rattle.std.proofs.Math.Option.{Option, none, some}
use Rattle.rules.specs.Branch.{if_so, if_eq}
use Rattle.window.specs.Range.{in_range}
use Rattle.window.specs.declared.Sampling.{Sampling}
use Rattle.ledger.specs.Lent.{LentSlice, memory_after}
use Rattle.ledger.specs.Memory.{Memory}
use Rattle.context.specs.Context.{Context, context, Answered}
use Rattle.context.specs.Start.{on_set_up}
use Rattle.context.specs.Events.{on_ack, ack_says, on_nack, nack_says, on_path}
use Rattle.context.specs.declared.Controller.{Controller}
use Rattle.sender.specs.declared.Send.{Send}
use Rattle.sender.specs.declared.Ack.{Ack}
use Rattle.sender.specs.declared.Nack.{Nack}
use Rattle.sender.specs.declared.Loss.{Loss}
use Rattle.replay.specs.Batches.{kind_of, Saying, once_of}
use Rattle.replay.specs.declared.records.Event.{Event}
use Rattle.c_state.specs.Layout.{word_count, settings_count, state_words, settings_from, state_from, words_ok}

-- events from a call's arguments
abbrev pub send_by : ℕ → ℕ → Bool → Send
send_by psn size resend = record { psn = psn; size = size; resend = resend }

abbrev pub ack_by : ℕ → ℕ → ℕ → ℕ → ℕ → ℕ → Bool → Bool → Ack
ack_by cum map trigger count service ev marked retx =
    record {
      cum = cum;
      map = map;
      trigger = trigger;
      count = count;
      service = service;
      ev = ev;
      marked = marked;
      retx = retx;
    }

abbrev pub nack_by : ℕ → ℕ → ℕ → Bool → Bool → Nack
nack_by psn ev reason marked retx = record { psn = psn; ev = ev; reason = reason; marked = marked; retx = retx }

abbrev pub loss_by : ℕ → ℕ → Loss
loss_by psn ev = record { psn = psn; ev = ev }

-- the number, the state's words, the table of flows, the ring buffer and the EV times
pub record Called : Type 0 where
  pub number : ℕ
  pub words : List ℕ
  pub flows : List ℕ
  pub slots : Memory
  pub times : List ℕ

abbrev pub called : ℕ → List ℕ → List ℕ → Memory → List ℕ → Called
called n ws fs r t = record { number = n; words = ws; flows = fs; slots = r; times = t }

-- the same as a call leaves what it was lent
abbrev pub called_after : ℕ → LentSlice → LentSlice → LentSlice → LentSlice → LentSlice → LentSlice → LentSlice → Called
called_after n state flows outstanding marked sizes sent evs =
    called n state flows (memory_after outstanding marked sizes sent) evs

-- the words once an event was answered: those of the state where it was accepted, else as they were
unfoldable pub words_after : ℕ → List ℕ → Controller → List ℕ
words_after n ws after = if_eq n 0 (state_words after) ws

abbrev pub packed : List ℕ → Answered → Called
packed ws a =
    called a.number (words_after a.number ws a.after.state) a.after.flows a.after.slots a.after.times

-- an event on the state that the words are; 2 where they are none's
unfoldable pub on_words : List ℕ → List ℕ → Memory → List ℕ → (Context → Answered) → Called
on_words ws fs r t event = if_so (words_ok ws) (packed ws (event (context (state_from ws) fs r t))) (called 2 ws fs r t)

-- any event's answer as a word: the number, and the EV or the kind of a sample above its 32 bits
abbrev pub packed_word : List ℕ → Saying → Called
packed_word ws x =
    called x.word (words_after (x.word % 2 ^ 32) ws x.after.state) x.after.flows x.after.slots x.after.times

unfoldable pub on_event_words : Event → List ℕ → List ℕ → Memory → List ℕ → Called
on_event_words e ws fs r t = if_so (words_ok ws) (packed_word ws (once_of e (context (state_from ws) fs r t))) (called 2 ws fs r t)

-- ---- answers that have a second number

-- the number, what stands above its 32 bits, and the context afterwards
pub record Beside : Type 0 where
  pub number : ℕ
  pub above : ℕ
  pub after : Context

-- a path choice: the EV, 0 where it is refused
abbrev pub path_beside : ℕ → ℕ → Context → Beside
path_beside time k x = let a = on_path time k x in record { number = a.number; above = a.ev; after = a.after }

-- an ACK and a NACK: the kind of the sample, by request M-103; 0 where it is refused
unfoldable pub kind_in : Option Sampling → ℕ
kind_in none = 0
kind_in (some sampling) = kind_of sampling

abbrev pub ack_beside : ℕ → ℕ → Ack → Context → Beside
ack_beside time k e x =
    let a = on_ack time k e x in record { number = a.number; above = kind_in (ack_says time k e x); after = a.after }

abbrev pub nack_beside : ℕ → ℕ → Nack → Context → Beside
nack_beside time k e x =
    let a = on_nack time k e x in record { number = a.number; above = kind_in (nack_says time k e x); after = a.after }

abbrev pub beside_word : Beside → ℕ
beside_word a = 2 ^ 32 * a.above + a.number

abbrev pub packed_beside : List ℕ → Beside → Called
packed_beside ws a =
    called (beside_word a) (words_after a.number ws a.after.state) a.after.flows a.after.slots a.after.times

unfoldable pub on_beside_words : List ℕ → List ℕ → Memory → List ℕ → (Context → Beside) → Called
on_beside_words ws fs r t event = if_so (words_ok ws) (packed_beside ws (event (context (state_from ws) fs r t))) (called 2 ws fs r t)

-- setting up: 1, then 2 on lengths. Settings that are not twelve numbers can't be read: 2
unfoldable pub on_set_up_words : List ℕ → ℕ → ℕ → ℕ → List ℕ → List ℕ → Memory → List ℕ → Called
on_set_up_words ns psn off evs ws fs r t =
    if_so (eqb (length ns) settings_count)
    (if_so (in_range (settings_from ns psn off evs))
    (if_so (eqb (length ws) word_count) (packed ws (on_set_up (settings_from ns psn off evs) fs r t)) (called 2 ws fs r t))
    (called 1 ws fs r t))
    (called 2 ws fs r t)
