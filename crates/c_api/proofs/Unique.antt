-- "Prove that no two outcomes satisfy one promise": of each call from C. An outcome is the number or the word that is answered, with the
-- final contents of everything that is lent; the contracts name each part as it is, and the law is named for the call. Assumes nothing.
use mathlib.Core.Path.{refl}
use mathlib.Core.Bool.{Bool}
use mathlib.Core.List.{List}
use Prim.Native.Nat.{ℕ}
use Rattle.ledger.specs.Memory.{Memory}
use Rattle.context.specs.Events.{on_new_data, on_send, on_loss}
use Rattle.rules.specs.Unique.{OneOutcome, one_outcome, unique_plain}
use Rattle.c_api.specs.Calls.{send_by, ack_by, nack_by, loss_by, Called, called, on_words, path_beside, ack_beside, nack_beside}
use Rattle.c_api.specs.Calls.{on_beside_words, on_set_up_words}
use Rattle.c_api.specs.Turns.{Choosing, choosing, on_choose_words}
use Rattle.c_api.specs.Plans.{on_judge_words, PlanCalled, plan_called, on_plan_words}
use Rattle.c_api.specs.Batch.{Replayed, replay_called, on_replay_words}
use Rattle.c_api.specs.Parts.{Chunked, chunk_called, on_chunk_words}

-- ---- setting up and the events

pub record Outcome : Type 0 where
  pub number : ℕ
  pub state : List ℕ
  pub flows : List ℕ
  pub slots : Memory
  pub evs : List ℕ

-- what the contracts make of it
abbrev pub made : Outcome → Called
made x = called x.number x.state x.flows x.slots x.evs

abbrev back : Called → Outcome
back c = record { number = c.number; state = c.words; flows = c.flows; slots = c.slots; evs = c.times }

call_unique : (wanted : Called) → OneOutcome made wanted
call_unique = one_outcome made back (λ x. refl)

-- handed the words of a state, a table of flows, a ring buffer and EV times; of flow k
module _ (ws fs : List ℕ) (r : Memory) (t : List ℕ) where
  pub set_up_unique : (settings : List ℕ) (psn off : ℕ) (evs : ℕ) → OneOutcome made (on_set_up_words settings psn off evs ws fs r t)
  set_up_unique settings psn off evs = call_unique _

  pub new_data_unique : (time k bytes : ℕ) → OneOutcome made (on_words ws fs r t (on_new_data time k bytes))
  new_data_unique time k bytes = call_unique _

  pub send_unique : (time k psn bytes : ℕ) (resend : Bool)
      → OneOutcome made (on_words ws fs r t (on_send time k (send_by psn bytes resend)))
  send_unique time k psn bytes resend = call_unique _

  pub ack_unique : (time k cum map trigger count service ev : ℕ) (marked retx : Bool)
      → OneOutcome made (on_beside_words ws fs r t (ack_beside time k (ack_by cum map trigger count service ev marked retx)))
  ack_unique time k cum map trigger count service ev marked retx = call_unique _

  pub nack_unique : (time k psn ev reason : ℕ) (marked retx : Bool)
      → OneOutcome made (on_beside_words ws fs r t (nack_beside time k (nack_by psn ev reason marked retx)))
  nack_unique time k psn ev reason marked retx = call_unique _

  pub loss_unique : (time k psn ev : ℕ) → OneOutcome made (on_words ws fs r t (on_loss time k (loss_by psn ev)))
  loss_unique time k psn ev = call_unique _

  pub path_unique : (time k : ℕ) → OneOutcome made (on_beside_words ws fs r t (path_beside time k))
  path_unique time k = call_unique _

-- ---- a choice, which has the table, the ring buffer and the EV times to read only

pub record ChoiceOutcome : Type 0 where
  pub number : ℕ
  pub state : List ℕ
  pub turn : List ℕ

abbrev pub made_choice : ChoiceOutcome → Choosing
made_choice x = choosing x.number x.state x.turn

abbrev back_choice : Choosing → ChoiceOutcome
back_choice c = record { number = c.number; state = c.words; turn = c.turn }

pub choose_unique : (ws fs : List ℕ) (r : Memory) (t turn : List ℕ) → OneOutcome made_choice (on_choose_words ws fs r t turn)
choose_unique ws fs r t turn = one_outcome made_choice back_choice (λ x. refl) _

-- ---- planned sends: a judgement is lent nothing to change, a planning the plan only

pub judge_unique : (time : ℕ) (plan ws fs : List ℕ) (r : Memory) (t : List ℕ)
    → OneOutcome (λ (word : ℕ). word) (on_judge_words time plan ws fs r t)
judge_unique time plan ws fs r t = unique_plain (on_judge_words time plan ws fs r t)

pub record PlanOutcome : Type 0 where
  pub word : ℕ
  pub plan : List ℕ

abbrev pub made_plan : PlanOutcome → PlanCalled
made_plan x = plan_called x.word x.plan

abbrev back_plan : PlanCalled → PlanOutcome
back_plan c = record { word = c.word; plan = c.plan }

pub plan_unique : (time size : ℕ) (plan ws fs : List ℕ) (r : Memory) (t : List ℕ)
    → OneOutcome made_plan (on_plan_words time size plan ws fs r t)
plan_unique time size plan ws fs r t = one_outcome made_plan back_plan (λ x. refl) _

-- ---- a replay, and a replay in chunks

pub record ReplayOutcome : Type 0 where
  pub number : ℕ
  pub place : List ℕ
  pub state : List ℕ
  pub flows : List ℕ
  pub slots : Memory
  pub evs : List ℕ
  pub answers : List ℕ

abbrev pub made_replay : ReplayOutcome → Replayed
made_replay x = replay_called x.number x.place x.state x.flows x.slots x.evs x.answers

abbrev back_replay : Replayed → ReplayOutcome
back_replay c = record {
  number = c.number;
  place = c.place;
  state = c.words;
  flows = c.flows;
  slots = c.slots;
  evs = c.times;
  answers = c.answers;
}

pub replay_unique : (log place ws fs : List ℕ) (r : Memory) (t answers : List ℕ) → OneOutcome made_replay (on_replay_words log
    place ws fs r t answers)
replay_unique log place ws fs r t answers = one_outcome made_replay back_replay (λ x. refl) _

pub record ChunkOutcome : Type 0 where
  pub number : ℕ
  pub part : List ℕ
  pub piece : List ℕ
  pub state : List ℕ
  pub flows : List ℕ
  pub slots : Memory
  pub evs : List ℕ
  pub answers : List ℕ

abbrev pub made_chunk : ChunkOutcome → Chunked
made_chunk x = chunk_called x.number x.part x.piece x.state x.flows x.slots x.evs x.answers

abbrev back_chunk : Chunked → ChunkOutcome
back_chunk c =
    record {
      number = c.number;
      part = c.part;
      piece = c.piece;
      state = c.words;
      flows = c.flows;
      slots = c.slots;
      evs = c.times;
      answers = c.answers;
    }

pub chunk_unique : (chunk : List ℕ) (ended : Bool) (part piece ws fs : List ℕ) (r : Memory) (t answers : List ℕ)
    → OneOutcome made_chunk (on_chunk_words chunk ended part piece ws fs r t answers)
chunk_unique chunk ended part piece ws fs r t answers = one_outcome made_chunk back_chunk (λ x. refl) _
