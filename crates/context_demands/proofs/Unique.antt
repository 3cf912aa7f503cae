-- "Prove that no two outcomes satisfy one promise": for the entry points of a context, for the same events past number 2 (`rely`), and for
-- the methods over a lent table of records. What the contracts make of an outcome has the table of flows, the ring buffer and the EV times
-- in it, and tells the outcome.
-- Assumes nothing.
use mathlib.Core.Path.{◌≡◌, refl, sym, ap, ap₂}
use mathlib.Core.List.{List}
use mathlib.Core.Option.{Option, some-injective, none-ne-some}
use Prim.Native.Nat.{ℕ}
use Rattle.std.specs.Prelude.{⊤, Result, Option as Named, Some, None}
use Rattle.std.specs.Result.{result_unwrap_or}
use Rattle.rules.specs.Unique.{OneOutcome, Tells, unique}
use Rattle.rules.specs.Verdict.{number_of}
use Rattle.rules.specs.declared.verdict.Refusal.{Refusal}
use Rattle.rules.specs.declared.verdict.Answer.{Answer}
use Rattle.rules.proofs.Verdicts.{number_tells, outcome_tells}
use Rattle.window.specs.declared.Settings.{Settings}
use Rattle.window.specs.declared.Sampling.{Sampling}
use Rattle.ledger.specs.Memory.{Memory}
use Rattle.ledger.specs.declared.Flow.{Flow}
use Rattle.sender.specs.Events.{says_of}
use Rattle.sender.specs.declared.Send.{Send}
use Rattle.sender.specs.declared.Ack.{Ack}
use Rattle.sender.specs.declared.Nack.{Nack}
use Rattle.sender.specs.declared.Loss.{Loss}
use Rattle.context.specs.Context.{Context, context, Answered, answered, Routing, routed}
use Rattle.context.specs.Start.{on_set_up}
use Rattle.context.specs.Events.{on_new_data, on_send, on_ack, ack_says, on_nack, nack_says, on_loss, on_path}
use Rattle.context.specs.Events.{past_new_data, past_send, past_ack, past_ack_says, past_nack, past_nack_says, past_loss, past_path}
use Rattle.context.specs.Look.{on_status, on_next_marked}
use Rattle.context.specs.Turns.{choice_of, named_in, Chosen, chose, on_choose}
use Rattle.context.specs.Table.{Tabled, tabled, in_records, route_answer}
use Rattle.context.specs.declared.Controller.{Controller}
use Rattle.context.specs.declared.choice.Turn.{Turn}
use Rattle.demands.proofs.Unique.{found_one, feedback_one, made_look, look_tells}

-- the whole outcome of a call: its answer, and the final contents of the table, the ring buffer and the EV times
pub record Outcomes (A : Type 0) : Type 0 where
  pub answer : A
  pub flows : List ℕ
  pub slots : Memory
  pub times : List ℕ

-- what the contracts make of it
abbrev pub made : Outcomes (Answer Controller ⊤) → Answered
made x = answered (number_of x.answer.outcome) x.answer.state x.flows x.slots x.times

abbrev pub made_route : Outcomes (Answer Controller ℕ) → Routing
made_route x = routed (number_of x.answer.outcome) (result_unwrap_or x.answer.outcome 0) x.answer.state x.flows x.slots x.times

abbrev pub made_heard : Outcomes (Answer Controller Sampling) → Answered × Option Sampling
made_heard x = (answered (number_of x.answer.outcome) x.answer.state x.flows x.slots x.times, says_of x.answer.outcome)

-- the outcome and the context afterwards make the whole
abbrev whole : {T : Type 0} → Result T Refusal → Context → Outcomes (Answer Controller T)
whole v c = record { answer = record { state = c.state; outcome = v }; flows = c.flows; slots = c.slots; times = c.times }

-- a number is one verdict's, and the rest stands there itself
made_tells : Tells made
made_tells x y e =
    ap₂ (whole {T = ⊤}) (number_tells x.answer.outcome y.answer.outcome (ap (λ (z : Answered). z.number) e))
    (ap (λ (z : Answered). z.after) e)

route_tells : Tells made_route
route_tells x y e =
    ap₂ (whole {T = ℕ})
    (found_one x.answer.outcome y.answer.outcome (ap (λ (z : Routing). z.number) e) (ap (λ (z : Routing). z.ev) e))
    (ap (λ (z : Routing). z.after) e)

heard_tells : Tells made_heard
heard_tells x y e =
    let a = ap (λ (z : Answered × Option Sampling). z.0) e in
    ap₂ (whole {T = Sampling})
    (feedback_one x.answer.outcome y.answer.outcome (ap (λ (z : Answered). z.number) a) (ap (λ (z : Answered × Option Sampling). z.1) e))
    (ap (λ (z : Answered). z.after) a)

-- a call that answers state and outcome: what it was handed
pub data Call : Type 0 where
  set_up : Settings → List ℕ → Memory → List ℕ → Call
  new_data : Context → ℕ → ℕ → ℕ → Call
  send : Context → ℕ → ℕ → Send → Call
  loss : Context → ℕ → ℕ → Loss → Call
  new_data_past : Context → ℕ → ℕ → ℕ → Call
  send_past : Context → ℕ → ℕ → Send → Call
  loss_past : Context → ℕ → ℕ → Loss → Call

-- what its contract wants
abbrev pub wanted : Call → Answered
wanted (set_up s flows m times) = on_set_up s flows m times
wanted (new_data x time k bytes) = on_new_data time k bytes x
wanted (send x time k a) = on_send time k a x
wanted (loss x time k a) = on_loss time k a x
wanted (new_data_past x time k bytes) = past_new_data time k bytes x
wanted (send_past x time k a) = past_send time k a x
wanted (loss_past x time k a) = past_loss time k a x

-- no two outcomes of `set_up`, `new_data`, `send` or `loss` satisfy its contract ..
pub calls_unique : (c : Call) → OneOutcome made (wanted c)
calls_unique c = unique made made_tells (wanted c)

module _ (x : Context) (time k : ℕ) where
  -- .. no two of `ack` or of `nack` ..
  pub ack_unique : (a : Ack)
      → OneOutcome made_heard (on_ack time k a x, ack_says time k a x) × OneOutcome made_heard (past_ack time k a x, past_ack_says time k a x)
  ack_unique a = (unique made_heard heard_tells _, unique made_heard heard_tells _)

  pub nack_unique : (a : Nack)
      → OneOutcome made_heard (on_nack time k a x, nack_says time k a x) × OneOutcome made_heard (past_nack time k a x, past_nack_says time k a x)
  nack_unique a = (unique made_heard heard_tells _, unique made_heard heard_tells _)

  -- .. no two of `path` ..
  pub path_unique : OneOutcome made_route (on_path time k x) × OneOutcome made_route (past_path time k x)
  path_unique = (unique made_route route_tells _, unique made_route route_tells _)

-- .. and no two of `status` or of `next_marked`, which are lent nothing to change
pub look_unique : (x : Context) (k psn : ℕ) → OneOutcome made_look (on_status k psn x) × OneOutcome made_look (on_next_marked k psn x)
look_unique x k psn = (unique made_look look_tells _, unique made_look look_tells _)

-- ---- a choice, which is lent nothing to change

module _ (flows : List ℕ) (m : Memory) (times : List ℕ) where
  -- what the contract makes of its answer
  abbrev pub made_choice : Answer Controller (Named Turn) → Chosen
  made_choice r = chose (number_of r.outcome) (named_in r.outcome) (context r.state flows m times)

  -- what is named tells the choice ..
  choice_one : (a b : Named Turn) → choice_of a ≡ choice_of b → a ≡ b
  unfolding choice_of
  choice_one (Some t) (Some u) q = ap Some (some-injective t u q)
  choice_one (Some t) None q = absurd (none-ne-some t (sym q))
  choice_one None (Some u) q = absurd (none-ne-some u q)
  choice_one None None q = refl

  -- .. and with the number the outcome
  named_one : (v w : Result (Named Turn) Refusal) → number_of v ≡ number_of w → named_in v ≡ named_in w → v ≡ w
  unfolding named_in
  named_one = outcome_tells named_in choice_one

  choice_tells : Tells made_choice
  choice_tells x y e =
      ap₂ (λ (v : Result (Named Turn) Refusal) (d : Controller). record { state = d; outcome = v })
      (named_one x.outcome y.outcome (ap (λ (z : Chosen). z.number) e) (ap (λ (z : Chosen). z.turn) e))
      (ap (λ (z : Chosen). z.after.state) e)

  -- no two of `choose`
  pub choose_unique : (x : Context) → OneOutcome made_choice (on_choose x)
  choose_unique x = unique made_choice choice_tells (on_choose x)

-- ---- the methods over a lent table of records

-- the whole outcome: the answer, and the final contents of the records, the ring buffer and the EV times
pub record Outtabled (A : Type 0) : Type 0 where
  pub answer : A
  pub table : List Flow
  pub slots : Memory
  pub times : List ℕ

-- what the contracts make of it; an ACK and a NACK with what is said of the sample, a path choice with the EV
abbrev pub made_tabled : Outtabled (Answer Controller ⊤) → Tabled
made_tabled x = tabled (number_of x.answer.outcome) x.answer.state x.table x.slots x.times

abbrev pub made_tabled_heard : Outtabled (Answer Controller Sampling) → Tabled × Option Sampling
made_tabled_heard x = (tabled (number_of x.answer.outcome) x.answer.state x.table x.slots x.times, says_of x.answer.outcome)

abbrev pub made_tabled_route : Outtabled (Answer Controller ℕ) → Tabled × ℕ
made_tabled_route x =
    (tabled (number_of x.answer.outcome) x.answer.state x.table x.slots x.times, result_unwrap_or x.answer.outcome 0)

-- the outcome, and the state and what is lent afterwards, make the whole
abbrev whole_tabled : {T : Type 0} → Result T Refusal → Tabled → Outtabled (Answer Controller T)
whole_tabled v z = record { answer = record { state = z.state; outcome = v }; table = z.table; slots = z.slots; times = z.times }

tabled_tells : Tells made_tabled
tabled_tells x y e =
    ap₂ (whole_tabled {T = ⊤}) (number_tells x.answer.outcome y.answer.outcome (ap (λ (z : Tabled). z.number) e)) e

tabled_heard_tells : Tells made_tabled_heard
tabled_heard_tells x y e =
    let a = ap (λ (z : Tabled × Option Sampling). z.0) e in
    ap₂ (whole_tabled {T = Sampling})
    (feedback_one x.answer.outcome y.answer.outcome (ap (λ (z : Tabled). z.number) a) (ap (λ (z : Tabled × Option Sampling). z.1) e))
    a

tabled_route_tells : Tells made_tabled_route
tabled_route_tells x y e =
    let a = ap (λ (z : Tabled × ℕ). z.0) e in
    ap₂ (whole_tabled {T = ℕ})
    (found_one x.answer.outcome y.answer.outcome (ap (λ (z : Tabled). z.number) a) (ap (λ (z : Tabled × ℕ). z.1) e)) a

-- no two outcomes of a method satisfy its contract, whatever the context x of the records' words
module _ (x : Context) (time k : ℕ) where
  pub method_new_data_unique : (bytes : ℕ) → OneOutcome made_tabled (in_records (on_new_data time k bytes x))
  method_new_data_unique bytes = unique made_tabled tabled_tells _

  pub method_send_unique : (a : Send) → OneOutcome made_tabled (in_records (on_send time k a x))
  method_send_unique a = unique made_tabled tabled_tells _

  pub method_ack_unique : (a : Ack) → OneOutcome made_tabled_heard (in_records (on_ack time k a x), ack_says time k a x)
  method_ack_unique a = unique made_tabled_heard tabled_heard_tells _

  pub method_nack_unique : (a : Nack) → OneOutcome made_tabled_heard (in_records (on_nack time k a x), nack_says time k a x)
  method_nack_unique a = unique made_tabled_heard tabled_heard_tells _

  pub method_loss_unique : (a : Loss) → OneOutcome made_tabled (in_records (on_loss time k a x))
  method_loss_unique a = unique made_tabled tabled_tells _

  pub method_path_unique : OneOutcome made_tabled_route (in_records (route_answer (on_path time k x)), (on_path time k x).ev)
  method_path_unique = unique made_tabled_route tabled_route_tells _
