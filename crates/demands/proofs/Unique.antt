-- "Prove that no two outcomes satisfy one promise": `calls_unique`, `ack_unique`, `nack_unique` and `path_unique`, for the sender's events
-- past number 2 (`rely`). Every promise is one equation, "what is made from the outcome ≡ what 01 says", and what is made tells the
-- outcome.
-- Assumes nothing.
use mathlib.Core.Path.{◌≡◌, refl, ap, ap₂}
use mathlib.Core.List.{List}
use mathlib.Core.Option.{Option, some-injective}
use Prim.Native.Nat.{ℕ}
use Rattle.std.specs.Prelude.{⊤, Result}
use Rattle.std.specs.Result.{result_unwrap_or}
use Rattle.rules.specs.Unique.{OneOutcome, Tells, unique}
use Rattle.rules.specs.Verdict.{number_of}
use Rattle.rules.specs.declared.verdict.Refusal.{Refusal}
use Rattle.rules.specs.declared.verdict.Answer.{Answer}
use Rattle.rules.proofs.Verdicts.{outcome_tells}
use Rattle.window.specs.declared.Sampling.{Sampling}
use Rattle.ledger.specs.Memory.{Memory}
use Rattle.sender.specs.World.{World, Answered, answered, Routing, routed}
use Rattle.sender.specs.Events.{says_of}
use Rattle.sender.specs.Events.{past_new_data, past_send, past_ack, past_ack_says, past_nack, past_nack_says, past_loss, past_path}
use Rattle.sender.specs.Look.{Looked, looked}
use Rattle.sender.specs.declared.Controller.{Controller}
use Rattle.sender.specs.declared.Send.{Send}
use Rattle.sender.specs.declared.Ack.{Ack}
use Rattle.sender.specs.declared.Nack.{Nack}
use Rattle.sender.specs.declared.Loss.{Loss}
use Rattle.sender.proofs.Refusals.{one_outcome, one_path}

-- the whole outcome of a call: its answer, and the final contents of the ring's memory and of the EV times
pub record Outcomes (A : Type 0) : Type 0 where
  pub answer : A
  pub slots : Memory
  pub times : List ℕ

-- what the contracts make of it
abbrev pub made : Outcomes (Answer Controller ⊤) → Answered
made x = answered (number_of x.answer.outcome) x.answer.state x.slots x.times

abbrev pub made_route : Outcomes (Answer Controller ℕ) → Routing
made_route x = routed (number_of x.answer.outcome) (result_unwrap_or x.answer.outcome 0) x.answer.state x.slots x.times

-- an ACK and a NACK: the number and what is said of the sample (request M-103)
abbrev pub made_heard : Outcomes (Answer Controller Sampling) → Answered × Option Sampling
made_heard x = (answered (number_of x.answer.outcome) x.answer.state x.slots x.times, says_of x.answer.outcome)

-- a look at the ring, which is lent nothing to change (request M-109)
abbrev pub made_look : Result ℕ Refusal → Looked
made_look v = looked (number_of v) (result_unwrap_or v 0)

-- a number, and the EV or what is found, 0 where it is refused, are one outcome's
pub found_one : (v w : Result ℕ Refusal) → number_of v ≡ number_of w → result_unwrap_or v 0 ≡ result_unwrap_or w 0 → v ≡ w
found_one = outcome_tells (λ (v : Result ℕ Refusal). result_unwrap_or v 0) (λ x y e. e)

-- a number and what is said are one outcome's
pub feedback_one : (f g : Result Sampling Refusal) → number_of f ≡ number_of g → says_of f ≡ says_of g → f ≡ g
unfolding says_of
feedback_one = outcome_tells says_of some-injective

-- the outcome and the world afterwards make the whole
abbrev whole : {T : Type 0} → Result T Refusal → World → Outcomes (Answer Controller T)
whole v w = record { answer = record { state = w.state; outcome = v }; slots = w.slots; times = w.times }

-- a number is one verdict's, and the rest stands there itself
made_tells : Tells made
made_tells x y e =
    let one = one_outcome (made y) x.answer.outcome y.answer.outcome x.answer.state y.answer.state x.slots y.slots
    x.times y.times e refl in
    ap₂ (whole {T = ⊤}) one.0 one.1

route_tells : Tells made_route
route_tells x y e =
    let one = one_path (made_route y) x.answer.outcome y.answer.outcome x.answer.state y.answer.state x.slots y.slots
    x.times y.times e refl in
    ap₂ (whole {T = ℕ}) one.0 one.1

heard_tells : Tells made_heard
heard_tells x y e =
    let a = ap (λ (z : Answered × Option Sampling). z.0) e in
    ap₂ (whole {T = Sampling})
    (feedback_one x.answer.outcome y.answer.outcome (ap (λ (z : Answered). z.number) a) (ap (λ (z : Answered × Option Sampling). z.1) e))
    (ap (λ (z : Answered). z.after) a)

pub look_tells : Tells made_look
look_tells x y e = found_one x y (ap (λ (z : Looked). z.number) e) (ap (λ (z : Looked). z.found) e)

-- a call that answers state and outcome: what it was handed
pub data Call : Type 0 where
  new_data : World → ℕ → ℕ → Call
  send : World → ℕ → Send → Call
  loss : World → ℕ → Loss → Call

-- what its contract wants
abbrev pub wanted : Call → Answered
wanted (new_data w time bytes) = past_new_data time bytes w
wanted (send w time a) = past_send time a w
wanted (loss w time a) = past_loss time a w

-- no two outcomes of `new_data`, `send` or `loss` satisfy its contract ..
pub calls_unique : (c : Call) → OneOutcome made (wanted c)
calls_unique c = unique made made_tells (wanted c)

-- .. no two of `ack` or of `nack` ..
pub ack_unique : (w : World) (time : ℕ) (a : Ack) → OneOutcome made_heard (past_ack time a w, past_ack_says time a w)
ack_unique w time a = unique made_heard heard_tells (past_ack time a w, past_ack_says time a w)

pub nack_unique : (w : World) (time : ℕ) (a : Nack) → OneOutcome made_heard (past_nack time a w, past_nack_says time a w)
nack_unique w time a = unique made_heard heard_tells (past_nack time a w, past_nack_says time a w)

-- .. and no two of `path`
pub path_unique : (w : World) (time : ℕ) → OneOutcome made_route (past_path time w)
path_unique w time = unique made_route route_tells (past_path time w)
