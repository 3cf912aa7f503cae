-- "Prove that no two outcomes satisfy one promise": of `tally`. Its outcome is the answer with the final contents of the
-- flows' records, the ring, the EV times and the figures.
-- Assumes nothing.
use mathlib.Core.List.{List}
use Prim.Native.Nat.{ℕ}
use Rattle.ledger.specs.Memory.{Memory}
use Rattle.context.specs.Context.{Context}
use Rattle.replay.specs.Places.{feed}
use Rattle.replay.specs.declared.Place.{Place}
use Rattle.replay.specs.declared.Source.{Source}
use Rattle.rules.specs.Unique.{OneOutcome, one_outcome}
use Rattle.rules.specs.Verdict.{number_of, verdict_of, number_back}
use Rattle.replay_report.specs.Tallies.{Tallying, tallying, tally_of}
use Rattle.replay_report.specs.declared.Tallied.{Tallied}

pub record Outcome : Type 0 where
  pub answer : Tallied
  pub flows : List ℕ
  pub slots : Memory
  pub times : List ℕ
  pub figures : List ℕ

-- what the contract makes of it
abbrev pub made : Outcome → Tallying
made x = tallying (number_of x.answer.verdict) x.answer.place x.answer.state x.flows x.slots x.times x.figures

abbrev back : Tallying → Outcome
back t =
    record {
      answer = record { verdict = verdict_of t.number; place = t.place; state = t.after.state };
      flows = t.after.flows;
      slots = t.after.slots;
      times = t.after.times;
      figures = t.figures;
    }

pub tally_unique : (source : Source) (p : Place) (w : Context) (log figures : List ℕ)
    → OneOutcome made (tally_of (feed source log) p w figures)
tally_unique source p w log figures = one_outcome made back (λ x. rw (number_back x.answer.verdict))
    (tally_of (feed source log) p w figures)
