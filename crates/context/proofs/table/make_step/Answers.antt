-- `make_step` lends the records' words to the event; what it asks of the call makes what is left records again (proofs/Tables).
use mathlib.Core.Path.{refl, ap, ◌∙◌}
use mathlib.Core.List.{List}
use Prim.Native.Nat.{ℕ}
use Rattle.rules.specs.Verdict.{number_of}
use Rattle.ledger.specs.Memory.{memory}
use Rattle.flow_table.proofs.Eight.{eight}
use Rattle.flow_table.specs.declared.lent.Flows.{Flows}
use Rattle.context.specs.Context.{context}
use Rattle.context.specs.Table.{stepped}
use Rattle.context.proofs.Tables.{Lends, step_fits, step_given, step_left}
use Rattle.context.proofs.table.make_step.Goals as goal
use Rattle.context.proofs.table.make_step.Goals.{After-event-answer}

-- the words of the records that there are, lent to the event
lends : (g : _) (c : After-event-answer g) → Lends c.args.fs c.to_words-words.result c.event-answer.new.arg2
lends g c =
    record {
      words = c.to_words-words.ensures.0;
      eight = eight c.args.fs _ c.well_formed.1.0;
      few = c.if-fs-gt-FLOWS_MOST.false;
      keeps = c.requires.keeps _ _ _ _ _ _ _ _ _ _ _ _ _ c.event-answer.ensures;
    }

pub from_words-flows-requires-clause-all_fit : goal.from_words-flows-requires-clause-all_fit
from_words-flows-requires-clause-all_fit g c =
    (step_fits (lends g (goal.at.from_words-flows-requires-clause-all_fit g c).After-event-answer) c.to_words-words.ensures.1).1

pub returns-then-fs-gt-FLOWS_MOST-clause-many : goal.returns-then-fs-gt-FLOWS_MOST-clause-many
unfolding number_of
returns-then-fs-gt-FLOWS_MOST-clause-many g c _ = (refl, refl)

pub returns-clause-called : goal.returns-clause-called
returns-clause-called g c few =
    let a = c.args in
    let L = lends g (goal.at.returns-clause-called g c).After-event-answer in
    let r = c.event-answer in (
      _,
      _,
      _,
      _,
      _,
      _,
      _,
      _,
      _,
      _,
      _,
      _,
      r.ensures,
      ap (λ (ws : List ℕ). context a.c ws (memory a.outstanding.now a.marked.now a.sizes.now a.sent.now) a.evs.now) (step_given L),
      ap (λ (fs : Flows). stepped (number_of r.result.outcome) r.result.state fs (memory r.new.arg3 r.new.arg4 r.new.arg5 r.new.arg6) r.new.arg7)
          (c.from_words-flows.ensures ∙ step_left L),
    )
