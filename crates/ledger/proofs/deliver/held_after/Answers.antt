-- `deliver::held_after` meets its contract: by the two sides of its test.
use Rattle.std.proofs.Common.{sym, refl, ◌∙◌}
use Rattle.rules.specs.Branch.{so_yes, so_no}
use Rattle.ledger.specs.Steps.{held_of}
use Rattle.ledger.proofs.deliver.held_after.Goals as goal

pub returns-then-is_old : goal.returns-then-is_old
unfolding held_of
returns-then-is_old c = so_yes _ _ _ _ (sym c.is_old.ensures ∙ c.if-is_old.true) refl

pub returns : goal.returns
unfolding held_of
returns c = so_no _ _ _ _ (sym c.is_old.ensures ∙ c.if-is_old.false) refl
