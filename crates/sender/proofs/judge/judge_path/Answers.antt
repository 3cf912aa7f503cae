-- `judge_path` tests the row of a path choice.
use mathlib.Core.Path.{refl, sym, ◌∙◌}
use Rattle.rules.specs.Verdict.{number_of}
use Rattle.rules.specs.Rows.{first_none, first_here, first_later}
use Rattle.sender.proofs.judge.judge_path.Goals as goal

pub returns-then-bad_time : goal.returns-then-bad_time
unfolding number_of
returns-then-bad_time c = first_here 3 3 _ _ (sym c.bad_time.ensures ∙ c.if-bad_time.true) refl

pub returns : goal.returns
unfolding number_of
returns c = first_later 0 3 _ _ (sym c.bad_time.ensures ∙ c.if-bad_time.false) first_none
