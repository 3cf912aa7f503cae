-- `keep_took` stores nothing where the chunk was refused; else what is carried, and the state where there is one.
use mathlib.Core.Path.{refl}
use Rattle.rules.specs.Branch.{so_yes, so_no, eq_yes, eq_no}
use Rattle.rules.specs.Verdict.{unrefused_zero, unaccepted_not}
use Rattle.c_api.specs.Batch.{words_then}
use Rattle.c_api.specs.Parts.{part_then}
use Rattle.c_api.proofs.parts.keep_took.Goals as goal

pub returns-then-is_err : goal.returns-then-is_err
unfolding part_then words_then
returns-then-is_err c =
    let n = c.number_of-number.ensures in
    let refused = unaccepted_not _ _ c.is_err.ensures.value c.if-is_err.true in
    (n, eq_no _ _ _ _ _ refused refl, eq_no _ _ _ _ _ refused refl)

pub returns-then-count-carry : goal.returns-then-count-carry
unfolding part_then words_then
returns-then-count-carry c =
    let n = c.number_of-number.ensures in
    let z = unrefused_zero _ _ c.is_err.ensures.value c.if-is_err.false in (
      n,
      eq_yes _ _ _ _ _ z c.keep_part.ensures,
      eq_yes _ _ _ _ _ z
          (so_yes _ _ _ _ c.if-count-carry.true c.store.ensures),
    )

pub returns-else-count-carry : goal.returns-else-count-carry
unfolding part_then words_then
returns-else-count-carry c =
    let n = c.number_of-number.ensures in
    let z = unrefused_zero _ _ c.is_err.ensures.value c.if-is_err.false in
    (n, eq_yes _ _ _ _ _ z c.keep_part.ensures, eq_yes _ _ _ _ _ z (so_no _ _ _ _ c.if-count-carry.false refl))
