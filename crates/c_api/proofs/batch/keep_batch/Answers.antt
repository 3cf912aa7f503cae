-- `keep_batch` stores nothing where the batch was refused; else the place, and the state where there is one.
use mathlib.Core.Path.{refl}
use Rattle.rules.specs.Branch.{so_yes, so_no, eq_yes, eq_no}
use Rattle.rules.specs.Verdict.{unrefused_zero, unaccepted_not}
use Rattle.c_api.specs.Batch.{place_then, words_then}
use Rattle.c_api.proofs.batch.keep_batch.Goals as goal

pub returns-then-is_err : goal.returns-then-is_err
unfolding place_then words_then
returns-then-is_err c =
    let n = c.number_of-number.ensures in
    let refused = unaccepted_not _ _ c.is_err.ensures.value c.if-is_err.true in
    (n, eq_no _ _ _ _ _ refused refl, eq_no _ _ _ _ _ refused refl)

pub returns-then-count-after : goal.returns-then-count-after
unfolding place_then words_then
returns-then-count-after c =
    let n = c.number_of-number.ensures in
    let z = unrefused_zero _ _ c.is_err.ensures.value c.if-is_err.false in (
      n,
      eq_yes _ _ _ _ _ z c.keep_place.ensures,
      eq_yes _ _ _ _ _ z
          (so_yes _ _ _ _ c.if-count-after.true c.store.ensures),
    )

pub returns-else-count-after : goal.returns-else-count-after
unfolding place_then words_then
returns-else-count-after c =
    let n = c.number_of-number.ensures in
    let z = unrefused_zero _ _ c.is_err.ensures.value c.if-is_err.false in
    (n, eq_yes _ _ _ _ _ z c.keep_place.ensures, eq_yes _ _ _ _ _ z (so_no _ _ _ _ c.if-count-after.false refl))
