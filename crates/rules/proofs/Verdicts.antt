-- What the number of a verdict tells.
-- Assumes nothing.
use Rattle.std.specs.Prelude.{◌≡◌, Result, Ok, Err}
use Rattle.std.proofs.Common.{refl, sym, ap, ◌∙◌}
use Rattle.rules.specs.Unique.{Tells}
use Rattle.rules.specs.declared.verdict.Refusal.{Refusal}
use Rattle.rules.specs.Verdict.{Verdict, number_of, verdict_of, number_back, ok_zero, err_not, err_same}

-- no two verdicts have one number
pub number_tells : Tells (λ (v : Verdict). number_of v)
number_tells v w e = sym (number_back v) ∙ ap verdict_of e ∙ number_back w

-- the refusal of a verdict, d where it is accepted
refusal_or : Refusal → Verdict → Refusal
refusal_or d (Ok x) = d
refusal_or d (Err r) = r

-- no two refusals have one number, whatever would have been given
pub refusal_tells : (T : Type 0) (q r : Refusal) → number_of {T = T} (Err q) ≡ number_of {T = T} (Err r) → q ≡ r
unfolding refusal_or
refusal_tells T q r e =
    let told = number_tells (Err q) (Err r) (err_same {T = T} _ (Err q) q refl ∙ e ∙ sym (err_same {T = T} _ (Err r) r refl)) in
    ap (refusal_or q) told

-- an outcome is told by its number and by what is read of the value that it gives
module _ {T A : Type 0} (read : Result T Refusal → A) (reads : (x y : T) → read (Ok x) ≡ read (Ok y) → x ≡ y) where
  pub outcome_tells : (v w : Result T Refusal) → number_of v ≡ number_of w → read v ≡ read w → v ≡ w
  outcome_tells (Ok x) (Ok y) n r = ap Ok (reads x y r)
  outcome_tells (Ok x) (Err q) n r = absurd (err_not (Err q) q refl (sym n ∙ ok_zero (Ok x) x refl))
  outcome_tells (Err q) (Ok y) n r = absurd (err_not (Err q) q refl (n ∙ ok_zero (Ok y) y refl))
  outcome_tells (Err p) (Err q) n r = ap Err (refusal_tells T p q n)
