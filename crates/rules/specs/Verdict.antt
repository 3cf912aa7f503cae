-- The number that document 01's table, as the requests amend it, gives each refusal. "Accepted is 0."
-- Assumes nothing.
use Rattle.std.specs.Prelude.{◌≡◌, refl, Bool, true, false, cond, ℕ, ◌≤◌, eqb, ⊤, Result, Ok, Err, is_ok, is_err}
use Rattle.std.proofs.Common.{sym, ap, ◌∙◌, arith, subst, ne_eqb}
use Rattle.rules.specs.declared.verdict.Refusal.{Refusal}
use Rattle.rules.specs.declared.verdict.Refusal.TheVariants.{Setting, Unsound, Time, Size, Backlog, WindowFull, RingFull}
use Rattle.rules.specs.declared.verdict.Refusal.TheVariants.{WrongPsn, UnsentOrOld, NotFlying, Sinks, Malformed, NoRoom}
use Rattle.rules.specs.declared.verdict.Refusal.TheVariants.{Bytes, Count, Reason, Ev, Trigger, Flow, PlanTooLong, LogTooLong}

unfoldable pub number_of : {T : Type 0} → Result T Refusal → ℕ
number_of (Ok x) = 0
number_of (Err Setting) = 1
number_of (Err Unsound) = 2
number_of (Err Time) = 3
number_of (Err Size) = 4
number_of (Err Backlog) = 5
number_of (Err WindowFull) = 6
number_of (Err RingFull) = 7
number_of (Err WrongPsn) = 8
number_of (Err UnsentOrOld) = 9
number_of (Err NotFlying) = 10
number_of (Err Sinks) = 11
number_of (Err Malformed) = 12
number_of (Err NoRoom) = 13
number_of (Err Bytes) = 20
number_of (Err Count) = 21
number_of (Err Reason) = 22
number_of (Err Ev) = 23
number_of (Err Trigger) = 24
number_of (Err Flow) = 25
number_of (Err PlanTooLong) = 27
number_of (Err LogTooLong) = 28

-- a refusal by itself
abbrev pub refused_number : Refusal → ℕ
refused_number r = number_of {T = ⊤} (Err r)

-- accepted, or refused: what a judge answers
abbrev pub Verdict : Type 0
Verdict = Result ⊤ Refusal

-- the refusal and the verdict of a number: for the laws that read an outcome back, no code does
unfoldable pub refusal_of : ℕ → Refusal
refusal_of n =
    cond (eqb n 1) Setting
    (cond (eqb n 2) Unsound
    (cond (eqb n 3) Time
    (cond (eqb n 4) Size
    (cond (eqb n 5) Backlog
    (cond (eqb n 6) WindowFull
    (cond (eqb n 7) RingFull
    (cond (eqb n 8) WrongPsn
    (cond (eqb n 9) UnsentOrOld
    (cond (eqb n 10) NotFlying
    (cond (eqb n 11) Sinks
    (cond (eqb n 12) Malformed
    (cond (eqb n 13) NoRoom
    (cond (eqb n 20) Bytes
    (cond (eqb n 21) Count
    (cond (eqb n 22) Reason
    (cond (eqb n 23) Ev
    (cond (eqb n 24) Trigger
    (cond (eqb n 25) Flow
    (cond (eqb n 27) PlanTooLong LogTooLong)))))))))))))))))))

unfoldable pub verdict_of : ℕ → Verdict
verdict_of n = cond (eqb n 0) (Ok tt) (Err (refusal_of n))

pub number_back : (v : Verdict) → verdict_of (number_of v) ≡ v
unfolding number_of verdict_of refusal_of
number_back (Ok x) = refl
number_back (Err Setting) = refl
number_back (Err Unsound) = refl
number_back (Err Time) = refl
number_back (Err Size) = refl
number_back (Err Backlog) = refl
number_back (Err WindowFull) = refl
number_back (Err RingFull) = refl
number_back (Err WrongPsn) = refl
number_back (Err UnsentOrOld) = refl
number_back (Err NotFlying) = refl
number_back (Err Sinks) = refl
number_back (Err Malformed) = refl
number_back (Err NoRoom) = refl
number_back (Err Bytes) = refl
number_back (Err Count) = refl
number_back (Err Reason) = refl
number_back (Err Ev) = refl
number_back (Err Trigger) = refl
number_back (Err Flow) = refl
number_back (Err PlanTooLong) = refl
number_back (Err LogTooLong) = refl

-- a refusal has one number, whatever would have been given
number_err : (T U : Type 0) (r : Refusal) → number_of {T = T} (Err r) ≡ number_of {T = U} (Err r)
unfolding number_of
number_err T U Setting = refl
number_err T U Unsound = refl
number_err T U Time = refl
number_err T U Size = refl
number_err T U Backlog = refl
number_err T U WindowFull = refl
number_err T U RingFull = refl
number_err T U WrongPsn = refl
number_err T U UnsentOrOld = refl
number_err T U NotFlying = refl
number_err T U Sinks = refl
number_err T U Malformed = refl
number_err T U NoRoom = refl
number_err T U Bytes = refl
number_err T U Count = refl
number_err T U Reason = refl
number_err T U Ev = refl
number_err T U Trigger = refl
number_err T U Flow = refl
number_err T U PlanTooLong = refl
number_err T U LogTooLong = refl

pub err_same : {T : Type 0} (U : Type 0) (v : Result T Refusal) (r : Refusal) → v ≡ Err r → number_of {T = U} (Err r) ≡ number_of v
err_same {T} U v r e = number_err U T r ∙ ap number_of (sym e)

not_both : true ≡ false → ⊥
not_both e = subst (λ (t : Bool). cond t (Unit {0}) ⊥) e tt

refused_least : (T : Type 0) (r : Refusal) → 1 ≤ number_of {T = T} (Err r)
unfolding number_of
refused_least T Setting = omega arith
refused_least T Unsound = omega arith
refused_least T Time = omega arith
refused_least T Size = omega arith
refused_least T Backlog = omega arith
refused_least T WindowFull = omega arith
refused_least T RingFull = omega arith
refused_least T WrongPsn = omega arith
refused_least T UnsentOrOld = omega arith
refused_least T NotFlying = omega arith
refused_least T Sinks = omega arith
refused_least T Malformed = omega arith
refused_least T NoRoom = omega arith
refused_least T Bytes = omega arith
refused_least T Count = omega arith
refused_least T Reason = omega arith
refused_least T Ev = omega arith
refused_least T Trigger = omega arith
refused_least T Flow = omega arith
refused_least T PlanTooLong = omega arith
refused_least T LogTooLong = omega arith

-- a row's number is not 0 and not past the table's last; what a test of an answer tells: `is_ok` or `is_err` answers b
module _ {T : Type 0} where
  pub number_most : (v : Result T Refusal) → number_of v ≤ 28
  unfolding number_of
  number_most (Ok x) = omega arith
  number_most (Err Setting) = omega arith
  number_most (Err Unsound) = omega arith
  number_most (Err Time) = omega arith
  number_most (Err Size) = omega arith
  number_most (Err Backlog) = omega arith
  number_most (Err WindowFull) = omega arith
  number_most (Err RingFull) = omega arith
  number_most (Err WrongPsn) = omega arith
  number_most (Err UnsentOrOld) = omega arith
  number_most (Err NotFlying) = omega arith
  number_most (Err Sinks) = omega arith
  number_most (Err Malformed) = omega arith
  number_most (Err NoRoom) = omega arith
  number_most (Err Bytes) = omega arith
  number_most (Err Count) = omega arith
  number_most (Err Reason) = omega arith
  number_most (Err Ev) = omega arith
  number_most (Err Trigger) = omega arith
  number_most (Err Flow) = omega arith
  number_most (Err PlanTooLong) = omega arith
  number_most (Err LogTooLong) = omega arith

  -- and what its case tells
  pub ok_zero : (v : Result T Refusal) (x : T) → v ≡ Ok x → number_of v ≡ 0
  unfolding number_of
  ok_zero v x e = rw e refl

  pub err_not : (v : Result T Refusal) (r : Refusal) → v ≡ Err r → number_of v ≡ 0 → ⊥
  err_not v r e z = omega (arith, refused_least T r, ap number_of e, z)

  pub ok_test : (v : Result T Refusal) → is_ok v ≡ eqb (number_of v) 0
  unfolding number_of
  ok_test (Ok x) = refl
  ok_test (Err r) = sym (ne_eqb (number_of {T = T} (Err r)) 0 (err_not (Err r) r refl))

  pub accepted_zero : (v : Result T Refusal) (b : Bool) → b ≡ is_ok v → b ≡ true → number_of v ≡ 0
  unfolding number_of
  accepted_zero (Ok x) b e t = refl
  accepted_zero (Err r) b e t = absurd (not_both (sym t ∙ e))

  pub refused_not : (v : Result T Refusal) (b : Bool) → b ≡ is_ok v → b ≡ false → number_of v ≡ 0 → ⊥
  refused_not (Ok x) b e f z = not_both (sym e ∙ f)
  refused_not (Err r) b e f z = omega (arith, refused_least T r, z)

  pub unrefused_zero : (v : Result T Refusal) (b : Bool) → b ≡ is_err v → b ≡ false → number_of v ≡ 0
  unfolding number_of
  unrefused_zero (Ok x) b e f = refl
  unrefused_zero (Err r) b e f = absurd (not_both (sym e ∙ f))

  pub unaccepted_not : (v : Result T Refusal) (b : Bool) → b ≡ is_err v → b ≡ true → number_of v ≡ 0 → ⊥
  unaccepted_not (Ok x) b e t z = not_both (sym t ∙ e)
  unaccepted_not (Err r) b e t z = omega (arith, refused_least T r, z)
