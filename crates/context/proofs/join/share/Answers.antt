-- `share` divides, by one and by eight too.
use mathlib.Core.Path.{sym, ap, ◌∙◌}
use Prim.Native.Nat.{ℕ, ◌/◌}
use native.Mathlib.Nat.{div-one}
use Rattle.context.proofs.join.share.Goals as goal

pub returns-then-n-eq1 : goal.returns-then-n-eq1
returns-then-n-eq1 c = let a = c.args in sym (ap (λ (n : ℕ). a.slots / n) c.if-n-eq1.true ∙ div-one a.slots)

pub returns-then-n-eq-FLOWS_MOST : goal.returns-then-n-eq-FLOWS_MOST
returns-then-n-eq-FLOWS_MOST c = let a = c.args in sym (ap (λ (n : ℕ). a.slots / n) c.if-n-eq-FLOWS_MOST.true)
