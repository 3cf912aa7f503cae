-- `after` is the next flow of n, and behind the last flow 0.
use mathlib.Core.Path.{◌≡◌, sym, ap, ◌∙◌}
use Prim.Native.Nat.{ℕ, ◌+◌, ◌%◌}
use native.Mathlib.Nat.{mod_self, mod-eq_of_lt}
use native.Mathlib.Omega.{arith}
use Rattle.context.proofs.choice.after.Goals as goal

pub returns-then-k-n : goal.returns-then-k-n
returns-then-k-n c = sym (mod-eq_of_lt (omega arith))

pub returns : goal.returns
returns c =
    let last : c.args.k + 1 ≡ c.args.n = omega arith in
    sym (ap (λ (i : ℕ). i % c.args.n) last ∙ mod_self c.args.n)
