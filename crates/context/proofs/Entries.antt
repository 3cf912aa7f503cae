-- What an entry point answers of a context that does not hold together: 2, and the context as it was.
-- Assumes nothing.
use mathlib.Core.Path.{◌≡◌, refl, ap}
use mathlib.Core.Bool.{false, not}
use mathlib.Core.List.{List}
use Prim.Native.Nat.{ℕ}
use native.Mathlib.Omega.{arith}
use Rattle.rules.specs.Branch.{eq_no}
use Rattle.rules.specs.Rows.{Row, first_of, first_here}
use Rattle.context.specs.Context.{Context, answered, routed}
use Rattle.context.specs.Sound.{sound_context}
use Rattle.context.specs.Rows.{with_sound}
use Rattle.context.specs.Events.{decided, chosen}

module _ (x : Context) (e : sound_context x ≡ false) (rows : List Row) where
  two : 2 ≡ first_of (with_sound x rows)
  two = first_here 2 2 (not (sound_context x)) rows (ap not e) refl

  pub unsound_answer : (after : Context) → answered 2 x.state x.flows x.slots x.times
      ≡ decided (first_of (with_sound x rows)) x after
  unfolding decided
  unsound_answer after =
      eq_no _ 0 _ _ _ (λ z. let n : ⊥ = omega (arith, two, z) in n) (ap (λ (n : ℕ). record { number = n; after = x }) two)

  pub unsound_route : (ev : ℕ) (after : Context) → routed 2 0 x.state x.flows x.slots x.times
      ≡ chosen (first_of (with_sound x rows)) ev x after
  unfolding chosen
  unsound_route ev after =
      eq_no _ 0 _ _ _ (λ z. let n : ⊥ = omega (arith, two, z) in n) (ap (λ (n : ℕ). record { number = n; ev = 0; after = x }) two)
