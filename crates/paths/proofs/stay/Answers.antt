-- `stay` goes one step from the cursor, which is below n and so its own remainder.
use Rattle.std.proofs.Common.{◌≡◌, ℕ, ◌+◌, ◌%◌, sym, ap, ◌∙◌, add-zero, mod-eq_of_lt, arith}
use Rattle.paths.specs.Path.{landed}
use Rattle.paths.specs.declared.Choice.{Choice}
use Rattle.paths.proofs.stay.Goals as goal

abbrev on_from : ℕ → ℕ → Choice
on_from n ev = record { ev = ev; cursor = (ev + 1) % n }

pub returns : goal.returns
unfolding landed
returns c = let a = c.args in
    let own : a.cursor ≡ (a.cursor + 0) % a.n = sym (ap (λ (k : ℕ). k % a.n) (add-zero a.cursor) ∙ mod-eq_of_lt (omega arith)) in
    rw c.wrap-next.ensures (ap (on_from a.n) own)
