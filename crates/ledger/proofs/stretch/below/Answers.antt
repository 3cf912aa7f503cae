-- `below` is no bit, the lowest r bits, or all 64.
use Rattle.std.proofs.Common.{◌≡◌, ℕ, ◌-◌, ◌*◌, ◌%◌, ◌^◌, ◌<◌, ap, ◌∙◌, arith, lit<, pow_pos, shl_exact}
use Rattle.ledger.proofs.Stretches.{none_below, some_below}
use Rattle.ledger.proofs.stretch.below.Goals as goal

shifted : (r : ℕ) → r < 64 → 1 * 2 ^ r % 2 ^ 64 ≡ 2 ^ r
shifted r h = shl_exact 1 r 64 (lit< tt) (omega arith) ∙ omega arith

pub returns-then-k-at : goal.returns-then-k-at
returns-then-k-at c = none_below c.args.k c.args.q (omega arith)

pub overflow_sub-result : goal.overflow_sub-result
overflow_sub-result c =
    let a = c.args in
    rw (shifted (a.k - a.q * 64) (omega arith)) (omega (arith, pow_pos (a.k - a.q * 64)))

pub returns-then-r-lt-WORD_BITS : goal.returns-then-r-lt-WORD_BITS
returns-then-r-lt-WORD_BITS c =
    let a = c.args in
    ap (λ (x : ℕ). x - 1) (shifted (a.k - a.q * 64) (omega arith))
    ∙ some_below a.k a.q (a.k - a.q * 64) (omega arith) (λ h. omega arith) (omega arith)

pub returns : goal.returns
returns c =
    let a = c.args in
    some_below a.k a.q 64 (omega arith) (λ h. omega arith) (omega arith)
