-- `bytes_in` takes the lowest bit out and adds its slot: by its invariant what is added and what is left make the whole.
use Rattle.std.proofs.Common.{◌≡◌, ℕ, ◌+◌, ◌*◌, ◌%◌, ◌^◌, ◌<◌, get_or, ap, ◌∙◌, arith}
use Rattle.rules.specs.Branch.{if_so}
use Rattle.bits.specs.Bits.{bit, without, sum_to}
use Rattle.bits.proofs.Words.{word_true, without_word}
use Rattle.ledger.specs.Memory.{size_in}
use Rattle.ledger.specs.Delivery.{sizes_of}
use Rattle.ledger.proofs.Stretches.{sizes_few, some_bit, take_lowest, none_adds}
use Rattle.ledger.proofs.stretch.bytes_in.Goals as goal
use Rattle.ledger.proofs.stretch.bytes_in.Goals.{After-first-j, After-size_in}

-- the lowest bit of what is left
here : (c : After-first-j) → c.first-j.result < 64
here c =
    let l = c.loop-left in
    omega (arith, some_bit l.left l.invariant.0 c.loop-left-test.true, c.first-j.ensures)

step : (c : After-first-j) (adds : ℕ → ℕ) → let w = c.loop-left.left in
    sum_to (λ j. if_so (bit w j) (adds j) 0) 64
    ≡ sum_to (λ j. if_so (bit (without w (1 * 2 ^ c.first-j.result % 2 ^ 64)) j) (adds j) 0) 64 + adds c.first-j.result
step c adds =
    let l = c.loop-left in
    rw c.first-j.ensures.0 (take_lowest l.left l.invariant.0 c.loop-left-test.true adds)

-- its slot's size leaves what is left
added : (c : After-size_in) → let w = c.loop-left.left in
    let a = c.args in
    sizes_of (bit w) a.sizes.now a.q
    ≡ sizes_of (bit (without w (1 * 2 ^ c.first-j.result % 2 ^ 64))) a.sizes.now a.q + c.size_in.result
unfolding sizes_of
added c =
    let step : (adds : ℕ → ℕ)
    → let w = c.loop-left.left in
    sum_to (λ j. if_so (bit w j) (adds j) 0) 64
    ≡ sum_to (λ j. if_so (bit (without w (1 * 2 ^ c.first-j.result % 2 ^ 64)) j) (adds j) 0) 64 + adds c.first-j.result = λ adds. let l = c.loop-left in
    rw c.first-j.ensures.0 (take_lowest l.left l.invariant.0 c.loop-left-test.true adds) in
    let a = c.args in
    rw c.size_in.ensures.0 (step (λ j. size_in (get_or a.sizes.now (a.q * 64 + j) 0)))

pub loop-left-init : goal.loop-left-init
loop-left-init c = (omega arith, omega arith)

pub bounds-sizes-q : goal.bounds-sizes-q
bounds-sizes-q c = omega (arith, here (goal.at.bounds-sizes-q c).After-first-j)

pub overflow_add-bytes : goal.overflow_add-bytes
overflow_add-bytes c =
    let l = c.loop-left in
    let a = c.args in
    omega (arith, l.invariant.1, sizes_few (bit a.hit) a.sizes.now a.q, added (goal.at.overflow_add-bytes c).After-size_in)

pub overflow_shl-j : goal.overflow_shl-j
overflow_shl-j c = here (goal.at.overflow_shl-j c).After-first-j

pub loop-left-smaller : goal.loop-left-smaller
loop-left-smaller c =
    let l = c.loop-left in
    rw c.clear-left.ensures (omega (arith, step (goal.at.loop-left-smaller c).After-first-j (λ j. 1)))

pub loop-left-preserved : goal.loop-left-preserved
loop-left-preserved c =
    let l = c.loop-left in
    rw c.clear-left.ensures (word_true _ (without_word _ _), omega (arith, l.invariant.1, added (goal.at.loop-left-preserved c).After-size_in))

pub returns : goal.returns
unfolding sizes_of
returns c =
    let l = c.loop-left in
    let a = c.args in
    let none : sizes_of (bit l.left) a.sizes.now a.q ≡ 0 =
    ap (λ (w : ℕ). sizes_of (bit w) a.sizes.now a.q) c.loop-left-test.false
    ∙ none_adds (λ j. size_in (get_or a.sizes.now (a.q * 64 + j) 0)) in
    (omega arith, omega (arith, sizes_few (bit a.hit) a.sizes.now a.q))
