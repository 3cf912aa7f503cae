-- Differences modulo M, once for every width, by remainders with their quotients written out.
-- Assumes nothing.
use Rattle.std.proofs.Common.{◌≡◌, ℕ, zero, ◌+◌, ◌-◌, ◌*◌, ◌/◌, ◌%◌, ◌<◌, ◌≤◌, ◌⊎◌, sym, ap, ◌∙◌, inl, inr, ⊎_elim, mod-lt, mod-eq_of_lt, mul_assoc, div-add-mod', arith}
use mathlib.Core.Logic.{by_cases}
use native.Mathlib.Nat.{add-mul-mod_self_right}
use native.Mathlib.Decide.{dec_le}
use Rattle.serial.specs.Wrap.{minus}

-- a difference is below M
pub minus_lt : (M a b : ℕ) → zero < M → minus M a b < M
unfolding minus
minus_lt M a b h = mod-lt (a + (M - b % M)) h

-- a - b is the one number below M that b added to gives a, but for whole turns of M
pub minus_is : (M r a b p q : ℕ) → r < M → r + b + p * M ≡ a + q * M → r ≡ minus M a b
unfolding minus
minus_is M r a b p q h e =
    let l : b % M < M = mod-lt b (omega arith) in
    let s : r + (b / M + p + 1) * M ≡ (a + (M - b % M)) + q * M = omega (arith, div-add-mod' b M) in
    sym (mod-eq_of_lt h)
    ∙ sym (add-mul-mod_self_right r (b / M + p + 1) M)
    ∙ ap (λ (x : ℕ). x % M) s
    ∙ add-mul-mod_self_right (a + (M - b % M)) q M

-- how often the sum by which `minus` is computed goes round
abbrev pub laps : ℕ → ℕ → ℕ → ℕ
laps M a b = (a + (M - b % M)) / M

-- a difference with its turns written out: linear where M is a number
pub minus_turns : (M a b : ℕ) → zero < M → minus M a b + b + laps M a b * M ≡ a + (b / M + 1) * M
unfolding minus
minus_turns M a b h =
    let l : b % M < M = mod-lt b h in
    omega (arith, div-add-mod' b M, div-add-mod' (a + (M - b % M)) M)

-- what a machine's wrapping difference, modulo k times M, leaves modulo M
pub minus_of : (M k w a b : ℕ) → zero < M → (w + b) % (k * M) ≡ a → w % M ≡ minus M a b
minus_of M k w a b h e =
    minus_is M (w % M) a b (w / M) ((w + b) / (k * M) * k) (mod-lt w h)
    (omega (arith, div-add-mod' w M, div-add-mod' (w + b) (k * M), mul_assoc ((w + b) / (k * M)) k M))

-- b and a - b make a
pub minus_back : (M a b : ℕ) → a < M → (b + minus M a b) % M ≡ a
minus_back M a b h =
    sym (add-mul-mod_self_right (b + minus M a b) (laps M a b) M)
    ∙ ap (λ (x : ℕ). x % M) (omega (arith, minus_turns M a b (omega arith)))
    ∙ add-mul-mod_self_right a (b / M + 1) M
    ∙ mod-eq_of_lt h

-- nothing lies between a number and itself
pub minus_self : (M a : ℕ) → zero < M → minus M a a ≡ 0
minus_self M a h = sym (minus_is M 0 a a 0 0 h (omega arith))

-- a - b where b is below M
pub minus_below : (M a b : ℕ) → b < M → minus M a b ≡ (a + (M - b)) % M
unfolding minus
minus_below M a b h = ap (λ (x : ℕ). (a + (M - x)) % M) (mod-eq_of_lt h)

-- the two ways to read a - b: no turn where b is at most a, one turn where it is more
pub minus_read : (M a b : ℕ) → a < M → b < M → ((b ≤ a) × (minus M a b + b ≡ a)) ⊎ ((a < b) × (minus M a b + b ≡ a + M))
minus_read M a b ha hb =
    by_cases (dec_le b a)
    (λ h. inl (h, omega (arith, minus_is M (a - b) a b 0 0 (omega arith) (omega arith))))
    (λ h. inr (omega arith, omega (arith, minus_is M (a + M - b) a b 0 1 (omega arith) (omega arith))))

-- two numbers with nothing between them are one
pub minus_none : (M a b : ℕ) → a < M → b < M → minus M a b ≡ 0 → b ≡ a
minus_none M a b ha hb e = ⊎_elim (λ r. omega arith) (λ r. omega arith) (minus_read M a b ha hb)

-- how far b lies behind n, less how far a does, is a - b, but for whole turns
behind : (M n a b r k : ℕ) → r < M → r + minus M n a ≡ minus M n b + k * M → r ≡ minus M a b
behind M n a b r k l e =
    minus_is M r a b (laps M n b + (a / M + 1)) (k + laps M n a + (b / M + 1)) l
    (omega (arith, minus_turns M n a (omega arith), minus_turns M n b (omega arith)))

-- THE FACT. Take two numbers that lie less than H behind n, where 2H is at most M. Where a is no farther behind than b, a - b is the plain
-- difference of how far they lie behind, so below H; else a - b is at least H. Counts: M = 2^24, H = 2^23. PSNs: M = 2^32, H = 2^30 + 1.
module _ (M H n a b : ℕ) (hM : H + H ≤ M) (da : minus M n a < H) (db : minus M n b < H) where
  pub wrap : (minus M n a ≤ minus M n b → minus M a b + minus M n a ≡ minus M n b) × (minus M n b < minus M n a → H ≤ minus M a b)
  wrap = (
    λ le. omega (arith, behind M n a b (minus M n b - minus M n a) 0 (omega arith) (omega arith)),
    λ lt. omega (arith, behind M n a b (minus M n b + M - minus M n a) 1 (omega arith) (omega arith)),
  )
