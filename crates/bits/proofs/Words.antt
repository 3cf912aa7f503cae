-- Words and arrays of words by their bits: what bits they have, and that words of the same bits are the same.
-- Assumes nothing.
use mathlib.Core.Path.{◌≡◌, refl, sym, ap, ap₂, ◌∙◌}
use mathlib.Core.Bool.{Bool, true, false, not, ◌&&◌}
use mathlib.Core.List.{List, [], ◌∷◌}
use mathlib.Core.Logic.{◌⊎◌, inl, inr, ⊎_elim, by_cases}
use Prim.Native.Nat.{ℕ, zero, suc, ◌+◌, ◌-◌, ◌*◌, ◌/◌, ◌%◌, ◌^◌, ◌≤◌, ◌<◌, zero-le}
use native.Mathlib.Nat.{pow-suc, mod-lt, add-suc, add-zero, suc-mul, not-suc-le-zero, le_of_suc-le-suc, zero-lt-suc}
use native.Mathlib.Numerals.{add-one}
use native.Mathlib.Decide.{dec_lt}
use native.Mathlib.Omega.{arith}
use borrow.Author.Tests.{lt-ltb, ltb-true, eq-eqb, eqb-true}
use lib.Arith.{lt-one}
use lib.Bits.{bit_and, bit_or, and_lt, and_le_l, and_le_r, or_lt, or_add_and}
use lib.Count.{ones, ones_step}
use lib.Dec.{eqb, ltb}
use lib.ListN.{length, get_or, set, length-set}
use lib.Pow.{pow_pos}
use lib.Seq.{get_or-set_same, get_or-set_other, set_out}
use Rattle.rules.specs.Branch.{if_so, if_eq, eq_yes, eq_no}
use Rattle.rules.specs.Test.{both, whole}
use Rattle.bits.specs.Bits.{bit, is_word, bit_at, one, value_of, word_of, words_of, with_bit, put_bit, without, lowest, sum_to, count_in}
use Rattle.bits.proofs.Digits.{odd, bit_and_lem, bit_low, bit_half, bit_zero, half_below}

pub zero_bit : (j : ℕ) → bit 0 j ≡ false
zero_bit j = bit_zero j

pub same_or_not : (i r : ℕ) → (i ≡ r) ⊎ (i ≡ r → ⊥)
same_or_not i r =
    by_cases (dec_lt i r) (λ h. inr (λ e. omega arith)) (λ h. by_cases (dec_lt r i) (λ l. inr (λ e. omega arith)) (λ l. inl (omega arith)))

-- ---- the number of k bits

pub one_le : (b : Bool) → one b ≤ 1
unfolding one if_so
one_le true = omega arith
one_le false = omega arith

one_odd : (b : Bool) → eqb (one b) 1 ≡ b
unfolding one if_so
one_odd true = refl
one_odd false = refl

digit_one : (d : ℕ) → d < 2 → d ≡ one (eqb d 1)
unfolding one if_so
digit_one zero h = refl
digit_one (suc zero) h = refl
digit_one (suc (suc d)) h = absurd (omega arith)

-- the lowest bit, as a number
low_one : (w : ℕ) → w % 2 ≡ one (bit w 0)
unfolding odd
low_one w = digit_one (w % 2) (mod-lt w (zero-lt-suc 1)) ∙ ap one (sym (bit_low w))

pub value_lt : (f : ℕ → Bool) (k : ℕ) → value_of f k < 2 ^ k
unfolding value_of
value_lt f zero = pow_pos 0
value_lt f (suc k) = omega (arith, one_le (f 0), value_lt (λ j. f (suc j)) k, pow-suc 2 k)

low_bit : (b : Bool) (v : ℕ) → bit (one b + 2 * v) 0 ≡ b
unfolding odd
low_bit b v =
    let e : (one b + 2 * v) % 2 ≡ one b = omega (arith, one_le b) in
    bit_low (one b + 2 * v) ∙ ap (λ (x : ℕ). eqb x 1) e ∙ one_odd b

high_bit : (b : Bool) (v j : ℕ) → bit (one b + 2 * v) (suc j) ≡ bit v j
high_bit b v j =
    let e : (one b + 2 * v) / 2 ≡ v = omega (arith, one_le b) in
    sym (bit_half (one b + 2 * v) j) ∙ ap (λ (x : ℕ). bit x j) e

pub value_bit : (f : ℕ → Bool) (k j : ℕ) → j < k → bit (value_of f k) j ≡ f j
unfolding value_of
value_bit f zero j h = absurd (not-suc-le-zero h)
value_bit f (suc k) zero h = low_bit (f 0) (value_of (λ j. f (suc j)) k)
value_bit f (suc k) (suc j) h =
    high_bit (f 0) (value_of (λ i. f (suc i)) k) j ∙ value_bit (λ i. f (suc i)) k j (le_of_suc-le-suc h)

pub value_same : (f g : ℕ → Bool) (k : ℕ) → ((j : ℕ) → j < k → f j ≡ g j) → value_of f k ≡ value_of g k
unfolding value_of
value_same f g zero e = refl
value_same f g (suc k) e =
    ap₂ (λ (b : Bool) (v : ℕ). one b + 2 * v) (e 0 (zero-lt-suc k))
    (value_same (λ j. f (suc j)) (λ j. g (suc j)) k (λ j h. e (suc j) (omega arith)))

pub value_back : (k w : ℕ) → w < 2 ^ k → value_of (bit w) k ≡ w
unfolding value_of
value_back zero w h = sym (lt-one h)
value_back (suc k) w h =
    let e : value_of (λ j. bit w (suc j)) k ≡ w / 2 =
    value_same (λ j. bit w (suc j)) (bit (w / 2)) k (λ j l. sym (bit_half w j)) ∙ value_back k (w / 2) (half_below k w h) in
    omega (arith, low_one w)

-- ---- words

pub word_true : (w : ℕ) → is_word w ≡ true → w < 2 ^ 64
unfolding is_word
word_true w e = ltb-true w (2 ^ 64) e

pub word_yes : (w : ℕ) → w < 2 ^ 64 → is_word w ≡ true
unfolding is_word
word_yes w h = lt-ltb w (2 ^ 64) h

pub word_word : (f : ℕ → Bool) → is_word (word_of f) ≡ true
word_word f = word_yes (value_of f 64) (value_lt f 64)

-- a word is known by its bits
pub word_is : (w : ℕ) (f : ℕ → Bool) → w < 2 ^ 64 → ((j : ℕ) → j < 64 → bit w j ≡ f j) → w ≡ word_of f
word_is w f h e = sym (value_back 64 w h) ∙ value_same (bit w) f 64 e

pub without_bit : (w m j : ℕ) → j < 64 → bit (without w m) j ≡ (bit w j && not (bit m j))
unfolding without
without_bit w m j h = value_bit (λ i. bit w i && not (bit m i)) 64 j h

pub without_word : (w m : ℕ) → is_word (without w m) ≡ true
unfolding without
without_word w m = word_word (λ j. bit w j && not (bit m j))

pub with_bit_lem : (w r : ℕ) (b : Bool) (j : ℕ) → j < 64 → bit (with_bit w r b) j ≡ if_eq j r b (bit w j)
unfolding with_bit
with_bit_lem w r b j h = value_bit (λ i. if_eq i r b (bit w i)) 64 j h

pub with_word : (w r : ℕ) (b : Bool) → is_word (with_bit w r b) ≡ true
unfolding with_bit
with_word w r b = word_word (λ j. if_eq j r b (bit w j))

-- ---- arrays of words

at_first : (w : ℕ) (ws : List ℕ) (i : ℕ) → i < 64 → bit_at (w ∷ ws) i ≡ bit w i
unfolding bit_at
at_first w ws i h =
    let q : i / 64 ≡ 0 = omega arith in
    let r : i % 64 ≡ i = omega arith in
    ap₂ (λ (x y : ℕ). bit (get_or (w ∷ ws) x 0) y) q r

at_rest : (w : ℕ) (ws : List ℕ) (i : ℕ) → bit_at (w ∷ ws) (64 + i) ≡ bit_at ws i
unfolding bit_at
at_rest w ws i =
    let q : (64 + i) / 64 ≡ suc (i / 64) = omega arith in
    let r : (64 + i) % 64 ≡ i % 64 = omega arith in
    ap₂ (λ (x y : ℕ). bit (get_or (w ∷ ws) x 0) y) q r

pub words_long : (f : ℕ → Bool) (n : ℕ) → length (words_of f n) ≡ n
unfolding words_of
words_long f zero = refl
words_long f (suc n) = ap suc (words_long (λ i. f (64 + i)) n)

pub words_at_lem : (f : ℕ → Bool) (n i : ℕ) → i < n * 64 → bit_at (words_of f n) i ≡ f i
unfolding words_of
words_at_lem f zero i h = absurd (omega arith)
words_at_lem f (suc n) i h =
    let ws = words_of (λ j. f (64 + j)) n in
    by_cases (dec_lt i 64)
    (λ l. at_first (word_of f) ws i l ∙ value_bit f 64 i l)
    (λ l.
    let e : 64 + (i - 64) ≡ i = omega arith in
    ap (bit_at (word_of f ∷ ws)) (sym e) ∙ at_rest (word_of f) ws (i - 64) ∙ words_at_lem (λ j. f (64 + j)) n (i - 64) (omega arith) ∙ ap f e)

pub words_word : (f : ℕ → Bool) (n q : ℕ) → q < n → is_word (get_or (words_of f n) q 0) ≡ true
unfolding words_of
words_word f zero q h = absurd (not-suc-le-zero h)
words_word f (suc n) zero h = word_word f
words_word f (suc n) (suc q) h = words_word (λ i. f (64 + i)) n q (le_of_suc-le-suc h)

pub words_same : (f g : ℕ → Bool) (n : ℕ) → ((i : ℕ) → i < n * 64 → f i ≡ g i) → words_of f n ≡ words_of g n
unfolding words_of
words_same f g zero e = refl
words_same f g (suc n) e =
    ap₂ (λ (w : ℕ) (ws : List ℕ). w ∷ ws) (value_same f g 64 (λ j h. e j (omega arith)))
    (words_same (λ i. f (64 + i)) (λ i. g (64 + i)) n (λ i h. e (64 + i) (omega arith)))

-- an array of words is known by its bits
pub words_are : (ws : List ℕ) (f : ℕ → Bool) → ((q : ℕ) → q < length ws → is_word (get_or ws q 0) ≡ true)
    → ((i : ℕ) → i < length ws * 64 → bit_at ws i ≡ f i) → ws ≡ words_of f (length ws)
unfolding words_of
words_are [] f h e = refl
words_are (w ∷ ws) f h e =
    ap₂ (λ (x : ℕ) (xs : List ℕ). x ∷ xs)
    (word_is w f (word_true w (h 0 (omega arith))) (λ j l. sym (at_first w ws j l) ∙ e j (omega arith)))
    (words_are ws (λ i. f (64 + i)) (λ q l. h (suc q) (omega arith)) (λ i l. sym (at_rest w ws i) ∙ e (64 + i) (omega arith)))

-- ---- one word of an array is set

pub set_here : (ws : List ℕ) (q w i : ℕ) → q < length ws → i / 64 ≡ q → bit_at (set ws q w) i ≡ bit w (i % 64)
unfolding bit_at
set_here ws q w i h e =
    ap (λ (x : ℕ). bit x (i % 64)) (ap (λ (p : ℕ). get_or (set ws q w) p 0) e ∙ get_or-set_same ws q w 0 h)

pub set_there : (ws : List ℕ) (q w i : ℕ) → (i / 64 ≡ q → ⊥) → bit_at (set ws q w) i ≡ bit_at ws i
unfolding bit_at
set_there ws q w i ne = ap (λ (x : ℕ). bit x (i % 64)) (get_or-set_other ws q (i / 64) w 0 ne)

pub set_word : (ws : List ℕ) (q w p : ℕ) → is_word w ≡ true → is_word (get_or ws p 0) ≡ true → is_word (get_or (set ws q w) p 0) ≡ true
set_word ws q w p hw hp =
    by_cases (dec_lt q (length ws))
    (λ l.
    ⊎_elim
    (λ e. ap is_word (ap (λ (x : ℕ). get_or (set ws q w) x 0) e ∙ get_or-set_same ws q w 0 l) ∙ hw)
    (λ ne. ap is_word (get_or-set_other ws q p w 0 ne) ∙ hp)
    (same_or_not p q))
    (λ g. ap (λ (xs : List ℕ). is_word (get_or xs p 0)) (set_out ws q w (omega arith)) ∙ hp)

-- ---- one bit of an array is put

pub put_long : (ws : List ℕ) (i : ℕ) (b : Bool) → length (put_bit ws i b) ≡ length ws
unfolding put_bit
put_long ws i b = length-set ws (i / 64) (with_bit (get_or ws (i / 64) 0) (i % 64) b)

pub put_same : (ws : List ℕ) (i : ℕ) (b : Bool) → i < length ws * 64 → bit_at (put_bit ws i b) i ≡ b
unfolding put_bit
put_same ws i b h =
    let w = get_or ws (i / 64) 0 in
    set_here ws (i / 64) (with_bit w (i % 64) b) i (omega arith) refl
    ∙ with_bit_lem w (i % 64) b (i % 64) (omega arith)
    ∙ sym (eq_yes (i % 64) (i % 64) b b (bit w (i % 64)) refl refl)

pub put_other : (ws : List ℕ) (i j : ℕ) (b : Bool) → (j ≡ i → ⊥) → bit_at (put_bit ws i b) j ≡ bit_at ws j
unfolding put_bit bit_at
put_other ws i j b ne =
    let w = get_or ws (i / 64) 0 in
    let v = with_bit w (i % 64) b in
    by_cases (dec_lt (i / 64) (length ws))
    (λ l.
    ⊎_elim
    (λ e.
    let off : j % 64 ≡ i % 64 → ⊥ = λ r. ne (omega arith) in
    set_here ws (i / 64) v j l e ∙ with_bit_lem w (i % 64) b (j % 64) (omega arith)
    ∙ sym (eq_no (j % 64) (i % 64) (bit w (j % 64)) b (bit w (j % 64)) off refl) ∙ ap (λ (p : ℕ). bit (get_or ws p 0) (j % 64)) (sym e))
    (λ n. set_there ws (i / 64) v j n)
    (same_or_not (j / 64) (i / 64)))
    (λ g. ap (λ (xs : List ℕ). bit_at xs j) (set_out ws (i / 64) v (omega arith)))

pub put_word : (ws : List ℕ) (i p : ℕ) (b : Bool) → is_word (get_or ws p 0) ≡ true → is_word (get_or (put_bit ws i b) p 0) ≡ true
unfolding put_bit
put_word ws i p b h =
    set_word ws (i / 64) (with_bit (get_or ws (i / 64) 0) (i % 64) b) p (with_word (get_or ws (i / 64) 0) (i % 64) b) h

-- ---- the first at which a test holds

either_way : (b : Bool) (x y : ℕ) → ((b ≡ true) × (if_so b x y ≡ x)) ⊎ ((b ≡ false) × (if_so b x y ≡ y))
unfolding if_so
either_way true x y = inl (refl, refl)
either_way false x y = inr (refl, refl)

low_step : (f : ℕ → Bool) (k : ℕ)
    → ((f 0 ≡ true) × (lowest f (suc k) ≡ 0)) ⊎ ((f 0 ≡ false) × (lowest f (suc k) ≡ suc (lowest (λ j. f (suc j)) k)))
unfolding lowest
low_step f k = either_way (f 0) 0 (suc (lowest (λ j. f (suc j)) k))

pub lowest_le : (f : ℕ → Bool) (k : ℕ) → lowest f k ≤ k
unfolding lowest
lowest_le f zero = zero-le
lowest_le f (suc k) = ⊎_elim (λ l. omega arith) (λ r. omega (arith, lowest_le (λ j. f (suc j)) k)) (low_step f k)

pub lowest_before : (f : ℕ → Bool) (k j : ℕ) → j < lowest f k → f j ≡ false
unfolding lowest
lowest_before f zero j h = absurd (not-suc-le-zero h)
lowest_before f (suc k) zero h = ⊎_elim (λ l. absurd (omega arith)) (λ r. r.0) (low_step f k)
lowest_before f (suc k) (suc j) h =
    ⊎_elim (λ l. absurd (omega arith)) (λ r. lowest_before (λ i. f (suc i)) k j (omega arith)) (low_step f k)

pub lowest_at : (f : ℕ → Bool) (k : ℕ) → lowest f k < k → f (lowest f k) ≡ true
lowest_at f zero h = absurd (not-suc-le-zero h)
lowest_at f (suc k) h =
    ⊎_elim (λ l. ap f l.1 ∙ l.0) (λ r. ap f r.1 ∙ lowest_at (λ j. f (suc j)) k (omega arith)) (low_step f k)

pub lowest_is : (f : ℕ → Bool) (k n : ℕ) → n ≤ k → ((j : ℕ) → j < n → f j ≡ false) → (n < k → f n ≡ true) → lowest f k ≡ n
lowest_is f k n l before here =
    let never : (b : Bool) → b ≡ true → b ≡ false → ⊥ = λ b t u. let z : true ≡ false = sym t ∙ u in both_ways z in
    by_cases (dec_lt (lowest f k) n)
    (λ h. absurd (never (f (lowest f k)) (lowest_at f k (omega arith)) (before (lowest f k) h)))
    (λ h.
    by_cases (dec_lt n (lowest f k))
    (λ g. absurd (never (f n) (here (omega (arith, lowest_le f k))) (lowest_before f k n g)))
    (λ g. omega arith))
  where
    both_ways : true ≡ false → ⊥
    both_ways e = let z : ◌≡◌ {A = ℕ} 0 1 = cc in omega arith

pub lowest_same : (f g : ℕ → Bool) (k : ℕ) → ((j : ℕ) → j < k → f j ≡ g j) → lowest f k ≡ lowest g k
unfolding lowest
lowest_same f g zero e = refl
lowest_same f g (suc k) e =
    ap₂ (λ (b : Bool) (n : ℕ). if_so b 0 (suc n)) (e 0 (zero-lt-suc k))
    (lowest_same (λ j. f (suc j)) (λ j. g (suc j)) k (λ j h. e (suc j) (omega arith)))

-- ---- sums

pub sum_same : (f g : ℕ → ℕ) (n : ℕ) → ((k : ℕ) → k < n → f k ≡ g k) → sum_to f n ≡ sum_to g n
unfolding sum_to
sum_same f g zero e = refl
sum_same f g (suc n) e =
    ap₂ (λ (x y : ℕ). x + y) (sum_same f g n (λ k h. e k (omega arith))) (e n (omega arith))

pub sum_more : (f : ℕ → ℕ) (n : ℕ) → sum_to f (n + 1) ≡ sum_to f n + f n
unfolding sum_to
sum_more f n = ap (sum_to f) (add-one n)

pub sum_join : (f : ℕ → ℕ) (j m : ℕ) → sum_to f (j + m) ≡ sum_to f j + sum_to (λ k. f (j + k)) m
unfolding sum_to
sum_join f j zero = ap (sum_to f) (add-zero j) ∙ sym (add-zero (sum_to f j))
sum_join f j (suc m) = ap (sum_to f) (add-suc j m) ∙ omega (arith, sum_join f j m)

pub sum_none : (f : ℕ → ℕ) (n : ℕ) → ((k : ℕ) → k < n → f k ≡ 0) → sum_to f n ≡ 0
unfolding sum_to
sum_none f zero e = refl
sum_none f (suc n) e = omega (arith, sum_none f n (λ k h. e k (omega arith)), e n (omega arith))

pub sum_le : (f : ℕ → ℕ) (n b : ℕ) → ((k : ℕ) → k < n → f k ≤ b) → sum_to f n ≤ n * b
unfolding sum_to
sum_le f zero b e = zero-le
sum_le f (suc n) b e = omega (arith, sum_le f n b (λ k h. e k (omega arith)), e n (omega arith), suc-mul n b)

-- the first of a sum, taken apart
sum_first : (f : ℕ → ℕ) (n : ℕ) → sum_to f (suc n) ≡ f 0 + sum_to (λ k. f (suc k)) n
unfolding sum_to
sum_first f zero = omega arith
sum_first f (suc n) = omega (arith, sum_first f n)

-- ---- how many bits are set

ones_sum : (k w : ℕ) → w < 2 ^ k → ones w ≡ sum_to (λ j. one (bit w j)) k
unfolding sum_to ones
ones_sum zero w h = ap ones (lt-one h)
ones_sum (suc k) w h =
    let e = sum_first (λ j. one (bit w j)) k in
    let s = sum_same (λ j. one (bit (w / 2) j)) (λ j. one (bit w (suc j))) k (λ j l. ap one (bit_half w j)) in
    ones_step w ∙ ap₂ (λ (x y : ℕ). x + y) (low_one w) (ones_sum k (w / 2) (half_below k w h) ∙ s) ∙ sym e

pub count_both : (w m : ℕ) → w < 2 ^ 64 → m < 2 ^ 64 → ones (bit_and w m) ≡ count_in w m
unfolding count_in
count_both w m hw hm =
    ones_sum 64 (bit_and w m) (and_lt 64 w m hw hm)
    ∙ sum_same (λ j. one (bit (bit_and w m) j)) (λ j. one (bit w j && bit m j)) 64 (λ j h. ap one (bit_and_lem w m j))

-- ---- two numbers together

-- tests that hold together are one
pub same_truth : (a b : Bool) → (a ≡ true → b ≡ true) → (b ≡ true → a ≡ true) → a ≡ b
same_truth true b f g = sym (f refl)
same_truth false true f g = g refl
same_truth false false f g = refl

-- two numbers together have k bits exactly if each has
pub or_below : (k a b : ℕ) → ltb (bit_or a b) (2 ^ k) ≡ (ltb a (2 ^ k) && ltb b (2 ^ k))
or_below k a b =
    same_truth (ltb (bit_or a b) (2 ^ k)) (ltb a (2 ^ k) && ltb b (2 ^ k))
    (λ t.
    let l = ltb-true (bit_or a b) (2 ^ k) t in
    let e = or_add_and a b in
    whole (lt-ltb a (2 ^ k) (omega (arith, l, e, and_le_r a b))) (lt-ltb b (2 ^ k) (omega (arith, l, e, and_le_l a b))))
    (λ t.
    let p = both (ltb a (2 ^ k)) (ltb b (2 ^ k)) t in
    lt-ltb (bit_or a b) (2 ^ k) (or_lt k a b (ltb-true a (2 ^ k) p.0) (ltb-true b (2 ^ k) p.1)))

-- and they are 0 exactly if each is
pub or_zero : (a b : ℕ) → eqb (bit_or a b) 0 ≡ (eqb a 0 && eqb b 0)
or_zero a b = none (bit_or a b) ∙ or_below 0 a b ∙ ap₂ (λ (x y : Bool). x && y) (sym (none a)) (sym (none b))
  where
    none : (x : ℕ) → eqb x 0 ≡ ltb x (2 ^ 0)
    none x = same_truth (eqb x 0) (ltb x 1) (λ t. lt-ltb x 1 (omega (arith, eqb-true x 0 t))) (λ t. eq-eqb x 0 (omega (arith, ltb-true x 1 t)))
