-- Stretches of slots that lie beside each other, and words of bits: how their tests and sums go on slot by slot and word by word.
-- Assumes nothing.
use Rattle.std.proofs.Common.{◌≡◌, ℕ, zero, suc, ◌+◌, ◌-◌, ◌*◌, ◌/◌, ◌%◌, ◌^◌, ◌<◌, ◌≤◌, min, Bool, true, false, not, ◌&&◌, eqb, ltb, leb, List, get_or, take, drop, sym, refl, ap, ◌∙◌, ap₂, ⊎_elim, zero-le, not-suc-le-zero, add-zero, eq-or-lt_of_le, pow-suc, arith, lit<, pow_pos, pow_mono, shl_exact, get_or-take, get_or-drop, ltb-true, le-ltb, lt-ltb, eq-eqb, ne_eqb, eqb-true, le-leb, leb-false, leb-true}
use mathlib.Core.Bool.{and-true, and-false}
use mathlib.Core.Logic.{by_cases}
use native.Mathlib.Decide.{dec_lt}
use lib.Bits.{bit_and, bit_or, and_lt}
use lib.Pow.{ones_lt}
use borrow.Author.Tests.{lt-leb}
use Rattle.rules.specs.Branch.{if_so, so_both}
use Rattle.rules.specs.Test.{inside, both, whole}
use Rattle.bits.specs.Bits.{bit, bit_at, one, word_of, without, lowest, sum_to, count_in}
use Rattle.bits.proofs.Digits.{bit_and_lem, bit_ones, bit_above, bit_shl_above, bit_shl_below}
use Rattle.bits.proofs.Words.{same_truth, zero_bit, or_below, or_zero, value_lt, value_bit, word_is, word_true, without_bit, without_word}
use Rattle.bits.proofs.Words.{sum_none as sum-zero}
use Rattle.bits.proofs.Words.{lowest_before, lowest_at, sum_same, sum_join, sum_le}
use Rattle.ledger.specs.Memory.{size_in, resent_in}
use Rattle.ledger.specs.Sound.{all_to}
use Rattle.ledger.specs.Delivery.{sizes_of}
use Rattle.ledger.specs.Stretch.{all_in, sized_in, clear_at, mark_ok, one_at, size_at}
use Rattle.ledger.proofs.Walks.{all_none, all_more, all_at, all_of, all_same, all_join}

-- ---- slot by slot

module _ (f : ℕ → Bool) (from : ℕ) where
  pub in_none : (i : ℕ) → i ≤ from → true ≡ all_in f from i
  unfolding all_in
  in_none i h = sym (ap (all_to (λ k. f (from + k))) (omega arith) ∙ all_none (λ k. f (from + k)))

  pub in_next : (k : ℕ) (s t : Bool) → s ≡ all_in f from (from + k) → t ≡ f (from + k) → (s && t) ≡ all_in f from (from + (k + 1))
  unfolding all_in
  in_next k s t e q =
      let here : from + k - from ≡ k = omega arith in
      let next : from + (k + 1) - from ≡ k + 1 = omega arith in
      rw next (rw (rw here at e, q) (sym (all_more (λ j. f (from + j)) k)))

  pub in_at : (to : ℕ) → all_in f from to ≡ true → (i : ℕ) → from ≤ i → i < to → f i ≡ true
  unfolding all_in
  in_at to e i h l =
      let here : i ≡ from + (i - from) = omega arith in
      ap f here ∙ all_at (λ k. f (from + k)) (to - from) e (i - from) (omega arith)

  pub in_of : (to : ℕ) → ((i : ℕ) → from ≤ i → i < to → f i ≡ true) → all_in f from to ≡ true
  unfolding all_in
  in_of to h = all_of (λ k. f (from + k)) (to - from) (λ k l. h (from + k) (omega arith) (omega arith))

-- place k of the stretch, taken out
pub cut_at : {A : Type 0} (xs : List A) (from to k : ℕ) (d : A) → k < to - from
    → get_or (take (to - from) (drop from xs)) k d ≡ get_or xs (from + k) d
cut_at xs from to k d h = get_or-take (to - from) (drop from xs) k d h ∙ get_or-drop from xs k d

-- two tests that answer alike
pub in_same : (f g : ℕ → Bool) (from to : ℕ) → ((i : ℕ) → f i ≡ g i) → all_in f from to ≡ all_in g from to
unfolding all_in
in_same f g from to h = all_same (λ k. f (from + k)) (λ k. g (from + k)) (to - from) (λ k l. h (from + k))

-- a stretch, and the one behind it
pub in_join : (f : ℕ → Bool) (from i to : ℕ) → from ≤ i → i ≤ to → (all_in f from i && all_in f i to) ≡ all_in f from to
unfolding all_in
in_join f from i to h l =
    let long : to - from ≡ (i - from) + (to - i) = omega arith in
    rw long
    (sym
    (all_join (λ k. f (from + k)) (λ k. f (from + k)) (λ k. f (i + k)) (i - from) (to - i) (λ k u. refl) (λ k u. ap f (omega arith))))

-- a test that goes stretch by stretch: where all before i passed, the stretch from i on tells of all, and one that fails ends the test
module _ (f : ℕ → Bool) (from i : ℕ) (h : from ≤ i) (before : true ≡ all_in f from i) where
  pub in_last : (to : ℕ) (r : Bool) → i ≤ to → r ≡ all_in f i to → r ≡ all_in f from to
  in_last to r l e = e ∙ ap (λ (b : Bool). b && all_in f i to) before ∙ in_join f from i to h l

  pub in_stop : (j to : ℕ) (r : Bool) → i ≤ j → j ≤ to → r ≡ all_in f i j → r ≡ false → false ≡ all_in f from to
  in_stop j to r l m e z =
      in_last to false (omega arith) (ap (λ (b : Bool). b && all_in f j to) (sym z ∙ e) ∙ in_join f i j to l m)

-- two tests made at every slot
pub in_and : (f g h : ℕ → Bool) (from to : ℕ) → ((i : ℕ) → h i ≡ (f i && g i)) → (all_in f from to && all_in g from to) ≡ all_in h from to
in_and f g h from to e =
    same_truth (all_in f from to && all_in g from to) (all_in h from to)
    (λ t.
    let p = both (all_in f from to) (all_in g from to) t in
    in_of h from to (λ i a b. e i ∙ whole (in_at f from to p.0 i a b) (in_at g from to p.1 i a b)))
    (λ t.
    let p : (i : ℕ) → from ≤ i → i < to → (f i ≡ true) × (g i ≡ true) =
    λ i a b. both (f i) (g i) (sym (e i) ∙ in_at h from to t i a b) in
    whole (in_of f from to (λ i a b. (p i a b).0)) (in_of g from to (λ i a b. (p i a b).1)))

-- three runs that lie behind each other, each with a test of its own
pub three : (f x y z : ℕ → Bool) (a b c : ℕ) → a ≤ b → b ≤ c → ((i : ℕ) → i < a → f i ≡ x i) → ((i : ℕ) → a ≤ i → i < b → f i ≡ y i)
    → ((i : ℕ) → b ≤ i → i < c → f i ≡ z i) → ((all_in y a b && all_in z b c) && all_in x 0 a) ≡ all_to f c
three f x y z a b c h l ex ey ez =
    same_truth ((all_in y a b && all_in z b c) && all_in x 0 a) (all_to f c)
    (λ t.
    let p = both (all_in y a b && all_in z b c) (all_in x 0 a) t in
    let q = both (all_in y a b) (all_in z b c) p.0 in
    all_of f c
    (λ i k.
    by_cases (dec_lt i a) (λ u. ex i u ∙ in_at x 0 a p.1 i zero-le u)
    (λ u.
    by_cases (dec_lt i b) (λ v. ey i (omega arith) v ∙ in_at y a b q.0 i (omega arith) v)
    (λ v. ez i (omega arith) k ∙ in_at z b c q.1 i (omega arith) k))))
    (λ t.
    whole
    (whole (in_of y a b (λ i u v. sym (ey i u v) ∙ all_at f c t i (omega arith)))
    (in_of z b c (λ i u v. sym (ez i u v) ∙ all_at f c t i v)))
    (in_of x 0 a (λ i u v. sym (ex i v) ∙ all_at f c t i (omega arith))))

-- sizes have 16 bits, and so a bound of 32 is as good as one of 64
pub top_sized : (low high top most w : ℕ) → w < 2 ^ 32 → top ≡ min high (2 ^ 32 - 1) → sized_in low top most w ≡ sized_in low high most w
unfolding sized_in inside size_in
top_sized low high top most w h e = ap (λ (b : Bool). (leb low (size_in w) && b) && leb (resent_in w) most) (go (leb (size_in w) high) refl)
  where
    go : (b : Bool) → leb (size_in w) high ≡ b → leb (size_in w) top ≡ b
    go true q = le-leb (size_in w) top (omega (arith, leb-true (size_in w) high q))
    go false q = lt-leb (size_in w) top (omega (arith, leb-false (size_in w) high q))

-- a slot's number is 0 where its size and its resend count are
pub none_sized : (w : ℕ) → sized_in 0 0 0 w ≡ eqb w 0
unfolding sized_in inside size_in resent_in
none_sized w =
    same_truth (sized_in 0 0 0 w) (eqb w 0)
    (λ t.
    let p = both (inside 0 (size_in w) 0) (leb (resent_in w) 0) t in
    eq-eqb w 0 (omega (arith, leb-true (size_in w) 0 (both (leb 0 (size_in w)) _ p.0).1, leb-true (resent_in w) 0 p.1)))
    (λ t. ap (sized_in 0 0 0) (eqb-true w 0 t))

-- and a time where it is not past 0
pub none_timed : (x : ℕ) → leb x 0 ≡ eqb x 0
none_timed x =
    same_truth (leb x 0) (eqb x 0) (λ t. eq-eqb x 0 (omega (arith, leb-true x 0 t))) (λ t. le-leb x 0 (omega (arith, eqb-true x 0 t)))

-- none of two numbers
pub no_sum : (a b : ℕ) → eqb (a + b) 0 ≡ (eqb a 0 && eqb b 0)
no_sum zero b = let e : 0 + b ≡ b = omega arith in rw e refl
no_sum (suc a) b = rw (ne_eqb (suc a + b) 0 (λ e. omega arith), ne_eqb (suc a) 0 (λ e. omega arith)) refl

-- a time is past `most` where it has the top bit or `most` less it has, d
pub top_late : (x d most : ℕ) → x < 2 ^ 64 → d < 2 ^ 64 → most < 2 ^ 63 → (d + x) % 2 ^ 64 ≡ most → ltb (bit_or x d) (2 ^ 63) ≡ leb x most
top_late x d most hx hd hm e =
    or_below 63 x d
    ∙ same_truth (ltb x (2 ^ 63) && ltb d (2 ^ 63)) (leb x most)
    (λ t.
    let p = both (ltb x (2 ^ 63)) (ltb d (2 ^ 63)) t in
    le-leb x most (omega (arith, ltb-true x (2 ^ 63) p.0, ltb-true d (2 ^ 63) p.1)))
    (λ t.
    let l = leb-true x most t in
    whole (lt-ltb x (2 ^ 63) (omega (arith, l))) (lt-ltb d (2 ^ 63) (omega (arith, l))))

-- a time more
pub top_more : (late x d most : ℕ) (s : Bool) → x < 2 ^ 64 → d < 2 ^ 64 → most < 2 ^ 63 → (d + x) % 2 ^ 64 ≡ most → ltb late (2 ^ 63) ≡ s
    → ltb (bit_or late (bit_or x d)) (2 ^ 63) ≡ (s && leb x most)
top_more late x d most s hx hd hm e h = or_below 63 late (bit_or x d) ∙ ap₂ (λ (a b : Bool). a && b) h (top_late x d most hx hd hm e)

-- ---- word by word

-- bit j of word q
pub word_at : (ws : List ℕ) (q j : ℕ) → j < 64 → bit_at ws (q * 64 + j) ≡ bit (get_or ws q 0) j
unfolding bit_at
word_at ws q j h =
    let d : (q * 64 + j) / 64 ≡ q = omega arith in
    let m : (q * 64 + j) % 64 ≡ j = omega arith in
    ap₂ (λ (x y : ℕ). bit (get_or ws x 0) y) d m

-- a word is 0 where it has no bit, and only there
word_none : (w : ℕ) → w < 2 ^ 64 → eqb w 0 ≡ all_to (λ j. not (bit w j)) 64
word_none w h =
    same_truth (eqb w 0) (all_to (λ j. not (bit w j)) 64)
    (λ t. all_of (λ j. not (bit w j)) 64 (λ j l. ap (λ (x : ℕ). not (bit x j)) (eqb-true w 0 t) ∙ ap not (zero_bit j)))
    (λ t.
    eq-eqb w 0
    (word_is w (λ j. false) h (λ j l. off (bit w j) (all_at (λ j. not (bit w j)) 64 t j l))
    ∙ sym (word_is 0 (λ j. false) (omega arith) (λ j l. zero_bit j))))
  where
    off : (b : Bool) → not b ≡ true → b ≡ false
    off true e = sym e
    off false e = refl

-- word q is 0 where the bits at its slots are clear
word_clear : (ws : List ℕ) (q : ℕ) → get_or ws q 0 < 2 ^ 64 → eqb (get_or ws q 0) 0 ≡ all_in (clear_at ws) (q * 64) ((q + 1) * 64)
unfolding all_in clear_at
word_clear ws q h =
    let w = get_or ws q 0 in
    let long : (q + 1) * 64 - q * 64 ≡ 64 = omega arith in
    rw long
    (word_none w h ∙ all_same (λ j. not (bit w j)) (λ j. clear_at ws (q * 64 + j)) 64 (λ j l. ap not (sym (word_at ws q j l))))

-- a whole word more of those that are 0 together
pub whole_word : (ws : List ℕ) (from q any : ℕ) → from ≤ q → get_or ws q 0 < 2 ^ 64 → eqb any 0 ≡ all_in (clear_at ws) (from * 64) (q * 64)
    → eqb (bit_or any (get_or ws q 0)) 0 ≡ all_in (clear_at ws) (from * 64) ((q + 1) * 64)
whole_word ws from q any l h e =
    or_zero any (get_or ws q 0)
    ∙ ap₂ (λ (x y : Bool). x && y) e (word_clear ws q h)
    ∙ in_join (clear_at ws) (from * 64) (q * 64) ((q + 1) * 64) (omega arith) (omega arith)

-- the bits of a word that another has not
pub rest_none : (a b : ℕ) → eqb (without a b) 0 ≡ all_to (λ j. not (bit a j && not (bit b j))) 64
rest_none a b =
    word_none (without a b) (word_true (without a b) (without_word a b))
    ∙ all_same (λ j. not (bit (without a b) j)) (λ j. not (bit a j && not (bit b j))) 64 (λ j l. ap not (without_bit a b j l))

-- a word more of a test
pub test_word : (f g : ℕ → Bool) (q : ℕ) (s t : Bool) → ((j : ℕ) → j < 64 → f (q * 64 + j) ≡ g j) → s ≡ all_to f (q * 64) → t ≡ all_to g 64
    → (s && t) ≡ all_to f ((q + 1) * 64)
test_word f g q s t h e k =
    let next : (q + 1) * 64 ≡ q * 64 + 64 = omega arith in
    rw (next, e, k) (sym (all_join f f g (q * 64) 64 (λ j l. refl) h))

pub mark_word : (out mark : List ℕ) (q : ℕ) (s : Bool) → s ≡ all_to (mark_ok out mark) (q * 64)
    → (s && eqb (without (get_or mark q 0) (get_or out q 0)) 0) ≡ all_to (mark_ok out mark) ((q + 1) * 64)
unfolding mark_ok
mark_word out mark q s e =
    test_word (mark_ok out mark) (λ j. not (bit (get_or mark q 0) j && not (bit (get_or out q 0) j))) q s _
    (λ j h. ap₂ (λ (x y : Bool). not (x && not y)) (word_at mark q j h) (word_at out q j h)) e (rest_none (get_or mark q 0) (get_or out q 0))

-- a word more of a sum
pub sum_word : (f g : ℕ → ℕ) (q a b : ℕ) → ((j : ℕ) → j < 64 → f (q * 64 + j) ≡ g j) → a ≡ sum_to f (q * 64) → b ≡ sum_to g 64
    → a + b ≡ sum_to f ((q + 1) * 64)
sum_word f g q a b h e k =
    let next : (q + 1) * 64 ≡ q * 64 + 64 = omega arith in
    rw (next, e, k) (sym (sum_join f (q * 64) 64 ∙ ap (λ (x : ℕ). sum_to f (q * 64) + x) (sum_same (λ j. f (q * 64 + j)) g 64 h)))

pub sum_none : (f : ℕ → ℕ) → 0 ≡ sum_to f 0
unfolding sum_to
sum_none f = refl

pub ones_word : (ws : List ℕ) (q a : ℕ) → a ≡ sum_to (one_at ws) (q * 64)
    → a + count_in (get_or ws q 0) (get_or ws q 0) ≡ sum_to (one_at ws) ((q + 1) * 64)
unfolding count_in one_at
ones_word ws q a e =
    let w = get_or ws q 0 in
    sum_word (one_at ws) (λ j. one (bit w j && bit w j)) q a _ (λ j h. ap one (word_at ws q j h ∙ twice (bit w j))) e refl
  where
    twice : (b : Bool) → b ≡ (b && b)
    twice true = refl
    twice false = refl

-- a word that is 0 has none
pub no_ones_word : (ws : List ℕ) (q a : ℕ) → get_or ws q 0 ≡ 0 → a ≡ sum_to (one_at ws) (q * 64) → a ≡ sum_to (one_at ws) ((q + 1) * 64)
unfolding count_in one if_so
no_ones_word ws q a z e =
    let none : count_in 0 0 ≡ 0 = sum-zero (λ j. one (bit 0 j && bit 0 j)) 64 (λ j h. ap (λ (b : Bool). one (b && b)) (zero_bit j)) in
    omega (arith, rw (z, none) at (ones_word ws q a e))

pub bytes_word : (mark sizes : List ℕ) (q a : ℕ) → a ≡ sum_to (size_at mark sizes) (q * 64)
    → a + sizes_of (bit (get_or mark q 0)) sizes q ≡ sum_to (size_at mark sizes) ((q + 1) * 64)
unfolding sizes_of size_at
bytes_word mark sizes q a e =
    sum_word (size_at mark sizes) _ q a _
    (λ j h. ap (λ (b : Bool). if_so b (size_in (get_or sizes (q * 64 + j) 0)) 0) (word_at mark q j h)) e refl

pub sizes_few : (f : ℕ → Bool) (sizes : List ℕ) (q : ℕ) → sizes_of f sizes q < 2 ^ 22
unfolding sizes_of size_in
sizes_few f sizes q =
    omega (
      arith,
      sum_le (λ j. if_so (f j) (size_in (get_or sizes (q * 64 + j) 0)) 0) 64 65535
          (λ j h. so_both (λ (x : ℕ). x ≤ 65535) (f j) (size_in (get_or sizes (q * 64 + j) 0)) 0 (λ e. omega arith) (λ e. omega arith)),
    )

-- ---- a word's bits in from..to-1

abbrev stray : ℕ → ℕ → ℕ → ℕ → ℕ → Bool
stray w from to q j = (bit w j && not (ltb (q * 64 + j) from)) && ltb (q * 64 + j) to

abbrev below_of : ℕ → ℕ → ℕ
below_of k q = word_of (λ j. ltb (q * 64 + j) k)

stray_none : (w from to q : ℕ)
    → eqb (bit_and (without w (below_of from q)) (below_of to q)) 0 ≡ all_to (λ j. not (stray w from to q j)) 64
stray_none w from to q =
    let a = without w (below_of from q) in
    let b = below_of to q in
    word_none (bit_and a b) (and_lt 64 a b (word_true a (without_word w (below_of from q))) (value_lt (λ j. ltb (q * 64 + j) to) 64))
    ∙ all_same (λ j. not (bit (bit_and a b) j)) (λ j. not (stray w from to q j)) 64
    (λ j l.
    ap not
    (bit_and_lem a b j
    ∙ ap₂ (λ (x y : Bool). x && y)
    (without_bit w (below_of from q) j l
    ∙ ap (λ (x : Bool). bit w j && not x) (value_bit (λ j. ltb (q * 64 + j) from) 64 j l))
    (value_bit (λ j. ltb (q * 64 + j) to) 64 j l)))

module _ (w from to q j : ℕ) where
  stray_in : from ≤ q * 64 + j → q * 64 + j < to → stray w from to q j ≡ bit w j
  stray_in a b = rw (le-ltb (q * 64 + j) from a, lt-ltb (q * 64 + j) to b) (and-true (bit w j && true) ∙ and-true (bit w j))

  stray_before : q * 64 + j < from → stray w from to q j ≡ false
  stray_before a = rw (lt-ltb (q * 64 + j) from a, and-false (bit w j)) refl

  stray_behind : to ≤ q * 64 + j → stray w from to q j ≡ false
  stray_behind a = rw (le-ltb (q * 64 + j) to a) (and-false (bit w j && not (ltb (q * 64 + j) from)))

-- a word more of a test that no bit is set
pub none_word : (ws : List ℕ) (from to q : ℕ) (s : Bool) → s ≡ all_in (clear_at ws) from (min to (q * 64))
    → (s && eqb (bit_and (without (get_or ws q 0) (below_of from q)) (below_of to q)) 0) ≡ all_in (clear_at ws) from (min to ((q + 1) * 64))
unfolding clear_at
none_word ws from to q s e =
    let w = get_or ws q 0 in
    let before = all_in (clear_at ws) from (min to (q * 64)) in
    let here = all_to (λ j. not (stray w from to q j)) 64 in
    rw (e, stray_none w from to q)
    (same_truth (before && here) (all_in (clear_at ws) from (min to ((q + 1) * 64)))
    (λ t.
    let p = both before here t in
    in_of (clear_at ws) from (min to ((q + 1) * 64))
    (λ i a b.
    by_cases (dec_lt i (q * 64)) (λ u. in_at (clear_at ws) from (min to (q * 64)) p.0 i a (omega arith))
    (λ u.
    let same : q * 64 + (i - q * 64) ≡ i = omega arith in
    ap (clear_at ws) (sym same)
    ∙ ap not (word_at ws q (i - q * 64) (omega arith) ∙ sym (stray_in w from to q (i - q * 64) (omega arith) (omega arith)))
    ∙ all_at (λ j. not (stray w from to q j)) 64 p.1 (i - q * 64) (omega arith))))
    (λ t.
    let at = in_at (clear_at ws) from (min to ((q + 1) * 64)) t in
    whole (in_of (clear_at ws) from (min to (q * 64)) (λ i a b. at i a (omega arith)))
    (all_of (λ j. not (stray w from to q j)) 64
    (λ j l.
    by_cases (dec_lt (q * 64 + j) from) (λ u. ap not (stray_before w from to q j u))
    (λ u.
    by_cases (dec_lt (q * 64 + j) to)
    (λ v.
    ap not (stray_in w from to q j (omega arith) v ∙ sym (word_at ws q j l)) ∙ at (q * 64 + j) (omega arith) (omega arith))
    (λ v. ap not (stray_behind w from to q j (omega arith))))))))

-- ---- the bits below a slot

module _ (k q : ℕ) where
  pub none_below : k ≤ q * 64 → 0 ≡ below_of k q
  none_below h =
      word_is 0 (λ j. ltb (q * 64 + j) k) (lit< tt) (λ j l. zero_bit j ∙ sym (le-ltb (q * 64 + j) k (omega arith)))

  pub some_below : (r : ℕ) → r ≤ 64 → (r < 64 → k ≡ q * 64 + r) → q * 64 + r ≤ k → 2 ^ r - 1 ≡ below_of k q
  some_below r h e m =
      word_is (2 ^ r - 1) (λ j. ltb (q * 64 + j) k) (omega (arith, ones_lt r, pow_mono h))
      (λ j l.
      bit_ones r j
      ∙ by_cases (dec_lt j r) (λ u. lt-ltb j r u ∙ sym (lt-ltb (q * 64 + j) k (omega arith)))
      (λ u. le-ltb j r (omega arith) ∙ sym (le-ltb (q * 64 + j) k (omega (arith, e (omega arith))))))

-- ---- the set bits of a word, the lowest first

-- 1 << r
one_same : (r : ℕ) → bit (1 * 2 ^ r) r ≡ true
unfolding bit
one_same r = ap (bit (1 * 2 ^ r)) (sym (add-zero r)) ∙ bit_shl_above 1 r 0 ∙ refl

one_other : (r i : ℕ) → (i ≡ r → ⊥) → bit (1 * 2 ^ r) i ≡ false
one_other r i n =
    by_cases (dec_lt i r)
    (λ h. bit_shl_below 1 r i h)
    (λ h.
    bit_above (suc r) (1 * 2 ^ r) i (omega (arith, pow-suc 2 r, pow_pos r))
    (⊎_elim (λ e. absurd (n (sym e))) (λ l. l) (eq-or-lt_of_le {n = r} {m = i} (omega arith))))

-- a word that is not 0 has a lowest bit
pub some_bit : (w : ℕ) → w < 2 ^ 64 → (w ≡ 0 → ⊥) → lowest (bit w) 64 < 64
some_bit w h n =
    by_cases (dec_lt (lowest (bit w) 64) 64) (λ l. l)
    (λ l.
    absurd
    (n (word_is w (λ j. false) h (λ j k. lowest_before (bit w) 64 j (omega arith))
    ∙ sym (word_is 0 (λ j. false) (lit< tt) (λ j k. zero_bit j)))))

-- a sum but for one of its numbers
sum_but_lem : (f g : ℕ → ℕ) (n j : ℕ) → j < n → ((k : ℕ) → k < n → (k ≡ j → ⊥) → f k ≡ g k) → g j ≡ 0 → sum_to f n ≡ sum_to g n + f j
unfolding sum_to
sum_but_lem f g zero j h e z = absurd (not-suc-le-zero h)
sum_but_lem f g (suc n) j h e z =
    by_cases (dec_lt j n)
    (λ l. omega (arith, sum_but_lem f g n j l (λ k u v. e k (omega arith) v) z, e n (omega arith) (λ q. omega arith)))
    (λ l.
    let same : j ≡ n = omega arith in
    omega (arith, sum_same f g n (λ k u. e k (omega arith) (λ q. omega arith)), ap f same, ap g same, z))

-- what the bits of a word add up to, once its lowest is taken out
module _ (w : ℕ) (h : w < 2 ^ 64) (n : w ≡ 0 → ⊥) (adds : ℕ → ℕ) where
  pub take_lowest : let r = lowest (bit w) 64 in
      sum_to (λ j. if_so (bit w j) (adds j) 0) 64
      ≡ sum_to (λ j. if_so (bit (without w (1 * 2 ^ r % 2 ^ 64)) j) (adds j) 0) 64 + adds r
  unfolding if_so
  take_lowest =
      let r = lowest (bit w) 64 in
      let l : r < 64 = some_bit w h n in
      let fits : 1 * 2 ^ r % 2 ^ 64 ≡ 1 * 2 ^ r = shl_exact 1 r 64 (lit< tt) (omega arith) in
      let v = without w (1 * 2 ^ r) in
      let set : bit w r ≡ true = lowest_at (bit w) 64 l in
      rw fits
      (sum_but_lem (λ j. if_so (bit w j) (adds j) 0) (λ j. if_so (bit v j) (adds j) 0) 64 r l
      (λ k u d.
      ap (λ (b : Bool). if_so b (adds k) 0)
      (sym (without_bit w (1 * 2 ^ r) k u ∙ ap (λ (b : Bool). bit w k && not b) (one_other r k d) ∙ and-true (bit w k))))
      (ap (λ (b : Bool). if_so b (adds r) 0)
      (without_bit w (1 * 2 ^ r) r l ∙ ap (λ (b : Bool). bit w r && not b) (one_same r) ∙ and-false (bit w r)))
      ∙ ap (λ (b : Bool). sum_to (λ j. if_so (bit v j) (adds j) 0) 64 + if_so b (adds r) 0) set)

-- no bit adds nothing
pub none_adds : (adds : ℕ → ℕ) → sum_to (λ j. if_so (bit 0 j) (adds j) 0) 64 ≡ 0
unfolding if_so
none_adds adds = sum-zero (λ j. if_so (bit 0 j) (adds j) 0) 64 (λ j h. ap (λ (b : Bool). if_so b (adds j) 0) (zero_bit j))
