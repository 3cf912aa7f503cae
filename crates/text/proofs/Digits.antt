-- A number's decimal text: it is what is written from its last digit back; how long it is; that it reads back as the number.
-- Assumes nothing.
use Rattle.std.proofs.Common.{◌≡◌, ℕ, zero, suc, ◌+◌, ◌-◌, ◌*◌, ◌/◌, ◌%◌, ◌^◌, ◌≤◌, ◌<◌, List, [], ◌∷◌, ◌++◌, length, take, drop, set, refl, sym, ◌∙◌, drop_of_length-le, lit≤, pow-suc, arith}
use Rattle.std.proofs.lemmas.List.{append-nil, drop-set, length-set, length-append, length-drop}
use Rattle.std.proofs.Math.Seq.{append_snoc, take-length}
use native.Mathlib.Numerals.{unary_clauses}
use Rattle.rules.specs.Branch.{lt_yes, lt_no, lt_both}
use Rattle.text.specs.Decimal.{digits_most, digits_in, decimal, value_from, value_of, zero_glyph}

-- ---- as it is written, from the last digit back

-- before a turn: the digits that are still to write and those that stand behind `first` are n's
pub record Filling (n : ℕ) (digits : List ℕ) (first rest : ℕ) : Type 0 where
  pub long : length digits ≡ digits_most
  pub room : first < digits_most
  pub fits : rest < 10 ^ suc first
  pub is : digits_in (suc first) rest ++ drop (suc first) digits ≡ decimal n

drop_stored : (l : List ℕ) (i g : ℕ) → i < length l → drop i (set l i g) ≡ g ∷ drop (suc i) l
drop_stored l i g h = simp unary_clauses at (drop-set l i g h)

pub fill_none : (n : ℕ) (digits : List ℕ) → length digits ≡ digits_most → n < 2 ^ 64 → Filling n digits (digits_most - 1) n
unfolding decimal
fill_none n digits e h =
    let none : drop digits_most digits ≡ [] = drop_of_length-le digits {i = digits_most} (omega arith) in
    record { long = e; room = omega arith; fits = omega arith; is = rw none (append-nil (digits_in digits_most n)) }

-- what has two digits or more: the last is written, and one place is left at least
pub fill_more : {n : ℕ} {digits : List ℕ} (first rest : ℕ) → 10 ≤ rest → Filling n digits first rest
    → (1 ≤ first) × Filling n (set digits first (zero_glyph + rest % 10)) (first - 1) (rest / 10)
unfolding digits_in
fill_more {n} {digits} zero rest h f = absurd (omega (arith, f.fits))
fill_more {n} {digits} (suc first) rest h f =
    let less : suc first - 1 ≡ first = omega arith in
    let glyph = zero_glyph + rest % 10 in
    let front = digits_in (suc first) (rest / 10) in
    let stored : drop (suc first) (set digits (suc first) glyph) ≡ glyph ∷ drop (suc (suc first)) digits =
    drop_stored digits (suc first) glyph (omega (arith, f.long, f.room)) in
    let whole : digits_in (suc (suc first)) rest ≡ front ++ (glyph ∷ []) = sym (lt_no rest 10 _ _ _ h refl) in (
      omega arith,
      record {
        long = length-set digits (suc first) glyph ∙ f.long;
        room = omega (arith, f.room);
        fits = rw less (omega (arith, f.fits, pow-suc 10 (suc first)));
        is = rw (less, stored) (sym (append_snoc front glyph _) ∙ rw (← whole) f.is);
      },
    )

-- the first digit
pub fill_last : {n : ℕ} {digits : List ℕ} (first rest : ℕ) → rest < 10 → Filling n digits first rest
    → drop first (set digits first (zero_glyph + rest)) ≡ decimal n
unfolding digits_in
fill_last {n} {digits} first rest h f =
    let stored = drop_stored digits first (zero_glyph + rest) (omega (arith, f.long, f.room)) in
    let whole : digits_in (suc first) rest ≡ (zero_glyph + rest) ∷ [] = sym (lt_yes rest 10 _ _ _ h refl) in
    stored ∙ rw whole at f.is

-- the bytes from the first digit on
pub from_first : (n first : ℕ) (digits : List ℕ) → length digits ≡ digits_most → drop first digits ≡ decimal n
    → take (digits_most - first) (drop first digits) ≡ decimal n
from_first n first digits e d =
    let long : length (drop first digits) ≡ digits_most - first = omega (arith, length-drop first digits) in
    rw (← long) (take-length (drop first digits) ∙ d)

-- ---- how long it is

short : (most n : ℕ) → length (digits_in most n) ≤ most
unfolding digits_in
short zero n = lit≤ tt
short (suc most) n =
    lt_both (λ (l : List ℕ). length l ≤ suc most) n 10 _ _
    (λ _. omega arith)
    (λ _. simp length-append (omega (arith, short most (n / 10))))

pub decimal_short : (n : ℕ) → length (decimal n) ≤ digits_most
unfolding decimal
decimal_short n = short digits_most n

-- a number below 10^(k+1) has at most k + 1 digits
narrow : (most k n : ℕ) → n < 10 ^ suc k → length (digits_in most n) ≤ suc k
unfolding digits_in
narrow zero k n h = omega arith
narrow (suc most) zero n h = lt_both (λ (l : List ℕ). length l ≤ 1) n 10 _ _ (λ _. omega arith) (λ over. absurd (omega arith))
narrow (suc most) (suc k) n h =
    let power : 10 ^ suc (suc k) ≡ 10 ^ suc k * 10 = pow-suc 10 (suc k) in
    lt_both (λ (l : List ℕ). length l ≤ suc (suc k)) n 10 _ _
    (λ _. omega arith)
    (λ _. simp length-append (omega (arith, narrow most k (n / 10) (omega arith))))

pub decimal_narrow : (k n : ℕ) → n < 10 ^ suc k → length (decimal n) ≤ suc k
unfolding decimal
decimal_narrow k n h = narrow digits_most k n h

some : (most n : ℕ) → 0 < length (digits_in (suc most) n)
unfolding digits_in
some most n =
    lt_both (λ (l : List ℕ). 0 < length l) n 10 _ _
    (λ _. omega arith)
    (λ _. simp length-append (omega arith))

pub decimal_some : (n : ℕ) → 0 < length (decimal n)
unfolding decimal
decimal_some n = some _ n

-- ---- that it reads back

value_last : (v d : ℕ) (ds : List ℕ) → value_from v (ds ++ (d ∷ [])) ≡ value_from v ds * 10 + (d - zero_glyph)
unfolding value_from
value_last v d [] = refl
value_last v d (e ∷ ds) = value_last (v * 10 + (e - zero_glyph)) d ds

reads : (k n : ℕ) → n < 10 ^ k → value_from 0 (digits_in k n) ≡ n
unfolding digits_in value_from
reads zero n h = omega arith
reads (suc k) n h =
    let power : 10 ^ suc k ≡ 10 ^ k * 10 = pow-suc 10 k in
    lt_both (λ (l : List ℕ). value_from 0 l ≡ n) n 10 _ _
    (λ _. omega arith)
    (λ _. rw (value_last, reads k (n / 10) (omega arith)) (omega arith))

pub reads_back : (n : ℕ) → n < 10 ^ digits_most → value_of (decimal n) ≡ n
unfolding decimal value_of
reads_back n h = reads digits_most n h
