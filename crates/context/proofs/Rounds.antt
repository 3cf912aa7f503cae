-- The round of turns (request M-108) as the code goes over it: the flows from the held turn on, then those before it, one after another.
-- Assumes nothing.
use mathlib.Core.Path.{◌≡◌, refl, sym, ap, ap₂, ◌∙◌}
use mathlib.Core.Bool.{Bool, true, false}
use mathlib.Core.List.{List, [], ◌∷◌, ◌++◌}
use mathlib.Core.Option.{Option, none, some}
use Prim.Native.Nat.{ℕ, zero, suc, ◌+◌, ◌-◌, ◌≤◌, ◌<◌}
use native.Mathlib.Nat.{sub-zero}
use native.Mathlib.Omega.{arith}
use lib.ListN.{take, drop}
use Rattle.rules.specs.Branch.{if_so, so_yes, so_no}
use Rattle.context.specs.Context.{Context, flow_count}
use Rattle.context.specs.Turns.{is_ready, numbers, round_of, first_ready, window_open, named_by, offered_by}
use Rattle.context.specs.declared.choice.Turn.{Turn}

-- ---- numbers one after another

numbers_drop : (k t n : ℕ) → t ≤ n → drop t (numbers k n) ≡ numbers (k + t) (n - t)
unfolding numbers
numbers_drop k zero n h =
    let e : k ≡ k + 0 = omega arith in
    let l : n ≡ n - 0 = omega arith in
    ap₂ numbers e l
numbers_drop k (suc t) zero h = absurd (let z : ⊥ = omega arith in z)
numbers_drop k (suc t) (suc n) h =
    let e : suc k + t ≡ k + suc t = omega arith in
    let l : n - t ≡ suc n - suc t = omega arith in
    numbers_drop (suc k) t n (omega arith) ∙ ap₂ numbers e l

numbers_take : (k t n : ℕ) → t ≤ n → take t (numbers k n) ≡ numbers k t
unfolding numbers
numbers_take k zero n h = refl
numbers_take k (suc t) zero h = absurd (let z : ⊥ = omega arith in z)
numbers_take k (suc t) (suc n) h = ap (λ (ks : List ℕ). k ∷ ks) (numbers_take (suc k) t n (omega arith))

-- THE ROUND: those from the turn on, then those before it
round_split : (turn n : ℕ) → turn ≤ n → round_of turn n ≡ numbers turn (n - turn) ++ numbers 0 turn
round_split turn n h = ap₂ (λ (a b : List ℕ). a ++ b) (numbers_drop 0 turn n h ∙ ap (λ (k : ℕ). numbers k (n - turn)) (omega arith))
    (numbers_take 0 turn n h)

-- the first of them, and the rest
numbers_cons : (k end : ℕ) → k < end → numbers k (end - k) ≡ k ∷ numbers (k + 1) (end - (k + 1))
unfolding numbers
numbers_cons k end h =
    let long : end - k ≡ suc (end - (k + 1)) = omega arith in
    let second : suc k ≡ k + 1 = omega arith in
    ap (numbers k) long ∙ ap (λ (a : ℕ). k ∷ numbers a (end - (k + 1))) second

numbers_none : (k end : ℕ) → end ≤ k → numbers k (end - k) ≡ []
unfolding numbers
numbers_none k end h =
    let long : end - k ≡ 0 = omega arith in
    ap (numbers k) long

-- ---- who is named, flow by flow

module _ (x : Context) (ready : ℕ → Bool) where
  -- past the last flow nobody is
  pub named_none : (k end : ℕ) → end ≤ k → first_ready ready (numbers k (end - k)) ≡ none
  unfolding first_ready
  named_none k end h = ap (first_ready ready) (numbers_none k end h)

  asked : (k end : ℕ) → k < end
      → first_ready ready (numbers k (end - k)) ≡ if_so (ready k) (some k) (first_ready ready (numbers (k + 1) (end - (k + 1))))
  unfolding first_ready
  asked k end h = ap (first_ready ready) (numbers_cons k end h)

  here : (b : Bool) (k : ℕ) (o : Option ℕ) {t : Turn} → some t ≡ offered_by x (if_so b (some k) none)
      → some t ≡ offered_by x (if_so b (some k) o)
  unfolding if_so offered_by
  here true k o e = e
  here false k o {t} e = absurd (let z : ◌≡◌ {A = ℕ} 0 1 = cc in omega arith)

  -- a ready flow is named ..
  pub named_here : (k end : ℕ) → k < end → {t : Turn} → some t ≡ offered_by x (if_so (ready k) (some k) none)
      → some t ≡ offered_by x (first_ready ready (numbers k (end - k)))
  named_here k end h e = here (ready k) k _ e ∙ sym (ap (offered_by x) (asked k end h))

  passed : (b : Bool) (k : ℕ) (o : Option ℕ) → none ≡ offered_by x (if_so b (some k) none) → if_so b (some k) o ≡ o
  unfolding if_so offered_by
  passed true k o e = absurd (let z : ◌≡◌ {A = ℕ} 0 1 = cc in omega arith)
  passed false k o e = refl

  -- .. and one that is not is passed
  pub named_later : (k end : ℕ) → k < end → none ≡ offered_by x (if_so (ready k) (some k) none)
      → first_ready ready (numbers k (end - k)) ≡ first_ready ready (numbers (k + 1) (end - (k + 1)))
  named_later k end h e = asked k end h ∙ passed (ready k) k _ e

  -- of two stretches the second is asked where the first names nobody
  named_front : (xs ys : List ℕ) {t : Turn} → some t ≡ offered_by x (first_ready ready xs)
      → some t ≡ offered_by x (first_ready ready (xs ++ ys))
  unfolding first_ready offered_by if_so
  named_front [] ys e = absurd (let z : ◌≡◌ {A = ℕ} 0 1 = cc in omega arith)
  named_front (k ∷ xs) ys {t} e = by (ready k) (λ q. named_front xs ys q) e
    where
      by : (b : Bool) → (some t ≡ offered_by x (first_ready ready xs) → some t ≡ offered_by x (first_ready ready (xs ++ ys)))
          → some t ≡ offered_by x (if_so b (some k) (first_ready ready xs))
          → some t ≡ offered_by x (if_so b (some k) (first_ready ready (xs ++ ys)))
      by true on q = q
      by false on q = on q

  named_behind : (xs ys : List ℕ) → none ≡ offered_by x (first_ready ready xs)
      → first_ready ready (xs ++ ys) ≡ first_ready ready ys
  unfolding first_ready offered_by if_so
  named_behind [] ys e = refl
  named_behind (k ∷ xs) ys e = by (ready k) (λ q. named_behind xs ys q) e
    where
      by : (b : Bool) → (none ≡ offered_by x (first_ready ready xs) → first_ready ready (xs ++ ys) ≡ first_ready ready ys)
          → none ≡ offered_by x (if_so b (some k) (first_ready ready xs))
          → if_so b (some k) (first_ready ready (xs ++ ys)) ≡ first_ready ready ys
      by true on q = absurd (let z : ◌≡◌ {A = ℕ} 0 1 = cc in omega arith)
      by false on q = on q

-- ---- the whole round

module _ (x : Context) where
  -- "in-flight + MTU > cwnd"
  pub round_shut : window_open x ≡ false → named_by x ≡ none
  unfolding named_by
  round_shut e = sym (so_no (window_open x) _ _ _ e refl)

  module _ (room : window_open x ≡ true) (h : x.state.turn ≤ flow_count x) where
    split : named_by x ≡ first_ready (is_ready x) (numbers x.state.turn (flow_count x - x.state.turn) ++ numbers 0 x.state.turn)
    unfolding named_by
    split =
        sym (so_yes (window_open x) _ _ _ room (ap (first_ready (is_ready x)) (sym (round_split x.state.turn (flow_count x) h))))

    -- a flow from the turn on
    pub round_front : {t : Turn}
        → some t ≡ offered_by x (first_ready (is_ready x) (numbers x.state.turn (flow_count x - x.state.turn)))
        → some t ≡ offered_by x (named_by x)
    round_front e = named_front x (is_ready x) _ _ e ∙ sym (ap (offered_by x) split)

    -- or else one before it
    pub round_behind : none ≡ offered_by x (first_ready (is_ready x) (numbers x.state.turn (flow_count x - x.state.turn)))
        → first_ready (is_ready x) (numbers 0 (x.state.turn - 0)) ≡ named_by x
    round_behind e =
        ap (λ (n : ℕ). first_ready (is_ready x) (numbers 0 n)) (sub-zero x.state.turn) ∙ sym (split ∙ named_behind x (is_ready x) _ _ e)
