-- What follows of texts that were put: one after another, the buffer's length, the same text under another name.
-- Assumes nothing.
use mathlib.Core.Path.{◌≡◌, ap, ◌∙◌}
use Prim.Native.Nat.{ℕ, suc, ◌+◌}
use mathlib.Core.List.{List, [], ◌∷◌, ◌++◌}
use lib.ListN.{length, set, length-append}
use lib.Seq.{sets, length-sets}
use native.Mathlib.Nat.{add-zero}
use native.Mathlib.Omega.{arith}
use Rattle.text.specs.Decimal.{Put}

sets_append : (l : List ℕ) (i : ℕ) (vs ws : List ℕ) → sets (sets l i vs) (i + length vs) ws ≡ sets l i (vs ++ ws)
sets_append l i [] ws = rw (add-zero i)
sets_append l i (v ∷ vs) ws =
    let next : i + suc (length vs) ≡ suc i + length vs = omega arith in
    rw next (sets_append (set l i v) (suc i) vs ws)

-- one text after another is the two joined
pub then : {a b c xs ys : List ℕ} {at m n : ℕ} → Put a at xs b m → Put b m ys c n → Put a at (xs ++ ys) c n
then {a} {b} {c} {xs} {ys} {at} {m} {n} p q =
    record {
      past = omega (arith, p.past, q.past, length-append xs ys);
      is = q.is ∙ rw (p.is, p.past) (sets_append a at xs ys);
    }

-- the buffer's length stays
pub put_long : {a b xs : List ℕ} {at n : ℕ} → Put a at xs b n → length b ≡ length a
put_long {a} {b} {xs} {at} {n} p = ap length p.is ∙ length-sets a at xs

-- the same text under another name
pub renamed : {a b xs ys : List ℕ} {at n : ℕ} → xs ≡ ys → Put a at xs b n → Put a at ys b n
renamed e p = rw e at p
