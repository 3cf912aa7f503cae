-- The number of the first row whose test holds is exact (`rows_exact`), of any rows whose numbers are not 0; those of each event of a flow
-- are such (`rows_some`).
-- Assumes nothing.
use mathlib.Core.Path.{◌≡◌, refl, sym, ap, ◌∙◌}
use mathlib.Core.Bool.{Bool, true, false, not, ◌&&◌}
use mathlib.Core.List.{List, [], ◌∷◌, append-nil}
use Prim.Native.Nat.{ℕ}
use lib.Dec.{eqb}
use borrow.Author.Tests.{eqb-false, not-true}
use Rattle.rules.specs.Branch.{if_so}
use Rattle.rules.specs.Rows.{Row, first_of}
use Rattle.rules.specs.Test.{both, whole}
use Rattle.sender.specs.Statements.{silent, First, Exact}
use Rattle.sender.proofs.Rowing.{first_past}
use Rattle.context.specs.Context.{Context}
use Rattle.demands.specs.Events.{Event, new_data, send, ack, nack, loss, path}
use Rattle.context_demands.specs.Events.{rows_at}

-- no row has the number 0
unfoldable pub some : List Row → Bool
some [] = true
some (x ∷ xs) = not (eqb x.number 0) && some xs

-- the first row that applies
found : (rows : List Row) (n : ℕ) → (n ≡ 0 → ⊥) → first_of rows ≡ n → First n rows
unfolding first_of if_so silent
found [] n h e = absurd (h (sym e))
found (x ∷ xs) n h e = go x.test refl e (found xs n h)
  where
    go : (t : Bool) → x.test ≡ t → if_so t x.number (first_of xs) ≡ n → (first_of xs ≡ n → First n xs) → First n (x ∷ xs)
    go true q f later = record {
      before = [];
      here = x;
      after = xs;
      order = refl;
      number_is = f;
      applies = q;
      none_before = refl;
    }
    go false q f later =
        let l = later f in
        record {
          before = x ∷ l.before;
          here = l.here;
          after = l.after;
          order = ap (λ (ys : List Row). x ∷ ys) l.order;
          number_is = l.number_is;
          applies = l.applies;
          none_before = whole (ap not q) l.none_before;
        }

first_given : (rows : List Row) (n : ℕ) → First n rows → first_of rows ≡ n
unfolding first_of if_so
first_given rows n f =
    ap first_of f.order ∙ first_past f.before (f.here ∷ f.after) f.none_before ∙ rw f.applies f.number_is

-- where no number is given, no test holds; and the other way round
none_silent : (rows : List Row) → some rows ≡ true → first_of rows ≡ 0 → silent rows ≡ true
unfolding first_of if_so silent some
none_silent [] s e = refl
none_silent (x ∷ xs) s e =
    let p = both (not (eqb x.number 0)) (some xs) s in
    go x.test e (eqb-false x.number 0 (not-true (eqb x.number 0) p.0)) (none_silent xs p.1)
  where
    go : (t : Bool) → if_so t x.number (first_of xs) ≡ 0 → (x.number ≡ 0 → ⊥) → (first_of xs ≡ 0 → silent xs ≡ true)
        → (not t && silent xs) ≡ true
    go true f h later = absurd (h f)
    go false f h later = later f

silent_none : (rows : List Row) → silent rows ≡ true → first_of rows ≡ 0
unfolding first_of
silent_none rows e = ap first_of (sym (append-nil rows)) ∙ first_past rows [] e

pub rows_exact : (rows : List Row) → some rows ≡ true → Exact rows (first_of rows)
rows_exact rows e = record { refused = found rows; first = first_given rows; accepted = none_silent rows e; none = silent_none rows }

-- of each event of a flow
pub rows_some : (k : ℕ) (e : Event) (x : Context) → some (rows_at k e x) ≡ true
unfolding some
rows_some k (new_data time bytes) x = refl
rows_some k (send time a) x = go a.resend refl
  where
    go : (b : Bool) → a.resend ≡ b → some (rows_at k (send time a) x) ≡ true
    go true q = rw q
    go false q = rw q
rows_some k (ack time a) x = refl
rows_some k (nack time a) x = refl
rows_some k (loss time a) x = refl
rows_some k (path time) x = refl
