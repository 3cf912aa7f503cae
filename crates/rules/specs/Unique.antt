-- "Prove that no two outcomes satisfy one promise": the laws for a promise of any type. A promise is an equation, "what is made of
-- the outcome ≡ what is wanted".
-- Assumes nothing.
use Rattle.std.specs.Prelude.{◌≡◌}
use Rattle.std.proofs.Common.{sym, ap, ◌∙◌}

-- no two outcomes satisfy it
abbrev pub OneOutcome : {A B : Type 0} → (A → B) → B → Type 0
OneOutcome {A} made wanted = (x y : A) → made x ≡ wanted → made y ≡ wanted → x ≡ y

-- what is made of an outcome tells the outcome
abbrev pub Tells : {A B : Type 0} → (A → B) → Type 0
Tells {A} made = (x y : A) → made x ≡ made y → x ≡ y

-- then no two satisfy the promise, whatever is wanted
pub unique : {A B : Type 0} (made : A → B) → Tells made → (wanted : B) → OneOutcome made wanted
unique made tells wanted x y e f = tells x y (e ∙ sym f)

-- the plainest promise, `outcome ≡ wanted`
pub unique_plain : {A : Type 0} (wanted : A) → OneOutcome (λ (x : A). x) wanted
unique_plain = unique (λ x. x) (λ x y e. e)

-- an outcome that can be read back from what is made of it is told by it
pub one_outcome : {A B : Type 0} (made : A → B) (back : B → A) → ((x : A) → back (made x) ≡ x) → (wanted : B) → OneOutcome made wanted
one_outcome made back same = unique made (λ x y e. sym (same x) ∙ (ap back e ∙ same y))
