-- `zero_run` looks at the bits, the numbers and the times; `in_and` puts them together. A number that is 0 has size and resend count 0
-- (`none_sized`), and a time that is 0 is not past 0 (`none_timed`).
use Rattle.std.proofs.Common.{ℕ, Bool, ◌&&◌, eqb, get_or, sym, refl, ap, ◌∙◌, ap₂}
use Rattle.bits.proofs.Words.{or_zero}
use Rattle.ledger.specs.Stretch.{sized_at, timed_at, clear_at, zero_at}
use Rattle.ledger.proofs.Stretches.{in_and, in_same, none_sized, none_timed}
use Rattle.ledger.proofs.sound.zero_run.Goals as goal

pub all_are-requires-clause-joined : goal.all_are-requires-clause-joined
all_are-requires-clause-joined c =
    record { none = refl; any = λ a b. tt; both = λ a b r e. ap (λ (x : ℕ). eqb x 0) e ∙ or_zero a b }

pub all_are-requires-2-clause-joined : goal.all_are-requires-2-clause-joined
all_are-requires-2-clause-joined c =
    record { none = refl; any = λ a b. tt; both = λ a b r e. ap (λ (x : ℕ). eqb x 0) e ∙ or_zero a b }

pub returns : goal.returns
unfolding zero_at sized_at timed_at
returns c =
    let a = c.args in
    let f = clear_at a.outstanding.now in
    let g = sized_at 0 0 0 a.sizes.now in
    let h = timed_at 0 a.sent.now in
    let sizes = in_same (λ i. eqb (get_or a.sizes.now i 0) 0) g a.from a.to (λ i. sym (none_sized (get_or a.sizes.now i 0))) in
    let times = in_same (λ i. eqb (get_or a.sent.now i 0) 0) h a.from a.to (λ i. sym (none_timed (get_or a.sent.now i 0))) in
    ap₂ (λ (x y : Bool). x && y)
    (ap₂ (λ (x y : Bool). x && y) c.none_set.ensures (c.all_are.ensures ∙ sizes)
    ∙ in_and f g (λ i. f i && g i) a.from a.to (λ i. refl))
    (c.all_are-2.ensures ∙ times)
    ∙ in_and (λ i. f i && g i) h (zero_at a.outstanding.now a.sizes.now a.sent.now) a.from a.to (λ i. refl)
