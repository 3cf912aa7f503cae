-- `head_ok` reads the two bits of the slot of low.
use Rattle.std.proofs.Common.{Bool, ◌||◌, eqb, ap, ◌∙◌, ap₂}
use Rattle.bits.specs.Bits.{bit_at}
use Rattle.ledger.proofs.sound.head_ok.Goals as goal

pub returns : goal.returns
returns c =
    let a = c.args in
    let here = c.place-i.ensures.0 in
    ap₂ (λ (x y : Bool). (eqb a.n 0 || x) || y) (c.is_set.ensures ∙ ap (bit_at a.ring.outstanding.now) here)
    (c.is_set-2.ensures ∙ ap (bit_at a.ring.marked.now) here)
