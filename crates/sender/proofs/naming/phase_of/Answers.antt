-- `phase_of` tells by two bits what `phase_of` tells by its branches (`two_bits`); in-flight in its bounds reads back from the signed word as
-- it was, by `word`.
use mathlib.Core.Path.{◌≡◌, refl, sym, ap, ◌∙◌}
use mathlib.Core.Bool.{Bool, true, false, not, ◌&&◌, ◌||◌}
use Prim.Native.Nat.{ℕ, ◌+◌, ◌*◌, ◌≤◌}
use lib.Dec.{eqb}
use native.Mathlib.Omega.{arith}
use Rattle.rules.specs.Branch.{if_so, if_eq}
use Rattle.rules.specs.Mode.{mode_of}
use Rattle.ledger.proofs.Signs.{word}
use Rattle.sender.specs.Named.{has_room, phase_of}
use Rattle.sender.proofs.naming.phase_of.Goals as goal
use Rattle.sender.proofs.naming.phase_of.Goals.{After-has_room-room}

mode_most : (n : ℕ) (b : Bool) → n ≡ mode_of b → n ≤ 1
unfolding mode_of
mode_most n true e = omega arith
mode_most n false e = omega arith

-- whether something waits, and which of the two names it is then, and else; `idle`, `clear` and `still` say that there is no backlog, that
-- nothing is marked and that nothing flies
abbrev waits : Bool → Bool → Bool
waits idle clear = not idle || not clear

abbrev second : Bool → Bool → Bool → Bool → Bool
second idle clear still room = (waits idle clear && not room) || (not (waits idle clear) && not still)

two_bits : (idle clear still room : Bool)
    → 2 * mode_of (waits idle clear) + mode_of (second idle clear still room) ≡ if_so (idle && clear) (if_so still 0 1) (if_so room 2 3)
unfolding mode_of if_so
two_bits true true true room = refl
two_bits true true false room = refl
two_bits true false still true = refl
two_bits true false still false = refl
two_bits false clear still true = refl
two_bits false clear still false = refl

-- what `has_room` found, of in-flight as it was handed in
room : (c : After-has_room-room) → let a = c.args in
    has_room a.mtu a.cwnd a.totals.in_flight ≡ c.has_room-room.result
room c =
    let a = c.args in
    ap (has_room a.mtu a.cwnd) (sym (word a.totals.in_flight c.requires.flown)) ∙ sym c.has_room-room.ensures

pub overflow_mul-result : goal.overflow_mul-result
overflow_mul-result c = omega (arith, mode_most _ _ c.mode_of.ensures)

pub overflow_add-result : goal.overflow_add-result
overflow_add-result c = omega (arith, mode_most _ _ c.mode_of.ensures, mode_most _ _ c.mode_of-2.ensures)

pub returns : goal.returns
unfolding phase_of if_eq if_so
returns c =
    let t = c.args.totals in
    rw (c.mode_of.ensures, c.mode_of-2.ensures, room (goal.at.returns c).After-has_room-room)
    (two_bits (eqb t.backlog 0) (eqb t.marked 0) (eqb t.flying 0) c.has_room-room.result)
