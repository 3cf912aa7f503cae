-- `named` tests the room, on in-flight's word, and asks the flows from the turn on, then those before it (proofs/Coursing).
use mathlib.Core.Path.{◌≡◌, sym, ap, ◌∙◌}
use native.Mathlib.Nat.{sub-zero}
use native.Mathlib.Omega.{arith}
use Prim.Native.Nat.{ℕ}
use Rattle.ledger.proofs.Signs.{word}
use Rattle.sender.specs.Named.{has_room}
use Rattle.plan.specs.Course.{ready_by, first_from, flow_below}
use Rattle.plan.proofs.Coursing.{named_shut, named_front, named_back}
use Rattle.plan.proofs.course.named.Goals as goal
use Rattle.plan.proofs.course.named.Goals.{After-has_room}

-- what `has_room` found, of in-flight as it was handed in
room : (c : After-has_room) → let a = c.args in
    has_room a.c.settings.mtu a.c.window.cwnd a.s.ahead.in_flight ≡ c.has_room.result
room c =
    let a = c.args in
    ap (has_room a.c.settings.mtu a.c.window.cwnd) (sym (word a.s.ahead.in_flight c.requires.mtu_bound.2))
    ∙ sym c.has_room.ensures

pub returns-then-not-has_room : goal.returns-then-not-has_room
returns-then-not-has_room c =
    let g = goal.at.returns-then-not-has_room c in
    let a = c.args in
    named_shut a.c a.cap a.n a.s (room g.After-has_room ∙ c.if-not-has_room.true)

pub returns-in-Some : goal.returns-in-Some
returns-in-Some c =
    let g = goal.at.returns-in-Some c in
    let a = c.args in
    named_front a.c a.cap a.n a.s (room g.After-has_room ∙ c.if-not-has_room.false) c.in-Some.ensures

pub returns : goal.returns
returns c =
    let g = goal.at.returns c in
    let a = c.args in
    named_back a.c a.cap a.n a.s (room g.After-has_room ∙ c.if-not-has_room.false) (omega (arith, c.requires.turn_lt_n))
    c.in_default.ensures
    (c.first_ready-2.ensures ∙ ap (λ (m : ℕ). flow_below a.s.turn (first_from (ready_by a.cap a.s) 0 m)) (sub-zero a.s.turn))
