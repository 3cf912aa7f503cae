-- `judge_next` walks the tests of a send: each branch opens one (proofs/Judging); what the send's own rows refuse goes on as it is.
-- In-flight in its bounds reads back from the signed word as it was, by `word`.
use mathlib.Core.Path.{◌≡◌, refl, sym, ap, ◌∙◌}
use mathlib.Core.Bool.{true}
use Prim.Native.Nat.{◌<◌}
use native.Mathlib.Omega.{arith}
use Rattle.std.specs.Prelude.{⊤, Err}
use Rattle.std.proofs.lemmas.Result.{err_from_is_err_and}
use Rattle.rules.specs.Branch.{eq_yes, eq_no, so_yes, so_no}
use Rattle.rules.specs.Test.{inside}
use Rattle.rules.specs.Verdict.{number_of, err_not}
use Rattle.ledger.specs.Bounds.{size_least}
use Rattle.ledger.proofs.Signs.{word}
use Rattle.sender.specs.Named.{has_room}
use Rattle.context.specs.Context.{flow_count}
use Rattle.context.specs.Lent.{context_given}
use Rattle.plan.specs.Ahead.{room_then}
use Rattle.plan.proofs.Judging.{rooms, ahead_25, ahead_4, ahead_own}
use Rattle.plan.proofs.ahead.judge_next.Goals as goal
use Rattle.plan.proofs.ahead.judge_next.Goals.{Else-count-p, Else-not-within, After-has_room}

-- past 25
inside_1 : (c : Else-count-p) →
    let handed = let a = c.args in
    context_given a.c a.flows.now a.outstanding.now a.marked.now a.sizes.now a.sent.now a.evs.now in
    c.args.p.flow < flow_count handed
inside_1 c = omega (arith, c.if-count-p.false, c.count.ensures)

inside_2 : (c : Else-not-within) → inside size_least c.args.p.send.size c.args.c.settings.mtu ≡ true
inside_2 c = sym c.within.ensures ∙ c.if-not-within.false

-- what `has_room` found, of in-flight as it was handed in
room : (c : After-has_room) → let a = c.args in
    has_room a.c.settings.mtu a.c.window.cwnd a.s.in_flight ≡ c.has_room.result
room c =
    let a = c.args in
    ap (has_room a.c.settings.mtu a.c.window.cwnd) (sym (word a.s.in_flight c.requires.i_bound.1)) ∙ sym c.has_room.ensures

pub returns-then-count-p : goal.returns-then-count-p
unfolding number_of
returns-then-count-p c =
    ahead_25 _ c.args.plan.now c.args.i c.args.s c.args.p (omega (arith, c.if-count-p.true, c.count.ensures))

pub returns-then-not-within : goal.returns-then-not-within
unfolding number_of
returns-then-not-within c =
    let g = goal.at.returns-then-not-within c in
    ahead_4 _ c.args.plan.now c.args.i c.args.s c.args.p (inside_1 g.Else-count-p)
    (sym c.within.ensures ∙ c.if-not-within.true)

pub returns-in_err-judge_packet : goal.returns-in_err-judge_packet
unfolding room_then
returns-in_err-judge_packet c =
    let g = goal.at.returns-in_err-judge_packet c in
    let p = err_from_is_err_and c.from_residual.result c.from_residual.ensures.1 in
    let n = number_of {T = ⊤} (Err c.in_err-judge_packet.field-0.0) in
    rw (p.1, p.2)
    (ahead_own _ c.args.plan.now c.args.i c.args.s c.args.p (inside_1 g.Else-count-p) (inside_2 g.Else-not-within) n n
    c.in_err-judge_packet.ensures (eq_no n 0 n _ n (err_not _ _ refl) refl))

pub has_room-requires-clause-mtu_bound : goal.has_room-requires-clause-mtu_bound
has_room-requires-clause-mtu_bound c =
    rooms _ c.requires.evs_value

pub returns-then-has_room : goal.returns-then-has_room
unfolding number_of room_then
returns-then-has_room c =
    let g = goal.at.returns-then-has_room c in
    ahead_own _ c.args.plan.now c.args.i c.args.s c.args.p (inside_1 g.Else-count-p) (inside_2 g.Else-not-within) 0 0
    c.in_ok-judge_packet.ensures (eq_yes 0 0 0 _ 0 refl (so_yes _ 0 0 6 (room g.After-has_room ∙ c.if-has_room.true) refl))

pub returns : goal.returns
unfolding number_of room_then
returns c =
    let g = goal.at.returns c in
    ahead_own _ c.args.plan.now c.args.i c.args.s c.args.p (inside_1 g.Else-count-p) (inside_2 g.Else-not-within) 0 6
    c.in_ok-judge_packet.ensures (eq_yes 0 0 6 _ 0 refl (so_no _ 6 0 6 (room g.After-has_room ∙ c.if-has_room.false) refl))
