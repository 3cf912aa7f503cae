-- `judge_send` walks the rows of a send: each branch opens one; the ledger's, whose refusal goes on as it is, and then 6 are the last.
use mathlib.Core.Path.{refl, sym, ap, ◌∙◌}
use mathlib.Core.Bool.{not}
use Rattle.std.specs.Prelude.{⊤, Err}
use Rattle.std.proofs.lemmas.Result.{err_from_is_err_and}
use Rattle.rules.specs.Branch.{eq_yes, eq_no, so_yes, so_no}
use Rattle.rules.specs.Verdict.{number_of, err_not}
use Rattle.ledger.specs.Lent.{memory_of}
use Rattle.ledger.specs.Memory.{shown}
use Rattle.ledger.proofs.Signs.{word}
use Rattle.sender.specs.Named.{has_room}
use Rattle.sender.specs.Bounds.{room_after}
use Rattle.sender.proofs.Rowing.{judged_3, judged_field, judged_on, judged_send}
use Rattle.sender.proofs.judge.judge_send.Goals as goal

pub returns-then-bad_time : goal.returns-then-bad_time
unfolding number_of
returns-then-bad_time c = judged_3 _ _ _ _ (sym c.bad_time.ensures ∙ c.if-bad_time.true)

pub returns-then-not-within : goal.returns-then-not-within
unfolding number_of
returns-then-not-within c =
    judged_field _ _ _ _ (sym c.bad_time.ensures ∙ c.if-bad_time.false) (ap not (sym c.within.ensures ∙ c.if-not-within.true))

pub returns-in_err-judge_packet : goal.returns-in_err-judge_packet
unfolding room_after
returns-in_err-judge_packet c =
    let p = err_from_is_err_and c.from_residual.result c.from_residual.ensures.1 in
    let slots = shown c.args.c.flow.low c.args.c.flow.next
    (memory_of c.args.ring) in
    let n = number_of {T = ⊤} (Err c.in_err-judge_packet.field-0.0) in
    let known = judged_send c.args.c slots c.args.a n n (eq_no n 0 n _ n (err_not _ _ refl) refl) (c.in_err-judge_packet.ensures) in
    rw (p.1, p.2) (judged_on _ _ _ _ (sym c.bad_time.ensures ∙ c.if-bad_time.false) (ap not (sym c.within.ensures ∙ c.if-not-within.false)) n known)

pub returns-then-has_room : goal.returns-then-has_room
unfolding number_of room_after
returns-then-has_room c =
    let slots = shown c.args.c.flow.low c.args.c.flow.next
    (memory_of c.args.ring) in
    let a = c.args.c in
    let room = ap (has_room a.settings.mtu a.window.cwnd) (sym (word a.totals.in_flight c.requires.bounded.flown))
    ∙ sym c.has_room.ensures in
    judged_on _ _ _ _ (sym c.bad_time.ensures ∙ c.if-bad_time.false) (ap not (sym c.within.ensures ∙ c.if-not-within.false)) 0
    (judged_send a slots c.args.a 0 0 (eq_yes 0 0 0 _ 0 refl (so_yes _ 0 0 6 (room ∙ c.if-has_room.true) refl)) (c.in_ok-judge_packet.ensures))

pub returns : goal.returns
unfolding number_of room_after
returns c =
    let slots = shown c.args.c.flow.low c.args.c.flow.next
    (memory_of c.args.ring) in
    let a = c.args.c in
    let room = ap (has_room a.settings.mtu a.window.cwnd) (sym (word a.totals.in_flight c.requires.bounded.flown))
    ∙ sym c.has_room.ensures in
    judged_on _ _ _ _ (sym c.bad_time.ensures ∙ c.if-bad_time.false) (ap not (sym c.within.ensures ∙ c.if-not-within.false)) 6
    (judged_send a slots c.args.a 0 6 (eq_yes 0 0 6 _ 0 refl (so_no _ 6 0 6 (room ∙ c.if-has_room.false) refl)) (c.in_ok-judge_packet.ensures))
