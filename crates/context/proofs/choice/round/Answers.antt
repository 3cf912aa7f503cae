-- `round` asks the flows from the held turn on, then those before it (proofs/Rounds). In-flight in its bounds reads back from the signed
-- word as it was, by `word`.
use mathlib.Core.Path.{◌≡◌, sym, ap, ◌∙◌}
use mathlib.Core.Bool.{true}
use Prim.Native.Nat.{◌≤◌}
use native.Mathlib.Omega.{arith}
use Rattle.ledger.proofs.Signs.{word}
use Rattle.sender.specs.Named.{has_room}
use Rattle.sender.specs.Bounds.{Bounded}
use Rattle.sender.proofs.Sounds.{holds_bounded}
use Rattle.context.specs.Context.{flow_count, flow_in, joined_of, world_at}
use Rattle.context.specs.Lent.{context_given}
use Rattle.context.specs.Turns.{window_open, offered_by, choice_of}
use Rattle.context.proofs.Sounds.{SoundContext, context_facts, one_holds}
use Rattle.context.proofs.Rounds.{round_shut, round_front, round_behind}
use Rattle.context.proofs.choice.round.Goals as goal
use Rattle.context.proofs.choice.round.Goals.{After-first_ready-first, After-has_room, Start}

facts : (c : Start) →
    let handed = let a = c.args in
    context_given a.c a.flows.now a.outstanding.now a.marked.now a.sizes.now a.sent.now a.evs.now in
    SoundContext (handed)
facts c =
    let handed = let a = c.args in
    context_given a.c a.flows.now a.outstanding.now a.marked.now a.sizes.now a.sent.now a.evs.now in
    context_facts (handed) c.requires

-- in-flight, MTU and cwnd are in the bounds that any flow's step relies on, and there is a flow
bounded : (c : Start) →
    let handed = let a = c.args in
    context_given a.c a.flows.now a.outstanding.now a.marked.now a.sizes.now a.sent.now a.evs.now in
    Bounded (joined_of c.args.c (flow_in (handed) 0))
unfolding world_at
bounded c =
    let handed = let a = c.args in
    context_given a.c a.flows.now a.outstanding.now a.marked.now a.sizes.now a.sent.now a.evs.now in
    let S = facts c in holds_bounded (world_at 0 (handed)) (one_holds (handed) S 0 S.table.some)

-- what `has_room` found, of in-flight as it was handed in
room : (c : After-has_room) →
    let handed = let a = c.args in
    context_given a.c a.flows.now a.outstanding.now a.marked.now a.sizes.now a.sent.now a.evs.now in
    window_open (handed) ≡ c.has_room.result
unfolding joined_of world_at
room c =
    let handed = let a = c.args in
    context_given a.c a.flows.now a.outstanding.now a.marked.now a.sizes.now a.sent.now a.evs.now in
    let facts : SoundContext (handed) = context_facts (handed) c.requires in
    let bounded : Bounded (joined_of c.args.c (flow_in (handed) 0)) = let S = facts in holds_bounded (world_at 0 (handed)) (one_holds (handed) S 0 S.table.some) in
    let a = c.args.c in
    ap (has_room a.settings.mtu a.window.cwnd) (sym (word a.totals.in_flight (bounded).flown)) ∙ sym c.has_room.ensures

-- the window has room, and the turn names a flow
opened : (c : After-first_ready-first) →
    let handed = let a = c.args in
    context_given a.c a.flows.now a.outstanding.now a.marked.now a.sizes.now a.sent.now a.evs.now in
    window_open (handed) ≡ true
unfolding joined_of world_at
opened c =
    let handed = let a = c.args in
    context_given a.c a.flows.now a.outstanding.now a.marked.now a.sizes.now a.sent.now a.evs.now in
    let facts : SoundContext (handed) = context_facts (handed) c.requires in
    let bounded : Bounded (joined_of c.args.c (flow_in (handed) 0)) = let S = facts in holds_bounded (world_at 0 (handed)) (one_holds (handed) S 0 S.table.some) in
    let room : window_open (handed) ≡ c.has_room.result = let a = c.args.c in
    ap (has_room a.settings.mtu a.window.cwnd) (sym (word a.totals.in_flight (bounded).flown)) ∙ sym c.has_room.ensures in
    room ∙ c.if-not-has_room.false

turn_in : (c : Start) →
    let handed = let a = c.args in
    context_given a.c a.flows.now a.outstanding.now a.marked.now a.sizes.now a.sent.now a.evs.now in
    (handed).state.turn ≤ flow_count (handed)
turn_in c = omega (arith, (facts c).turn_ok)

pub has_room-requires : goal.has_room-requires
unfolding joined_of
has_room-requires c =
    let B = bounded (goal.at.has_room-requires c).Start in
    record {
      flown = rw (word c.args.c.totals.in_flight B.flown) B.flown;
      mtu_bound = (B.mtu_high, B.cwnd_high);
    }

pub returns-then-not-has_room : goal.returns-then-not-has_room
unfolding choice_of offered_by
returns-then-not-has_room c =
    let handed = let a = c.args in
    context_given a.c a.flows.now a.outstanding.now a.marked.now a.sizes.now a.sent.now a.evs.now in
    let x = handed in
    sym (ap (offered_by x) (round_shut x (room (goal.at.returns-then-not-has_room c).After-has_room ∙ c.if-not-has_room.true)))

pub first_ready-first-requires : goal.first_ready-first-requires
first_ready-first-requires c = record {
  evs_value = c.requires;
  from_le_end = (omega (arith, c.count-n.ensures, turn_in (goal.at.first_ready-first-requires c).Start), omega (arith, c.count-n.ensures));
}

pub returns-in-Some : goal.returns-in-Some
unfolding choice_of
returns-in-Some c =
    let handed = let a = c.args in
    context_given a.c a.flows.now a.outstanding.now a.marked.now a.sizes.now a.sent.now a.evs.now in
    round_front (handed) (opened (goal.at.returns-in-Some c).After-first_ready-first) (turn_in (goal.at.returns-in-Some c).Start)
    (ap choice_of (sym c.in-Some.is) ∙ rw c.count-n.ensures at c.first_ready-first.ensures)

pub first_ready-requires : goal.first_ready-requires
first_ready-requires c = record {
  evs_value = c.requires;
  from_le_end = (omega arith, turn_in (goal.at.first_ready-requires c).Start);
}

pub returns : goal.returns
unfolding choice_of
returns c =
    let handed = let a = c.args in
    context_given a.c a.flows.now a.outstanding.now a.marked.now a.sizes.now a.sent.now a.evs.now in
    c.first_ready.ensures
    ∙ ap (offered_by (handed))
    (round_behind (handed) (opened (goal.at.returns c).After-first_ready-first) (turn_in (goal.at.returns c).Start)
    (ap choice_of (sym c.in_default.is) ∙ rw c.count-n.ensures at c.first_ready-first.ensures))
