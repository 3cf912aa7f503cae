-- What one send of a plan tells: whether the first sends send a packet again, a resend's number, and the number of a send past each test.
-- Assumes nothing.
use mathlib.Core.Path.{◌≡◌, refl, ap, ◌∙◌}
use mathlib.Core.Bool.{Bool, true, false, not, ◌&&◌, ◌||◌}
use mathlib.Core.List.{List}
use Prim.Native.Nat.{ℕ, zero, suc, ◌+◌, ◌^◌, ◌<◌, ◌≤◌}
use native.Mathlib.Omega.{arith}
use native.Mathlib.Numerals.{add-one}
use lib.Dec.{ltb, eqb}
use borrow.Author.Tests.{ltb-true, ltb-false}
use Rattle.std.proofs.lemmas.Bool.{or_right}
use Rattle.rules.specs.Branch.{if_so, so_yes, so_no, lt_yes, lt_no}
use Rattle.rules.specs.Rows.{first_of}
use Rattle.rules.specs.Test.{inside}
use Rattle.ledger.specs.Bounds.{size_least}
use Rattle.ledger.specs.Packets.{marked_status, is_marked}
use Rattle.ledger.specs.Rows.{new_rows}
use Rattle.ledger.specs.declared.Packet.{Packet}
use Rattle.sender.specs.declared.Send.{Send}
use Rattle.sender.proofs.Sounds.{holds_bounded}
use Rattle.context.specs.Context.{Context, flow_count, cap_in, joined_of, world_at}
use Rattle.context.specs.Sound.{sound_context}
use Rattle.context.specs.Look.{packet_in}
use Rattle.context.proofs.Sounds.{context_facts, one_holds}
use Rattle.plan.specs.Plan.{planned_at}
use Rattle.plan.specs.Ahead.{flow_by, is_again, again_to, waits_as, again_number, room_then, ahead_number}
use Rattle.plan.specs.declared.Planned.{Planned}
use Rattle.plan.specs.declared.ahead.Ahead.{Ahead}

-- ---- what the first sends send again

module _ (ws : List ℕ) (k psn : ℕ) where
  pub again_none : again_to ws 0 k psn ≡ false
  unfolding again_to
  again_none = refl

  -- one send more that does not
  pub again_not : (i : ℕ) (p : Planned) → p ≡ planned_at ws i → again_to ws i k psn ≡ false → is_again p k psn ≡ false
      → again_to ws (i + 1) k psn ≡ false
  unfolding again_to
  again_not i p g e f = rw (add-one i, again_to, e, ← g) f

  -- the last of n + 1 sends does, or one before it
  some_last : (n i : ℕ) (p : Planned) → p ≡ planned_at ws i → i ≤ n → is_again p k psn ≡ true → (i < n → again_to ws n k psn ≡ true)
      → (again_to ws n k psn || is_again (planned_at ws n) k psn) ≡ true
  some_last n i p g l e f = go (ltb i n) refl where
    go : (t : Bool) → ltb i n ≡ t → (again_to ws n k psn || is_again (planned_at ws n) k psn) ≡ true
    go true h = rw (f (ltb-true i n h))
    go false h =
        let here : i ≡ n = omega (arith, ltb-false i n h) in
        or_right (again_to ws n k psn) (is_again (planned_at ws n) k psn) (rw (← here, ← g) e)

  -- a send below n that does
  pub again_some : (n i : ℕ) (p : Planned) → p ≡ planned_at ws i → i < n → is_again p k psn ≡ true → again_to ws n k psn ≡ true
  unfolding again_to
  again_some zero i p g l e = absurd (omega arith)
  again_some (suc n) i p g l e = some_last n i p g (omega arith) e (λ h. again_some n i p g h e)

-- ---- a resend's number

-- neither test fails exactly where both hold
both_not : (a b c : Bool) → (not a || not b) ≡ c → (a && b) ≡ not c
both_not true true c e = ap not e
both_not true false c e = ap not e
both_not false b c e = ap not e

module _ (x : Context) (ws : List ℕ) (i k : ℕ) (a : Send) (y : Packet) (e : y ≡ packet_in k a.psn x) where
  -- whether it waits, as the code tests it
  waits : (t : Bool) → (not (eqb y.status marked_status) || not (eqb a.size y.size)) ≡ t
      → waits_as a.size (packet_in k a.psn x) ≡ not t
  unfolding waits_as is_marked
  waits t h = rw (← e) (both_not (eqb y.status marked_status) (eqb a.size y.size) t h)

  pub again_differs : (not (eqb y.status marked_status) || not (eqb a.size y.size)) ≡ true → 8 ≡ again_number x ws i k a
  unfolding again_number
  again_differs h = so_no _ 8 0 8 (rw (waits true h)) refl

  module _ (h : (not (eqb y.status marked_status) || not (eqb a.size y.size)) ≡ false) where
    pub again_sent : again_to ws i k a.psn ≡ true → 8 ≡ again_number x ws i k a
    unfolding again_number
    again_sent s = so_no _ 8 0 8 (rw (waits false h, s)) refl

    pub again_waits : again_to ws i k a.psn ≡ false → 0 ≡ again_number x ws i k a
    unfolding again_number
    again_waits s = so_yes _ 0 0 8 (rw (waits false h, s)) refl

-- ---- a send's number

module _ (x : Context) (ws : List ℕ) (i : ℕ) (s : Ahead) (p : Planned) where
  pub ahead_25 : flow_count x ≤ p.flow → 25 ≡ ahead_number x ws i s p
  unfolding ahead_number
  ahead_25 h = lt_no p.flow (flow_count x) _ _ _ h refl

  module _ (h : p.flow < flow_count x) where
    pub ahead_4 : inside size_least p.send.size x.state.settings.mtu ≡ false → 4 ≡ ahead_number x ws i s p
    unfolding ahead_number
    ahead_4 z = lt_yes p.flow (flow_count x) _ _ _ h (so_no _ _ _ _ z refl)

    -- past 25 and 4: what the send's own rows give, n, then the room, which leaves r
    pub ahead_own : inside size_least p.send.size x.state.settings.mtu ≡ true → (n r : ℕ)
        → n ≡ if_so p.send.resend (again_number x ws i p.flow p.send)
        (first_of (new_rows (flow_by s p.flow) (cap_in x) p.send.psn p.send.size))
        → r ≡ room_then x.state s.in_flight n → r ≡ ahead_number x ws i s p
    unfolding ahead_number
    ahead_own z n r g e = lt_yes p.flow (flow_count x) _ _ _ h (so_yes _ _ _ _ z (e ∙ ap (room_then x.state s.in_flight) g))

-- ---- the bounds of a sound context, by which no sum overflows

-- MTU and cwnd are in the bounds that any flow's step relies on, and there is a flow
pub rooms : (x : Context) → sound_context x ≡ true → (x.state.settings.mtu ≤ 2 ^ 14) × (x.state.window.cwnd ≤ 2 ^ 26)
unfolding world_at joined_of
rooms x e =
    let S = context_facts x e in
    let B = holds_bounded (world_at 0 x) (one_holds x S 0 S.table.some) in
    (B.mtu_high, B.cwnd_high)
