-- What a choice names can send (request M-108): 01 permits that send of the context that the choice leaves, in which only the turn differs.
-- With no marked packet the PSN is next and the ring is not full (`permits_new`); with one, the PSN is that of a marked packet, whose size
-- is in 41..MTU (`permits_resend`).
-- Assumes nothing.
use mathlib.Core.Path.{◌≡◌, refl, sym, ap, ◌∙◌}
use mathlib.Core.Logic.{inl, inr}
use mathlib.Core.Bool.{Bool, true, false, not}
use mathlib.Core.Option.{some}
use Prim.Native.Nat.{ℕ, ◌+◌, ◌%◌, ◌≤◌, ◌<◌}
use native.Mathlib.Omega.{arith}
use lib.Dec.{ltb}
use borrow.Author.Tests.{eqb-false, not-true}
use Rattle.rules.specs.Test.{both}
use Rattle.window.specs.Limits.{time_end}
use Rattle.ledger.specs.Ring.{long_of, packet_of}
use Rattle.sender.specs.declared.Send.{Send}
use Rattle.context.specs.Context.{Context, Answered, flow_count, cap_in, flow_in, ring_in}
use Rattle.context.specs.Sound.{sound_context}
use Rattle.context.specs.Events.{on_send}
use Rattle.context.specs.Turns.{has_marked, ring_full, turn_of, with_turn, with_turn_of}
use Rattle.context.specs.declared.choice.Turn.{Turn}
use Rattle.context.proofs.Sounds.{context_facts}
use Rattle.context.proofs.Offers.{offer_next, offer_is_marked, offer_live, ready_new}
use Rattle.context.proofs.Fair.{NamedIn, named_there, named_ready, choice_cases, choose_lasts}
use Rattle.context_demands.specs.Permitted.{Permitted, PermittedNew, PermittedResend}
use Rattle.context_demands.specs.Turns.{NamedSends}
use Rattle.context_demands.proofs.Sends.{permitted_send}
use Rattle.context_demands.proofs.Turns.{somebody}

-- what is named, as a send of some size
abbrev send_of : Turn → ℕ → Send
send_of t size = record { psn = t.psn; size = size; resend = t.resend }

-- the sizes that it can have: of a marked packet the one recorded ..
abbrev MarkedFits : Context → Turn → ℕ → Type 0
MarkedFits x t size = t.resend ≡ true → size ≡ (packet_of (flow_in x t.flow) (ring_in x t.flow) t.psn).size

-- .. and of a new one any in 41..MTU that the backlog has
abbrev NewFits : Context → Turn → ℕ → Type 0
NewFits x t size =
    t.resend ≡ false → (41 ≤ size) × (size ≤ x.state.settings.mtu) × (size ≤ (flow_in x t.flow).backlog)

-- flow k is named, and the context holds together with the turn after it too
module _ (x : Context) (turn k time size : ℕ) (h : sound_context x ≡ true) (N : NamedIn x k)
    (lasts : sound_context (with_turn_of turn x) ≡ true) (not_before : x.state.clock ≤ time) (in_time : time < time_end) where
  -- what it names
  abbrev a : Send
  a = send_of (turn_of x k) size

  -- none of 2, 3, 25, 4 and 6 applies
  permits : 41 ≤ size → size ≤ x.state.settings.mtu → Permitted time k a (with_turn_of turn x)
  unfolding with_turn
  permits least most =
      record {
        holds_together = lasts;
        not_before = not_before;
        in_time = in_time;
        there = named_there N;
        size_least_lem = least;
        size_most = most;
        room = N.window_open_lem;
      }

  -- a flow that is ready without a marked packet has a free slot
  free : has_marked x k ≡ false → long_of (flow_in x k) ≡ cap_in x → ⊥
  free e =
      let ready = both (ltb 0 (flow_in x k).backlog) (not (ring_full x k)) (sym (ready_new x k e) ∙ named_ready N) in
      eqb-false (long_of (flow_in x k)) (cap_in x) (not-true (ring_full x k) ready.1)

  -- nor 8, 5 and 7 to a new packet ..
  permits_new : NewFits x (turn_of x k) size → has_marked x k ≡ false → PermittedNew time k a (with_turn_of turn x)
  unfolding turn_of
  permits_new fits e =
      record {
        is_new = e;
        permitted = permits (fits e).0 (fits e).1;
        psn_next = offer_next x (context_facts x h) k (named_there N) e;
        in_backlog = (fits e).2;
        slot_free = free e;
      }

  -- .. nor 8 to a resend
  permits_resend : MarkedFits x (turn_of x k) size → has_marked x k ≡ true → PermittedResend time k a (with_turn_of turn x)
  unfolding turn_of
  permits_resend same e =
      let S = context_facts x h in
      let L = offer_live x S k (named_there N) e in
      record {
        is_resend = e;
        permitted = permits (omega (arith, same e, L.size_least_lem)) (omega (arith, same e, L.size_most));
        psn_marked = offer_is_marked x S k (named_there N) e;
        same_size = same e;
      }

  -- so it is accepted
  sends : MarkedFits x (turn_of x k) size → NewFits x (turn_of x k) size → (on_send time k a (with_turn_of turn x)).number ≡ 0
  sends same fits = by (has_marked x k) refl
    where
      by : (b : Bool) → has_marked x k ≡ b → (on_send time k a (with_turn_of turn x)).number ≡ 0
      by true e = ap (λ (c : Answered). c.number) (permitted_send time k a (with_turn_of turn x) (inr (permits_resend same e)))
      by false e = ap (λ (c : Answered). c.number) (permitted_send time k a (with_turn_of turn x) (inl (permits_new fits e)))

-- WHAT A CHOICE NAMES IS ACCEPTED by the context that the choice leaves
pub named_sends : NamedSends
unfolding turn_of
named_sends x t time size e not_before in_time same fits =
    choice_cases
    (λ c. (sound_context x ≡ true → sound_context c.after ≡ true) → c.turn ≡ some t
    → MarkedFits x t size → NewFits x t size → (on_send time t.flow (send_of t size) c.after).number ≡ 0) x
    (λ _ _ q. absurd (somebody (sym q))) (λ _ _ _ q. absurd (somebody (sym q)))
    (λ k h N lasts q.
    let is : t ≡ turn_of x k = cc in
    rw is (sends x ((k + 1) % flow_count x) k time size h N (lasts h) not_before in_time))
    (choose_lasts x) e same fits
