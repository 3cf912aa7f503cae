-- A send of flow k that 01 permits: none of its refusals applies, of a context that holds together. Window and in-flight are shared, so
-- number 6 depends on all flows; PSN, backlog and ring are the flow's own.
-- Assumes nothing.
use Rattle.std.specs.Prelude.{◌≡◌, true, false, ℕ, ◌≤◌, ◌<◌}
use Rattle.ledger.specs.Packets.{is_marked}
use Rattle.ledger.specs.Ring.{long_of, packet_of}
use Rattle.window.specs.Limits.{time_end}
use Rattle.sender.specs.Named.{has_room}
use Rattle.sender.specs.declared.Send.{Send}
use Rattle.context.specs.Context.{Context, flow_count, cap_in, flow_in, ring_in}
use Rattle.context.specs.Sound.{sound_context}

-- a send for which 01 names no refusal, but for the packet itself
pub record Permitted (time k : ℕ) (a : Send) (x : Context) : Type 0 where
  -- not 2: state and buffers hold together
  pub holds_together : sound_context x ≡ true
  -- not 3: "time before the held clock, or 2^48 or more"
  pub not_before : x.state.clock ≤ time
  pub in_time : time < time_end
  -- not 25: "a flow out of range"
  pub there : k < flow_count x
  -- not 4: "size outside 41..MTU on a send"
  pub size_least_lem : 41 ≤ a.size
  pub size_most : a.size ≤ x.state.settings.mtu
  -- not 6: "in-flight + MTU > cwnd on a send"
  pub room : has_room x.state.settings.mtu x.state.window.cwnd x.state.totals.in_flight ≡ true

-- a new packet
pub record PermittedNew (time k : ℕ) (a : Send) (x : Context) : Type 0 where
  pub is_new : a.resend ≡ false
  pub permitted : Permitted time k a x
  -- not 8: "new packet's PSN is not next"
  pub psn_next : a.psn ≡ (flow_in x k).next
  -- not 5: "new packet larger than backlog"
  pub in_backlog : a.size ≤ (flow_in x k).backlog
  -- not 7: "next - low = capacity on a new packet"
  pub slot_free : long_of (flow_in x k) ≡ cap_in x → ⊥

-- a resend
pub record PermittedResend (time k : ℕ) (a : Send) (x : Context) : Type 0 where
  pub is_resend : a.resend ≡ true
  pub permitted : Permitted time k a x
  -- not 8: "a resend's PSN is not marked, or its size differs from the record"
  pub psn_marked : is_marked (packet_of (flow_in x k) (ring_in x k) a.psn) ≡ true
  pub same_size : a.size ≡ (packet_of (flow_in x k) (ring_in x k) a.psn).size
