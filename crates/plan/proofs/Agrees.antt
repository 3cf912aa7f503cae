-- What the judge keeps agrees with the context that a plan's first sends leave, made one after another (`Agrees`): before the first send
-- (`agrees_start`), and after each one that is accepted (`agrees_after`). So the number that it tells is the send's (`ahead_number_lem`).
-- Assumes nothing.
use mathlib.Core.Path.{◌≡◌, refl, sym, ap, ap₂, ◌∙◌}
use mathlib.Core.Logic.{by_cases}
use mathlib.Core.Bool.{Bool, true, false, not, ◌&&◌, ◌||◌}
use mathlib.Core.List.{List, ◌++◌}
use Prim.Native.Nat.{ℕ, suc, ◌-◌, ◌^◌, ◌≤◌, ◌<◌}
use native.Mathlib.Decide.{ℕ_discrete, dec_lt}
use native.Mathlib.Omega.{arith}
use lib.Dec.{leb, ltb, eqb}
use lib.ListN.{length, get_or, take, replicate, length-set, get_or-append}
use lib.Seq.{get_or-set_same, get_or-set_other, length-take-le, take_all}
use lib.IntN.{ℤ, pos, ◌+ℤ◌}
use borrow.Author.Tests.{le-ltb, lt-leb, le-leb, ne_eqb, eq-eqb}
use Rattle.std.proofs.lemmas.Bool.{and_right}
use Rattle.rules.specs.Branch.{if_so, so_yes, so_no, so_both, lt_yes, lt_no}
use Rattle.rules.specs.Rows.{first_of, first_here, first_later, none_here}
use Rattle.rules.specs.Test.{inside}
use Rattle.serial.specs.Psn.{psns}
use Rattle.window.specs.Limits.{time_end}
use Rattle.window.specs.declared.Settings.{Settings}
use Rattle.ledger.specs.Packets.{is_marked}
use Rattle.ledger.specs.Bounds.{size_least, Flown}
use Rattle.ledger.specs.Ring.{Ring, Ledger, cap_of, long_of, offset_of, packet_of}
use Rattle.ledger.specs.Rows.{new_rows, resend_rows, send_rows}
use Rattle.ledger.specs.Steps.{new_packet, resent_packet, push_of, resend_of}
use Rattle.ledger.specs.declared.Flow.{Flow}
use Rattle.ledger.proofs.Facts.{Facts, packet_some}
use Rattle.ledger.proofs.Judging.{new_facts, resend_facts}
use Rattle.ledger.proofs.Sends.{new_room, waits}
use Rattle.flow_table.specs.Words.{flows_most, first_flows, no_flow}
use Rattle.flow_table.specs.Lent.{filled}
use Rattle.flow_table.specs.Parts.{Rings}
use Rattle.flow_table.specs.declared.lent.Flows.{Flows}
use Rattle.flow_table.proofs.Records.{first_length, first_at}
use Rattle.flow_table.proofs.Turns.{filled_length}
use Rattle.sender.specs.World.{World, View, view_of, world_of, ring_of, ledger_in}
use Rattle.sender.specs.Bounds.{room_after}
use Rattle.sender.specs.Steps.{state_of, settled, send_step}
use Rattle.sender.specs.declared.Send.{Send}
use Rattle.sender.proofs.Views.{view_world}
use Rattle.sender.proofs.Stepping.{Sendable, send_facts}
use Rattle.sender.proofs.Rowing.{room_rows, judged_send, rows_resend, rows_new}
use Rattle.context.specs.Context.{Context, flow_count, cap_in, flow_in, ring_in, joined_of, shared_of, world_at, put_world}
use Rattle.context.specs.Sound.{sound_context}
use Rattle.context.specs.Events.{send_of, send_left}
use Rattle.context.specs.Look.{packet_in}
use Rattle.context.proofs.Sounds.{SoundContext, context_facts, flow_facts, others_of}
use Rattle.context.proofs.Puts.{put_count, put_cap, own_flow, own_ring, other_flow, other_ring}
use Rattle.context.proofs.Lifts.{send_changes}
use Rattle.context.proofs.Kept.{Stepped, ring_cap, send_stepped, stepped_rings, stepped_sound}
use Rattle.plan.specs.Plan.{planned_at}
use Rattle.plan.specs.Ahead.{flow_by, ahead_of, pushed, flows_after, ahead_after, is_again, again_to, waits_as, again_number, room_then}
use Rattle.plan.specs.Ahead.{ahead_number}
use Rattle.plan.specs.declared.Planned.{Planned}
use Rattle.plan.specs.declared.ahead.Ahead.{Ahead}
use Rattle.plan.proofs.Packets.{and_yes, again_waits, push_waits}

-- x is what a plan's first i sends leave of x₀, as far as a send is judged by it
pub record Agrees (time : ℕ) (x₀ : Context) (ws : List ℕ) (i : ℕ) (s : Ahead) (x : Context) : Type 0 where
  pub sound : sound_context x ≡ true
  pub settings : x.state.settings ≡ x₀.state.settings
  pub window : x.state.window ≡ x₀.state.window
  pub clock : x.state.clock ≤ time
  pub in_time : time < time_end
  pub count : flow_count x ≡ flow_count x₀
  pub cap : cap_in x ≡ cap_in x₀
  pub room : length s.flows.at ≡ flows_most
  pub flows : (k : ℕ) → k < flow_count x₀ → flow_by s k ≡ flow_in x k
  pub lows : (k : ℕ) → k < flow_count x₀ → (flow_in x k).low ≡ (flow_in x₀ k).low
  pub in_flight : s.in_flight ≡ x.state.totals.in_flight
  pub waiting : (k psn size : ℕ) → k < flow_count x₀ → psn < psns
      → waits_as size (packet_in k psn x) ≡ (waits_as size (packet_in k psn x₀) && not (again_to ws i k psn))

-- ---- before the first send

filled_at : (n : ℕ) (ys : List Flow) (k : ℕ) → k < n → length ys ≡ n → get_or (filled n ys) k no_flow ≡ get_or ys k no_flow
filled_at n ys k h e =
    get_or-append (take n ys) (replicate (flows_most - n) no_flow) no_flow k (omega (arith, length-take-le n ys (omega arith)))
    ∙ ap (λ (zs : List Flow). get_or zs k no_flow) (take_all n ys (omega arith))

module _ (x : Context) (e : sound_context x ≡ true) (time : ℕ) (later : x.state.clock ≤ time) (ended : time < time_end) (ws : List ℕ) where
  S₀ : SoundContext x
  S₀ = context_facts x e

  first_flow : (k : ℕ) → k < flow_count x → flow_by (ahead_of x) k ≡ flow_in x k
  unfolding ahead_of
  first_flow k h = filled_at (flow_count x) (first_flows (flow_count x) x.flows) k h (first_length (flow_count x) x.flows)
      ∙ first_at (flow_count x) x.flows k h

  pub agrees_start : Agrees time x ws 0 (ahead_of x) x
  unfolding ahead_of again_to
  agrees_start =
      record {
        sound = e;
        settings = refl;
        window = refl;
        clock = later;
        in_time = ended;
        count = refl;
        cap = refl;
        room = filled_length (flow_count x) (first_flows (flow_count x) x.flows) (omega (arith, first_length (flow_count x) x.flows))
            S₀.table.few;
        flows = first_flow;
        lows = λ k h. refl;
        in_flight = refl;
        waiting = λ k psn size h p. sym (and_yes _ true refl);
      }

-- ---- the number of a send

-- the rows of a resend, told by whether its packet waits
resend_number : (f : Flow) (r : Ring) (psn size : ℕ) → first_of (resend_rows f r psn size) ≡ if_so (waits_as size (packet_of f r psn)) 0 8
unfolding first_of waits_as if_so
resend_number f r psn size = turned (is_marked (packet_of f r psn)) (eqb size (packet_of f r psn).size)
  where
    turned : (m q : Bool) → ◌≡◌ {A = ℕ} (if_so (not m || not q) 8 0) (if_so (m && q) 0 8)
    turned true true = refl
    turned true false = refl
    turned false q = refl

-- a packet that waits, no earlier send sent it again, and this one does not
again_split : (w b c : Bool) → ((w && not b) && not c) ≡ (w && not (b || c))
again_split false b c = refl
again_split true true c = refl
again_split true false c = refl

module _ {time : ℕ} {x₀ : Context} {ws : List ℕ} {i : ℕ} {s : Ahead} {x : Context} (A : Agrees time x₀ ws i s x) where
  S : SoundContext x
  S = context_facts x A.sound

  pub agrees_flown : Flown (2 ^ 26) s.in_flight
  agrees_flown =
      rw A.in_flight (record { low = S.flown.low; high = omega (arith, S.flown.high, S.range.maxwnd_high) })

  not_late : (ltb time x.state.clock || leb time_end time) ≡ false
  not_late = rw (le-ltb time x.state.clock A.clock, lt-leb time_end time A.in_time)

  module _ (p : Planned) (fits : p.send.psn < psns) where
    abbrev k : ℕ
    k = p.flow

    abbrev a : Send
    a = p.send

    abbrev w : World
    w = world_at k x

    -- what the room leaves of a number
    room_same : (n : ℕ) → room_then x₀.state s.in_flight n ≡ room_after w.state n
    unfolding room_then room_after world_at joined_of
    room_same n = rw (A.settings, A.window, A.in_flight)

    module _ (h : k < flow_count x₀) where
      again_same : first_of (resend_rows (flow_in x k) (ring_in x k) a.psn a.size) ≡ again_number x₀ ws i k a
      unfolding again_number
      again_same =
          resend_number (flow_in x k) (ring_in x k) a.psn a.size
          ∙ ap (λ (b : Bool). if_so b 0 8) (A.waiting k a.psn a.size h fits)

      new_same : first_of (new_rows (flow_in x k) (cap_of (ring_in x k)) a.psn a.size)
          ≡ first_of (new_rows (flow_by s k) (cap_in x₀) a.psn a.size)
      new_same =
          ap₂ (λ (f : Flow) (c : ℕ). first_of (new_rows f c a.psn a.size)) (sym (A.flows k h))
          (ring_cap x S k (omega (arith, A.count)) ∙ A.cap)

      -- the number past 25 and 4
      abbrev past : ℕ
      past = if_so a.resend (again_number x₀ ws i k a) (first_of (new_rows (flow_by s k) (cap_in x₀) a.psn a.size))

      rows_same : room_then x₀.state s.in_flight past
          ≡ first_of (send_rows w.state.flow (ring_of w) a.psn a.size a.resend ++ room_rows w.state)
      unfolding world_at joined_of
      rows_same = by a.resend refl
        where
          by : (b : Bool) → a.resend ≡ b → room_then x₀.state s.in_flight past
              ≡ first_of (send_rows w.state.flow (ring_of w) a.psn a.size a.resend ++ room_rows w.state)
          by true e =
              room_same past
              ∙ judged_send w.state (ring_of w) a past _ refl
              (sym (so_yes a.resend _ _ _ e again_same) ∙ rows_resend w.state.flow (ring_of w) a.psn a.size a.resend e)
          by false e =
              room_same past
              ∙ judged_send w.state (ring_of w) a past _ refl
              (sym (so_no a.resend _ _ _ e new_same) ∙ rows_new w.state.flow (ring_of w) a.psn a.size a.resend e)

      -- the number past 25
      sized : first_of (send_of time k a x)
          ≡ if_so (inside size_least a.size x₀.state.settings.mtu) (room_then x₀.state s.in_flight past) 4
      unfolding world_at joined_of
      sized = by (inside size_least a.size x₀.state.settings.mtu) refl
        where
          there : leb (flow_count x) k ≡ false
          there = lt-leb (flow_count x) k (omega (arith, A.count))

          held : (b : Bool) → inside size_least a.size x₀.state.settings.mtu ≡ b
              → inside size_least a.size x.state.settings.mtu ≡ b
          held b e = ap (λ (t : Settings). inside size_least a.size t.mtu) A.settings ∙ e

          by : (b : Bool) → inside size_least a.size x₀.state.settings.mtu ≡ b → first_of (send_of time k a x)
              ≡ if_so (inside size_least a.size x₀.state.settings.mtu) (room_then x₀.state s.in_flight past) 4
          by true e =
              so_yes _ _ _ _ e
              (sym (first_later _ 3 _ _ not_late (first_later _ 25 _ _ there (first_later _ 4 _ _ (ap not (held true e)) rows_same))))
          by false e =
              so_no _ _ _ _ e
              (sym (first_later 4 3 _ _ not_late (first_later 4 25 _ _ there (first_here 4 4 _ _ (ap not (held false e)) refl))))

    -- THE NUMBER THAT IS TOLD IS THE SEND'S
    pub ahead_number_lem : ahead_number x₀ ws i s p ≡ first_of (send_of time k a x)
    unfolding ahead_number world_at joined_of
    ahead_number_lem =
        by_cases (dec_lt k (flow_count x₀)) (λ h. sym (lt_yes k (flow_count x₀) _ _ _ h (sized h)))
        (λ g.
        sym
        (lt_no k (flow_count x₀) _ _ _ (omega arith)
        (sym (first_later 25 3 _ _ not_late (first_here 25 25 _ _ (le-leb (flow_count x) k (omega (arith, A.count))) refl)))))

    -- ---- after a send that is accepted

    module _ (at_i : p ≡ planned_at ws i) (e : first_of (send_of time k a x) ≡ 0) where
      abbrev v : View
      v = send_step time a (view_of w)

      T : Stepped k x v
      T = send_stepped x S time k a e

      h : k < flow_count x
      h = T.there

      h₀ : k < flow_count x₀
      h₀ = omega (arith, T.there, A.count)

      P : Rings 1 (cap_in x) (world_of v).slots
      P = stepped_rings x S k T

      -- none of its flow's rows refuses it
      F : Sendable time a w.state (ring_of w)
      F =
          let p₃ = none_here 3 _ _ (omega arith) e in
          let p₂₅ = none_here 25 _ _ (omega arith) p₃.1 in
          send_facts time a w.state (ring_of w) (sym (first_later 0 3 _ _ p₃.0 (sym p₂₅.1)))

      G : Facts x.state.settings.mtu x.state.clock (flow_in x k) (ring_in x k)
      G = flow_facts x S k h

      marked_there : a.resend ≡ true → first_of (resend_rows (flow_in x k) (ring_in x k) a.psn a.size) ≡ 0
      unfolding world_at joined_of
      marked_there r = rows_resend (flow_in x k) (ring_in x k) a.psn a.size a.resend r ∙ F.rows

      new_there : a.resend ≡ false → first_of (new_rows (flow_in x k) (cap_of (ring_in x k)) a.psn a.size) ≡ 0
      unfolding world_at joined_of
      new_there r = rows_new (flow_in x k) (ring_in x k) a.psn a.size a.resend r ∙ F.rows

      -- there is room for its record, and a new packet is in the backlog
      pub in_eight : k < flows_most
      in_eight = omega (arith, T.there, S.table.few)

      pub in_backlog : a.resend ≡ false → a.size ≤ (flow_by s k).backlog
      in_backlog r = rw (A.flows k h₀) (new_facts (flow_in x k) _ a.psn a.size (new_there r)).1

      -- the flow's record
      flow_after : flow_by (ahead_after s p) k ≡ v.state.flow
      unfolding ahead_after flows_after send_step settled state_of world_at joined_of resend_of push_of pushed
      flow_after =
          so_both (λ (l : Ledger). flow_by (ahead_after s p) k ≡ l.flow) a.resend _ _
          (λ r. sym (ap (λ (fs : Flows). get_or fs.at k no_flow) (so_yes a.resend _ _ _ r refl)) ∙ A.flows k h₀ ∙ resent_flow)
          (λ r.
          sym (ap (λ (fs : Flows). get_or fs.at k no_flow) (so_no a.resend _ _ _ r refl))
          ∙ get_or-set_same s.flows.at k _ no_flow (omega (arith, A.room, S.table.few, T.there))
          ∙ ap (pushed a.size) (A.flows k h₀) ∙ pushed_flow)
        where
          resent_flow : flow_in x k ≡ (resend_of time a.psn (ledger_in (view_of w))).flow
          resent_flow = refl

          pushed_flow : pushed a.size (flow_in x k) ≡ (push_of time a.size (ledger_in (view_of w))).flow
          pushed_flow = refl

      -- another flow's is as it was
      flow_kept : (j : ℕ) → (j ≡ k → ⊥) → flow_by (ahead_after s p) j ≡ flow_by s j
      unfolding ahead_after flows_after
      flow_kept j ne =
          so_both (λ (fs : Flows). get_or fs.at j no_flow ≡ flow_by s j) a.resend _ _ (λ _. refl)
          (λ _. get_or-set_other s.flows.at k j _ no_flow ne)

      room_after_lem : length (ahead_after s p).flows.at ≡ flows_most
      unfolding ahead_after flows_after
      room_after_lem =
          so_both (λ (fs : Flows). length fs.at ≡ flows_most) a.resend _ _ (λ _. A.room)
          (λ _. length-set s.flows.at k _ ∙ A.room)

      in_flight_after : (ahead_after s p).in_flight ≡ v.state.totals.in_flight
      unfolding ahead_after send_step settled state_of world_at joined_of resend_of push_of
      in_flight_after =
          so_both (λ (l : Ledger). (s.in_flight +ℤ pos a.size) ≡ l.totals.in_flight) a.resend _ _ (λ r. again r) (λ r. new r)
        where
          again : a.resend ≡ true → (s.in_flight +ℤ pos a.size) ≡ (resend_of time a.psn (ledger_in (view_of w))).totals.in_flight
          again r =
              ap₂ (λ (z : ℤ) (n : ℕ). z +ℤ pos n) A.in_flight
              (resend_facts (flow_in x k) (ring_in x k) a.psn a.size (marked_there r)).1

          new : a.resend ≡ false → (s.in_flight +ℤ pos a.size) ≡ (push_of time a.size (ledger_in (view_of w))).totals.in_flight
          new r = ap (λ (z : ℤ). z +ℤ pos a.size) A.in_flight

      -- its packets that wait
      waiting_own : (psn size : ℕ) → psn < psns
          → waits_as size (packet_of v.state.flow v.slots psn) ≡ (waits_as size (packet_in k psn x) && not (is_again p k psn))
      unfolding send_step settled state_of is_again world_at joined_of resend_of push_of pushed is_marked
      waiting_own psn size hp =
          so_both (λ (l : Ledger). waits_as size (packet_of l.flow l.slots psn) ≡ (waits_as size (packet_in k psn x) && not (is_again p k psn)))
          a.resend _ _ again new
        where
          again : a.resend ≡ true
              → waits_as size (packet_of (resend_of time a.psn (ledger_in (view_of w))).flow (resend_of time a.psn (ledger_in (view_of w))).slots psn)
              ≡ (waits_as size (packet_in k psn x) && not (is_again p k psn))
          again r =
              let m = (resend_facts (flow_in x k) (ring_in x k) a.psn a.size (marked_there r)).0 in
              let o : offset_of (flow_in x k) a.psn < long_of (flow_in x k) =
              packet_some (flow_in x k) (ring_in x k) a.psn (omega (arith, waits (packet_in k a.psn x) m)) in
              again_waits _ _ (flow_in x k) (ring_in x k) G a.psn fits o (resent_packet time (packet_in k a.psn x)) refl size psn hp
              ∙ ap (λ (b : Bool). waits_as size (packet_in k psn x) && not b)
              (sym (ap₂ (λ (b c : Bool). b && c && eqb a.psn psn) r (eq-eqb k k refl)))

          new : a.resend ≡ false
              → waits_as size (packet_of (push_of time a.size (ledger_in (view_of w))).flow (push_of time a.size (ledger_in (view_of w))).slots psn)
              ≡ (waits_as size (packet_in k psn x) && not (is_again p k psn))
          new r =
              push_waits _ _ (flow_in x k) (ring_in x k) G (new_room _ _ (flow_in x k) (ring_in x k) G a.psn a.size (new_there r)).1
              (new_packet time a.size) refl size a.size psn
              ∙ sym (and_yes _ _ (ap (λ (b : Bool). not (b && eqb k k && eqb a.psn psn)) r))

      waiting_after : (j psn size : ℕ) → j < flow_count x₀ → psn < psns → waits_as size (packet_in j psn (send_left time k a x))
          ≡ (waits_as size (packet_in j psn x) && not (is_again p j psn))
      unfolding is_again
      waiting_after j psn size l hp =
          by_cases (ℕ_discrete j k)
          (λ s.
          rw s
          (ap₂ (λ (f : Flow) (r : Ring). waits_as size (packet_of f r psn)) (own_flow x S k h (world_of v) P)
          (own_ring x S k h (world_of v) P ∙ ap (λ (u : View). u.slots) (view_world (others_of k x) v T.sound_so))
          ∙ waiting_own psn size hp))
          (λ ne.
          ap₂ (λ (f : Flow) (r : Ring). waits_as size (packet_of f r psn)) (other_flow x S k h (world_of v) P j ne)
          (other_ring x S k h (world_of v) P j ne)
          ∙ sym (and_yes _ _ (ap (λ (b : Bool). not (b && eqb a.psn psn)) (and_right a.resend _ (ne_eqb k j (λ q. ne (sym q)))))))

      -- WHAT IS KEPT AGREES AFTER IT TOO
      pub agrees_after : Agrees time x₀ ws (suc i) (ahead_after s p) (send_left time k a x)
      unfolding again_to put_world shared_of send_step settled state_of world_at joined_of
      agrees_after =
          record {
            sound = stepped_sound x S k T;
            settings = T.settings_same ∙ A.settings;
            window = window_kept ∙ A.window;
            clock = clock_now;
            in_time = A.in_time;
            count = put_count x S k h (world_of v) P ∙ A.count;
            cap = put_cap x S k h (world_of v) P ∙ A.cap;
            room = room_after_lem;
            flows =
                λ j l.
                by_cases (ℕ_discrete j k)
                (λ s. rw s (flow_after ∙ sym (own_flow x S k h (world_of v) P)))
                (λ ne. flow_kept j ne ∙ A.flows j l ∙ sym (other_flow x S k h (world_of v) P j ne));
            lows =
                λ j l.
                by_cases (ℕ_discrete j k)
                (λ q. rw q (ap (λ (g : Flow). g.low) (own_flow x S k h (world_of v) P) ∙ low_kept ∙ A.lows k h₀))
                (λ ne. ap (λ (g : Flow). g.low) (other_flow x S k h (world_of v) P j ne) ∙ A.lows j l);
            in_flight = in_flight_after;
            waiting =
                λ j psn size l hp.
                waiting_after j psn size l hp
                ∙ ap₂ (λ (b c : Bool). b && not c) (A.waiting j psn size l hp) (ap (λ (q : Planned). is_again q j psn) at_i)
                ∙ again_split (waits_as size (packet_in j psn x₀)) (again_to ws i j psn) (is_again (planned_at ws i) j psn);
          }
        where
          window_kept : (send_left time k a x).state.window ≡ x.state.window
          window_kept = refl

          low_kept : v.state.flow.low ≡ (flow_in x k).low
          low_kept = ap (λ (g : Flow). g.low) (send_changes time (view_of w) a)

          clock_now : (send_left time k a x).state.clock ≤ time
          clock_now = omega arith
