-- Instances, so that no theorem is empty, by computation: two flows of 64 slots, document 01's settings E. An accepted setting up and a
-- history of both flows from it, with its sums, a flow out of range among them; a list of events and choices in which flow 1 is ready at
-- every choice (`fair_turns`); and a burst of two ACKs of flow 1, the newest first and doubled, which satisfies every premise of `burst`.
-- Assumes nothing.
use mathlib.Core.Path.{◌≡◌, refl}
use mathlib.Core.Logic.{◌⊎◌, inl, inr, ⊎_elim}
use mathlib.Core.Bool.{Bool, true, false}
use mathlib.Core.List.Memᴰ
use mathlib.Core.List.{List, [], ◌∷◌, Memᴰ}
use Prim.Native.Nat.{ℕ, zero, suc, ◌*◌, ◌<◌}
use native.Mathlib.Omega.{arith}
use lib.Count.{count_leading_zeros}
use lib.IntN.{pos}
use lib.ListN.{replicate, take}
use Rattle.rules.specs.Branch.{if_so, if_lt, if_eq}
use Rattle.rules.specs.Mode.{is_on, is_mode}
use Rattle.rules.specs.Test.{inside}
use Rattle.rules.specs.Rows.{first_of}
use Rattle.bits.specs.Bits.{bit, is_word, bit_at, one, value_of, words_of, sum_to}
use Rattle.serial.specs.Wrap.{minus}
use Rattle.serial.specs.Psn.{plus, bit_of, covered, back_of, span_of, unsent_or_old}
use Rattle.serial.specs.Count.{counts, half, ahead_of, is_old, forward_of}
use Rattle.window.specs.Range.{is_ev_count, in_range}
use Rattle.window.specs.Sound.{sound_window, fresh_of}
use Rattle.window.specs.Limits.{max_wnd_of}
use Rattle.window.specs.Delays.{one_send, sample_of, avg_delay_of, update_delay_of, feed_of, update_base_rtt_of, measure_of}
use Rattle.window.specs.Quick.{fires_of, fire_of, restart_of, quick_adapt_of}
use Rattle.window.specs.Cases.{count_newly_of, leave_fast_mode_of, raise_cwnd_of, is_near, fast_increase_of, add_inc_bytes_of, proportional_increase_of}
use Rattle.window.specs.Cases.{fair_increase_of, factor_of, may_decrease, multiplicative_decrease_of, respond_of}
use Rattle.window.specs.Adjust.{enough_received, period_passed, fulfill_adjustment_of, adjust_of}
use Rattle.window.specs.Events.{go_on_of, react_of, shrink_of, loss_of}
use Rattle.window.specs.Events as window
use Rattle.ledger.specs.Packets.{is_flying, is_marked, is_done, is_out, flying_one, marked_one, marked_size, sum_of, cover_one, cover_all, covered_sum}
use Rattle.ledger.specs.Packets.{done_run}
use Rattle.ledger.specs.Bounds.{in_bounds, sinks}
use Rattle.ledger.specs.Ring.{packet_at, tabulate, place_of, age_of, lay, laid, queue_of, long_of, packets, offset_of, packet_of}
use Rattle.ledger.specs.Memory.{Memory, memory, packed, size_in, resent_in, slots_of, in_window, status_of, words_at, status_at, shown}
use Rattle.ledger.specs.Memory.{is_out_status, is_mark_status, stored}
use Rattle.ledger.specs.Seek.{unmarked_run, next_marked_of}
use Rattle.ledger.specs.Sound.{all_to, is_capacity, is_ring, is_live, is_zero, slot_ok, head_ok, stands}
use Rattle.ledger.specs.Steps.{changed, supplied, supplied_totals, push_of, resend_of, mark_of, held_of, newly_of, acknowledge_of}
use Rattle.flow_table.specs.Words.{is_table, flow_at, with_flow}
use Rattle.flow_table.specs.Words.{words_of as recordWords}
use Rattle.flow_table.specs.Parts.{part, around, part_of, put_part}
use Rattle.sender.specs.Named.{has_room, phase_of}
use Rattle.sender.specs.Sound.{times_ok}
use Rattle.sender.specs.Start.{fresh_state as freshSender}
use Rattle.sender.specs.Steps.{state_of, settled, avoided_in, new_data_state, new_data_step, send_step, ack_sample, ack_step, loss_step}
use Rattle.sender.specs.declared.Send.{Send}
use Rattle.sender.specs.declared.Ack.{Ack}
use Rattle.context.specs.Context.{Context, context, flow_count, flow_in, joined_of, shared_of, world_at, put_world}
use Rattle.context.specs.Sound.{is_cut, stands_at, totals_over, named_ok, sound_context}
use Rattle.context.specs.Look.{marked_from}
use Rattle.context.specs.Turns.{any_marked, is_ready, numbers, first_ready, named_by, turn_of, offered_by, with_turn, turn_after}
use Rattle.context.specs.Turns.{past_choose, on_choose}
use Rattle.context.specs.Start.{lengths_ok, fresh_state, fresh_table, on_set_up}
use Rattle.context.specs.Events.{decided, on_new_data, on_send, on_ack, on_loss}
use Rattle.demands.specs.Events.{Event, new_data, send, ack, loss}
use Rattle.demands.specs.Sums.{remember, sent_by, reported_by, lost_by}
use Rattle.demands.specs.Burst.{Arrival, covers_psn}
use Rattle.demands.specs.Cases.{settings_e}
use Rattle.context_demands.specs.Events.{Flowed, run, SetUp}
use Rattle.context_demands.specs.Sums.{no_pasts, remember_at, sum}
use Rattle.context_demands.specs.Burst.{ledgers_of, deliver, Newest}
use Rattle.context_demands.specs.Turns.{Step, event, choice, run_all, named_in, ReadyThroughout}
use Rattle.context_demands.proofs.Bursts.{burst}
use Rattle.context_demands.proofs.Turns.{fair_turns}

-- ---- an accepted setting up: two flows of 64 slots

abbrev table : List ℕ
table = replicate 8 0

abbrev slots : Memory
slots = memory (replicate 2 0) (replicate 2 0) (replicate 128 0) (replicate 128 0)

abbrev free : List ℕ
free = replicate 256 0

unfoldable pub fresh : Context
fresh = context (fresh_state settings_e) table slots free

pub set_up_here : SetUp settings_e table slots free fresh
unfolding fresh on_set_up first_of if_so if_eq settings_e in_range is_mode inside is_ev_count lengths_ok is_table is_cut is_capacity
    fresh_table recordWords
set_up_here = record { accepted = refl; gives = refl }

-- ---- a history from it: flow 1's packet is reported, flow 0's is lost and sent again; there is no flow 2

abbrev of : ℕ → Event → Flowed
of k e = record { flow = k; event = e }

abbrev packet : ℕ → Bool → Send
packet psn resend = record { psn = psn; size = 4096; resend = resend }

abbrev ack_of : ℕ → ℕ → Ack
ack_of cum count = record {
  cum = cum;
  map = 0;
  trigger = cum;
  count = count;
  service = 4;
  ev = 0;
  marked = false;
  retx = false;
}

abbrev pub worked : List Flowed
worked =
    of 0 (new_data 0 4096)
    ∷ of 1 (new_data 0 4096)
    ∷ of 0 (send 10 (packet 0 false))
    ∷ of 1 (send 20 (packet 0 false))
    ∷ of 2 (send 20 (packet 0 false))
    ∷ of 1 (ack 110 (ack_of 0 16))
    ∷ of 0 (loss 220 (record { psn = 0; ev = 0 }))
    ∷ of 0 (send 230 (packet 0 true))
    ∷ []

-- three packets sent, one reported, one taken out as lost: one in flight
abbrev pub WorkedSums : Type 0
WorkedSums = (sum sent_by fresh no_pasts worked ≡ 3 * 4096) × (sum reported_by fresh no_pasts worked ≡ 4096)
    × (sum lost_by fresh no_pasts worked ≡ 4096)
    × ((run fresh worked).state.totals.in_flight ≡ pos 4096)

-- ---- the start of the burst: two packets of each flow

unfoldable pub start : Context
start =
    run fresh
    (of 0 (new_data 0 8192)
    ∷ of 1 (new_data 0 8192)
    ∷ of 0 (send 10 (packet 0 false))
    ∷ of 1 (send 20 (packet 0 false))
    ∷ of 0 (send 30 (packet 1 false))
    ∷ of 1 (send 40 (packet 1 false))
    ∷ [])

-- two ACKs of flow 1: of its first packet, and of both
abbrev early : Ack
early = ack_of 0 16

abbrev pub newest : Ack
newest = ack_of 1 32

pub record Starts : Type 0 where
  pub clock_is : start.state.clock ≡ 40
  pub held_is : (flow_in start 1).held ≡ 0
  pub low_is : (world_at 1 start).state.flow.low ≡ 0
  pub long_is : long_of (world_at 1 start).state.flow ≡ 2
  -- the newest is accepted, takes both of flow 1's packets, and leaves flow 0's two
  pub accepted : (on_ack 110 1 newest start).number ≡ 0
  pub leaves : (on_ack 110 1 newest start).after.flows ≡ 0 ∷ 2 ∷ 0 ∷ 0 ∷ 2 ∷ 2 ∷ 32 ∷ 0 ∷ []

-- ---- turns: both flows have a packet to send. Flow 0 is named and sends it; flow 1 is named and does not send, and is named again

abbrev pub turned : List Step
turned =
    event (of 0 (new_data 0 4096))
    ∷ event (of 1 (new_data 0 4096))
    ∷ choice
    ∷ event (of 0 (send 10 (packet 0 false)))
    ∷ choice
    ∷ choice
    ∷ []

pub record Turned : Type 0 where
  pub flows : flow_count fresh ≡ 2
  pub named : named_in fresh turned ≡ 0 ∷ 1 ∷ 1 ∷ []
  pub turn : (run_all fresh turned).state.turn ≡ 0
  -- flow 1 is ready at every choice
  pub ready : ReadyThroughout 1 fresh turned

computed : WorkedSums × Starts × Turned
unfolding fresh start fresh_state freshSender settings_e sum remember_at remember sent_by reported_by lost_by if_so if_lt if_eq inside first_of
    minus plus bit_of covered back_of span_of unsent_or_old ahead_of is_old forward_of count_leading_zeros max_wnd_of is_ev_count in_range sound_window fresh_of
    one_send sample_of avg_delay_of update_delay_of feed_of update_base_rtt_of measure_of fires_of fire_of restart_of quick_adapt_of count_newly_of
    leave_fast_mode_of raise_cwnd_of is_near fast_increase_of add_inc_bytes_of proportional_increase_of fair_increase_of factor_of may_decrease
    multiplicative_decrease_of respond_of enough_received period_passed fulfill_adjustment_of adjust_of go_on_of react_of window.ack_of shrink_of
    loss_of is_flying is_marked is_done is_out flying_one marked_one marked_size sum_of cover_one cover_all covered_sum done_run in_bounds sinks
    packet_at tabulate place_of age_of lay laid queue_of long_of packets offset_of packet_of all_to is_capacity is_ring is_live is_zero slot_ok head_ok
    stands changed supplied supplied_totals push_of resend_of mark_of held_of newly_of acknowledge_of has_room phase_of is_on is_mode times_ok named_ok
    state_of settled avoided_in new_data_state new_data_step send_step ack_sample ack_step loss_step decided on_new_data on_send on_ack on_loss bit
    is_word bit_at one value_of words_of packed size_in resent_in slots_of in_window status_of words_at status_at shown is_out_status is_mark_status
    stored joined_of shared_of world_at put_world is_cut stands_at totals_over sound_context is_table flow_at with_flow part around part_of put_part
    sum_to unmarked_run next_marked_of marked_from any_marked is_ready numbers first_ready named_by turn_of offered_by with_turn turn_after past_choose
    on_choose
computed = (
  (refl, refl, refl, refl),
  record { clock_is = refl; held_is = refl; low_is = refl; long_is = refl; accepted = refl; leaves = refl },
  record { flows = refl; named = refl; turn = refl; ready = (refl, (refl, (refl, tt))) },
)

pub worked_sums : WorkedSums
worked_sums = computed.0

pub starts : Starts
starts = computed.1

pub turned_here : Turned
turned_here = computed.2

-- and is chosen within two choices that name somebody
pub fair_here : Memᴰ 1 (take (flow_count fresh) (named_in fresh turned))
fair_here =
    fair_turns 1 fresh turned (omega (arith, turned_here.flows)) turned_here.ready
    (rw turned_here.named (omega (arith, turned_here.flows)))

-- ---- the premises of `burst`

-- what holds of each member of a list
module _ {A : Type 0} (P : A → Type 0) where
  each_none : (a : A) → Memᴰ a [] → P a
  each_none a m = absurd (Memᴰ.not-nil m)

  each : (x : A) (xs : List A) → P x → ((a : A) → Memᴰ a xs → P a) → (a : A) → Memᴰ a (x ∷ xs) → P a
  each x xs p f a m = ⊎_elim (λ e. rw e p) (f a) (Memᴰ.cases_cons m)

-- each outstanding packet of flow 1 is covered by the newest
covers_both : (j : ℕ) → j < 2 → covers_psn newest (plus 0 j) ≡ true
unfolding covered minus plus bit_of
covers_both zero h = refl
covers_both (suc zero) h = refl
covers_both (suc (suc j)) h = absurd (let z : ⊥ = omega arith in z)

abbrev pub others : List Ack
others = early ∷ []

pub newest_here : Newest 1 start 110 newest others
unfolding minus
newest_here =
    record {
      accepted = starts.accepted;
      not_behind = rw starts.held_is (omega arith);
      others_behind = each (λ (a : Ack). minus counts 32 a.count < half) _ _ (omega arith)
          (each_none (λ (a : Ack). minus counts 32 a.count < half));
      covers_too = λ a m j o e. rw starts.low_is (covers_both j (omega (arith, o.within, starts.long_is)));
    }

-- in another order, the newest first and doubled
abbrev at : ℕ → Ack → Arrival
at time a = record { time = time; ack = a }

abbrev pub arrivals : List Arrival
arrivals = at 110 newest ∷ at 120 early ∷ at 130 newest ∷ []

abbrev Member : Arrival → Type 0
Member d = (d.ack ≡ newest) ⊎ Memᴰ d.ack others

-- the whole table, ring buffer and totals are those that the newest alone leaves
pub same_here : ledgers_of (deliver 1 start arrivals) ≡ ledgers_of (on_ack 110 1 newest start).after
same_here =
    burst 1 start 110 newest others arrivals newest_here
    (each Member _ _ (inl refl) (each Member _ _ (inr (Memᴰ.head refl)) (each Member _ _ (inl refl) (each_none Member))))
    (at 110 newest, Memᴰ.head refl, refl)
    (rw starts.clock_is (omega arith), omega arith, (omega arith, omega arith, (omega arith, omega arith, tt)))
