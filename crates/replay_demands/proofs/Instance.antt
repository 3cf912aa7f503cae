-- Document 01's worked example, settings E and its four events as the log's bytes, and behind it three records with a flow (request M-107):
-- a log that meets the premises, so that the theorems are not empty.
-- Assumes nothing.
use mathlib.Core.Path.{◌≡◌, refl, ap, ◌∙◌}
use mathlib.Core.Bool.{false}
use mathlib.Core.List.{List, [], ◌∷◌, map, append-nil}
use mathlib.Core.Option.{some}
use Prim.Native.Nat.{ℕ, ◌*◌}
use lib.IntN.{pos, ◌-ℤ◌}
use lib.ListN.{get_or, get_elem?, replicate}
use lib.Count.{count_leading_zeros}
use Rattle.rules.specs.Branch.{if_so, if_lt, if_eq}
use Rattle.rules.specs.Mode.{is_on, is_mode, mode_of}
use Rattle.rules.specs.Test.{inside}
use Rattle.rules.specs.Rows.{first_of}
use Rattle.log_bytes.specs.Little.{little_endian, number_at}
use Rattle.bits.specs.Bits.{bit, is_word, bit_at, one, value_of, words_of, sum_to}
use Rattle.serial.specs.Wrap.{minus}
use Rattle.serial.specs.Psn.{plus, bit_of, covered, back_of, span_of, unsent_or_old}
use Rattle.serial.specs.Count.{ahead_of, is_old, forward_of}
use Rattle.window.specs.Range.{is_ev_count, in_range}
use Rattle.window.specs.Sound.{sound_window, fresh_of}
use Rattle.window.specs.Limits.{max_wnd_of}
use Rattle.window.specs.Delays.{one_send, sample_of, avg_delay_of, update_delay_of, feed_of, update_base_rtt_of, measure_of}
use Rattle.window.specs.Quick.{fires_of, fire_of, restart_of, quick_adapt_of}
use Rattle.window.specs.Cases.{count_newly_of, leave_fast_mode_of, raise_cwnd_of, is_near, fast_increase_of, add_inc_bytes_of, proportional_increase_of}
use Rattle.window.specs.Cases.{fair_increase_of, factor_of, may_decrease, multiplicative_decrease_of, respond_of}
use Rattle.window.specs.Adjust.{enough_received, period_passed, fulfill_adjustment_of, adjust_of}
use Rattle.window.specs.Events.{go_on_of, react_of, shrink_of, loss_of}
use Rattle.window.specs.Events as window
use Rattle.ledger.specs.Packets.{is_flying, is_marked, is_done, is_out, flying_one, marked_one, marked_size, sum_of, cover_one, cover_all, covered_sum}
use Rattle.ledger.specs.Packets.{done_run}
use Rattle.ledger.specs.Bounds.{in_bounds, sinks}
use Rattle.ledger.specs.Ring.{packet_at, tabulate, place_of, age_of, lay, laid, queue_of, long_of, packets, offset_of, packet_of}
use Rattle.ledger.specs.Memory.{memory, packed, size_in, resent_in, slots_of, in_window, status_of, words_at, status_at, shown}
use Rattle.ledger.specs.Memory.{is_out_status, is_mark_status, stored}
use Rattle.ledger.specs.Sound.{all_to, is_capacity, is_ring, is_live, is_zero, slot_ok, head_ok, stands}
use Rattle.ledger.specs.Steps.{changed, supplied, supplied_totals, push_of, resend_of, mark_of, held_of, newly_of, acknowledge_of}
use Rattle.flow_table.specs.Words.{is_table, flow_at, with_flow}
use Rattle.flow_table.specs.Words.{words_of as recordWords}
use Rattle.flow_table.specs.Parts.{part, around, part_of, put_part}
use Rattle.sender.specs.Named.{has_room, phase_of}
use Rattle.sender.specs.Sound.{times_ok}
use Rattle.sender.specs.Start.{no_settings}
use Rattle.sender.specs.Start.{fresh_state as freshSender}
use Rattle.sender.specs.Steps.{state_of, settled, avoided_in, new_data_state, new_data_step, send_step, ack_sample, ack_step, loss_step}
use Rattle.context.specs.Context.{Context, context, Answered, joined_of, shared_of, world_at, put_world}
use Rattle.context.specs.Sound.{is_cut, stands_at, totals_over, named_ok, sound_context}
use Rattle.context.specs.Start.{lengths_ok, fresh_state, fresh_table, on_set_up}
use Rattle.context.specs.Events.{decided, on_new_data, on_send, on_ack}
use Rattle.log_records.specs.Layout.{look_up}
use Rattle.log_records.specs.Parse.{proper_of, check_of, whole_of, front_of, parse_at}
use Rattle.log_records.specs.Logs.{read_in, read_from, records_of}
use Rattle.log_records.specs.declared.record.Record.{Record}
use Rattle.log_records.specs.declared.record.Record.TheVariants as log
use Rattle.log_records.specs.declared.record.Whose.TheVariants.{First, Flow}
use Rattle.replay.specs.Places.{Turning}
use Rattle.demands.specs.Cases.{settings_e}
use Rattle.demands.specs.Events.{Event, new_data, send, ack}
use Rattle.demands.specs.Sums.{Past, remember, sent_by, reported_by, lost_by}
use Rattle.context_demands.specs.Events.{Flowed}
use Rattle.context_demands.specs.Sums.{no_pasts, remember_at, sum}
use Rattle.replay_demands.specs.Histories.{turns, of, events_of, stops_with, Opened, opened, last_of, answer_of, told, answers}
use Rattle.replay_demands.proofs.Theorems.{replayed, turn_history}

unfoldable pub worked : List ℕ
worked =
    55 ∷ 0 ∷ 16 ∷ 0 ∷ 0 ∷ 16 ∷ 0 ∷ 0 ∷ 0 ∷ 96 ∷ 9 ∷ 0 ∷ 96 ∷ 0 ∷ 0 ∷ 0 ∷ 72 ∷ 0 ∷ 0 ∷ 0 ∷ 0 ∷ 16 ∷ 0 ∷ 0 ∷ 0 ∷ 4 ∷ 0 ∷ 0 ∷ 224 ∷
    0 ∷ 0 ∷ 0 ∷ 51 ∷ 3 ∷ 0 ∷ 0 ∷ 0 ∷ 2 ∷ 0 ∷ 0 ∷ 96 ∷ 0 ∷ 0 ∷ 0 ∷ 0 ∷ 128 ∷ 0 ∷ 0 ∷ 32 ∷ 1 ∷ 0 ∷ 0 ∷ 0 ∷ 0 ∷ 0 ∷ 0 ∷ 0 ∷
    14 ∷ 0 ∷ 1 ∷ 0 ∷ 0 ∷ 0 ∷ 0 ∷ 0 ∷ 0 ∷ 0 ∷ 0 ∷ 0 ∷ 0 ∷ 32 ∷ 0 ∷ 0 ∷
    19 ∷ 0 ∷ 2 ∷ 0 ∷ 10 ∷ 0 ∷ 0 ∷ 0 ∷ 0 ∷ 0 ∷ 0 ∷ 0 ∷ 0 ∷ 16 ∷ 0 ∷ 0 ∷ 0 ∷ 0 ∷ 0 ∷ 0 ∷ 0 ∷
    19 ∷ 0 ∷ 2 ∷ 0 ∷ 20 ∷ 0 ∷ 0 ∷ 0 ∷ 0 ∷ 0 ∷ 0 ∷ 0 ∷ 0 ∷ 16 ∷ 0 ∷ 0 ∷ 2 ∷ 0 ∷ 0 ∷ 0 ∷ 0 ∷
    37 ∷ 0 ∷ 3 ∷ 0 ∷ 110 ∷ 0 ∷ 0 ∷ 0 ∷ 0 ∷ 0 ∷ 0 ∷ 0 ∷ 0 ∷ 0 ∷ 0 ∷ 0 ∷ 0 ∷ 0 ∷ 0 ∷ 0 ∷ 0 ∷ 0 ∷ 0 ∷ 0 ∷ 0 ∷ 0 ∷ 0 ∷ 0 ∷ 16 ∷ 0 ∷
    0 ∷ 0 ∷ 4 ∷ 0 ∷ 0 ∷ 0 ∷ 0 ∷ 0 ∷ 0 ∷
    15 ∷ 0 ∷ 33 ∷ 0 ∷ 110 ∷ 0 ∷ 0 ∷ 0 ∷ 0 ∷ 0 ∷ 0 ∷ 0 ∷ 1 ∷ 0 ∷ 16 ∷ 0 ∷ 0 ∷
    20 ∷ 0 ∷ 34 ∷ 0 ∷ 120 ∷ 0 ∷ 0 ∷ 0 ∷ 0 ∷ 0 ∷ 0 ∷ 0 ∷ 1 ∷ 0 ∷ 16 ∷ 0 ∷ 0 ∷ 0 ∷ 0 ∷ 0 ∷ 0 ∷ 0 ∷
    20 ∷ 0 ∷ 34 ∷ 0 ∷ 120 ∷ 0 ∷ 0 ∷ 0 ∷ 0 ∷ 0 ∷ 0 ∷ 0 ∷ 2 ∷ 0 ∷ 16 ∷ 0 ∷ 0 ∷ 0 ∷ 0 ∷ 0 ∷ 0 ∷ 0 ∷ []

-- the records behind record 1
abbrev pub behind : List Record
behind =
    log.NewData 0 First 8192
    ∷ log.Send 10 First 4096 0 0
    ∷ log.Send 20 First 4096 2 0
    ∷ log.Ack 110 First 0 0 16 4 0 0 0
    ∷ log.NewData 110 (Flow 1) 4096
    ∷ log.Send 120 (Flow 1) 4096 0 0
    ∷ log.Send 120 (Flow 2) 4096 0 0
    ∷ []

-- settings E
abbrev first : Record
first =
    log.SetUp
    (record {
      mtu = 4096;
      maxwnd = 614400;
      config_base_rtt = 96;
      target_qdelay = 72;
      fi = 4096;
      eta = 1024;
      alpha = 224;
      gamma = 819;
      max_md_jump = 512;
      adjust_period = 96;
      adjust_bytes = 32768;
      qa_threshold = 288;
      first_psn = 0;
      flags = 0;
    })

-- two flows of 64 slots and 256 EV times are lent
unfoldable pub lent : Context
lent =
    context (fresh_state no_settings) (replicate 8 0) (memory (replicate 2 0) (replicate 2 0) (replicate 128 0) (replicate 128 0))
    (replicate 256 0)

worked_read : records_of worked ≡ first ∷ behind
unfolding worked read_from read_in parse_at front_of look_up whole_of check_of proper_of if_so if_lt if_eq number_at little_endian
worked_read = refl

worked_last : last_of worked ≡ 0
unfolding worked read_from read_in parse_at front_of look_up whole_of check_of proper_of if_so if_lt if_eq number_at little_endian
worked_last = refl

pub worked_opened : Opened worked lent settings_e behind
unfolding lent settings_e on_set_up first_of in_range is_mode mode_of inside is_ev_count lengths_ok is_table is_cut is_capacity if_so if_eq
worked_opened = record { first = first; reads = worked_read; settings = refl; accepted = refl }

-- "new data 8192 at 0; send PSN 0, 4096 at 10; send PSN 2, 4096 at 20; ACK at 110"; then new data and a send of flow 1, and a send of
-- flow 2, which is out of range
abbrev new_send : ℕ → Event
new_send time = send time (record { psn = 0; size = 4096; resend = false })

abbrev events : List Flowed
events =
    of 0 (new_data 0 8192)
    ∷ of 0 (new_send 10)
    ∷ of 0 (send 20 (record { psn = 2; size = 4096; resend = false }))
    ∷ of 0 (ack 110 (record {
      cum = 0;
      map = 0;
      trigger = 0;
      count = 16;
      service = 4;
      ev = 0;
      marked = false;
      retx = false;
    }))
    ∷ of 1 (new_data 110 4096)
    ∷ of 1 (new_send 120)
    ∷ of 2 (new_send 120)
    ∷ []

worked_events : events_of behind ≡ events
unfolding events_of
worked_events = refl

-- what the context answers to them, after settings E: the columns `ans` and `inflight` of the lines that 01 prints, and 25
abbrev given : List Answered
given = told 0 (opened settings_e lent) ∷ answers (opened settings_e lent) events

-- 8,192 bytes sent, half of them reported, none lost
abbrev summed : (Event → Past → ℕ) → ℕ
summed by = sum by (opened settings_e lent) no_pasts events

pub record Given : Type 0 where
  pub numbers : map (λ (a : Answered). a.number) given ≡ 0 ∷ 0 ∷ 0 ∷ 8 ∷ 0 ∷ 0 ∷ 0 ∷ 25 ∷ []
  pub flights : map (λ (a : Answered). a.after.state.totals.in_flight) given
      ≡ pos 0 ∷ pos 0 ∷ pos 4096 ∷ pos 4096 ∷ pos 0 ∷ pos 0 ∷ pos 4096 ∷ pos 4096 ∷ []
  pub sums : summed sent_by ∷ summed reported_by ∷ summed lost_by ∷ [] ≡ 2 * 4096 ∷ 4096 ∷ 0 ∷ []

computed : Given
unfolding lent answers on_set_up fresh_state fresh_table recordWords freshSender settings_e sum remember_at remember sent_by reported_by lost_by if_so if_lt if_eq inside first_of
    minus plus bit_of covered back_of span_of unsent_or_old ahead_of is_old forward_of count_leading_zeros max_wnd_of is_ev_count in_range sound_window fresh_of
    one_send sample_of avg_delay_of update_delay_of feed_of update_base_rtt_of measure_of fires_of fire_of restart_of quick_adapt_of count_newly_of
    leave_fast_mode_of raise_cwnd_of is_near fast_increase_of add_inc_bytes_of proportional_increase_of fair_increase_of factor_of may_decrease
    multiplicative_decrease_of respond_of enough_received period_passed fulfill_adjustment_of adjust_of go_on_of react_of window.ack_of shrink_of
    loss_of is_flying is_marked is_done is_out flying_one marked_one marked_size sum_of cover_one cover_all covered_sum done_run in_bounds sinks
    packet_at tabulate place_of age_of lay laid queue_of long_of packets offset_of packet_of all_to is_capacity is_ring is_live is_zero slot_ok head_ok
    stands changed supplied supplied_totals push_of resend_of mark_of held_of newly_of acknowledge_of has_room phase_of is_on is_mode mode_of lengths_ok times_ok named_ok
    state_of settled avoided_in new_data_state new_data_step send_step ack_sample ack_step loss_step decided on_new_data on_send on_ack bit
    is_word bit_at one value_of words_of packed size_in resent_in slots_of in_window status_of words_at status_at shown is_out_status is_mark_status
    stored joined_of shared_of world_at put_world is_cut stands_at totals_over sound_context is_table flow_at with_flow part around part_of put_part
    sum_to
computed = record { numbers = refl; flights = refl; sums = refl }

-- the turns answer the same
worked_given : map answer_of (turns worked lent) ≡ given
unfolding stops_with if_eq
worked_given = replayed worked lent settings_e behind worked_opened ∙ rw (worked_events, worked_last, append-nil)

pub worked_numbers : map (λ (a : Answered). a.number) (map answer_of (turns worked lent)) ≡ 0 ∷ 0 ∷ 0 ∷ 8 ∷ 0 ∷ 0 ∷ 0 ∷ 25 ∷ []
worked_numbers = ap (map (λ (a : Answered). a.number)) worked_given ∙ computed.numbers

pub worked_flights : map (λ (a : Answered). a.after.state.totals.in_flight) (map answer_of (turns worked lent))
    ≡ pos 0 ∷ pos 0 ∷ pos 4096 ∷ pos 4096 ∷ pos 0 ∷ pos 0 ∷ pos 4096 ∷ pos 4096 ∷ []
worked_flights = ap (map (λ (a : Answered). a.after.state.totals.in_flight)) worked_given ∙ computed.flights

-- and `turn_history` speaks of the last
pub worked_history : (t : Turning) → get_elem? (turns worked lent) 7 ≡ some t
    → t.after.state.totals.in_flight ≡ pos (2 * 4096) -ℤ pos 4096 -ℤ pos 0
unfolding events_of
worked_history t there =
    turn_history worked lent settings_e behind worked_opened 7 t there
    ∙ ap (λ (ns : List ℕ). pos (get_or ns 0 0) -ℤ pos (get_or ns 1 0) -ℤ pos (get_or ns 2 0)) computed.sums
