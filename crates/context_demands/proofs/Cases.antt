-- `event_cases_hold`: document 01's cases P7 to P10 agree with the definitions that the context's contracts cite, by computation.
-- Assumes nothing.
use mathlib.Core.Path.{◌≡◌, refl}
use mathlib.Core.Bool.{true}
use lib.Count.{count_leading_zeros}
use Rattle.rules.specs.Branch.{if_so, if_lt, if_eq}
use Rattle.rules.specs.Mode.{is_on, is_mode}
use Rattle.rules.specs.Test.{inside}
use Rattle.rules.specs.Rows.{first_of}
use Rattle.bits.specs.Bits.{bit, is_word, bit_at, one, value_of, words_of, sum_to}
use Rattle.serial.specs.Wrap.{minus}
use Rattle.serial.specs.Psn.{plus, bit_of, covered, back_of, span_of, unsent_or_old}
use Rattle.serial.specs.Count.{ahead_of, is_old, forward_of}
use Rattle.window.specs.Limits.{max_wnd_of}
use Rattle.window.specs.Range.{is_ev_count, in_range}
use Rattle.window.specs.Sound.{sound_window, fresh_of}
use Rattle.window.specs.Delays.{one_send, sample_of, avg_delay_of, update_delay_of, feed_of, update_base_rtt_of, measure_of}
use Rattle.window.specs.Cases.{leave_fast_mode_of, is_near, fast_increase_of, add_inc_bytes_of, proportional_increase_of, factor_of, may_decrease}
use Rattle.window.specs.Cases.{multiplicative_decrease_of, respond_of}
use Rattle.window.specs.Adjust.{enough_received, period_passed, fulfill_adjustment_of, adjust_of}
use Rattle.paths.specs.Path.{avoids, avoided, first_free, steps, landed, choice}
use Rattle.ledger.specs.Packets.{is_flying, is_done, is_out, flying_one, marked_one, marked_size, sum_of, cover_one, cover_all, done_run}
use Rattle.ledger.specs.Bounds.{in_bounds, sinks}
use Rattle.ledger.specs.Ring.{packet_at, tabulate, place_of, age_of, lay, laid, queue_of, long_of, packets, offset_of, packet_of}
use Rattle.ledger.specs.Memory.{packed, size_in, resent_in, slots_of, in_window, status_of, words_at, status_at, shown, is_out_status, is_mark_status}
use Rattle.ledger.specs.Memory.{stored}
use Rattle.ledger.specs.Sound.{all_to, is_capacity, is_ring, is_live, is_zero, slot_ok, head_ok, stands}
use Rattle.ledger.specs.Steps.{held_of, newly_of, acknowledge_of}
use Rattle.sender.specs.Named.{has_room, phase_of}
use Rattle.sender.specs.Sound.{times_ok}
use Rattle.sender.specs.Steps.{state_of, settled, ack_step, path_state, path_step}
use Rattle.flow_table.specs.Words.{is_table, flow_at, with_flow}
use Rattle.flow_table.specs.Words.{words_of as recordWords}
use Rattle.flow_table.specs.Parts.{part, around, part_of, put_part}
use Rattle.context.specs.Context.{joined_of, shared_of, world_at, put_world}
use Rattle.context.specs.Sound.{is_cut, stands_at, totals_over, named_ok, sound_context}
use Rattle.context.specs.Events.{decided, on_send, on_ack, on_path}
use Rattle.context.specs.Events.{chosen as routeChosen}
use Rattle.demands.specs.Burst.{is_delivered}
use Rattle.demands.specs.Cases.{agree, same, settings_e}
use Rattle.context_demands.specs.Cases.{context_with, delivered_of, acknowledged, chosen, event_cases}

pub event_cases_hold : agree event_cases ≡ true
unfolding agree same event_cases settings_e context_with delivered_of acknowledged chosen is_delivered if_so if_lt if_eq inside
    first_of minus plus bit_of covered back_of span_of unsent_or_old ahead_of is_old forward_of count_leading_zeros max_wnd_of is_ev_count in_range sound_window
    fresh_of one_send sample_of avg_delay_of update_delay_of feed_of update_base_rtt_of measure_of leave_fast_mode_of is_near fast_increase_of add_inc_bytes_of
    proportional_increase_of factor_of may_decrease multiplicative_decrease_of respond_of enough_received period_passed fulfill_adjustment_of adjust_of
    avoids avoided first_free steps landed choice is_flying is_done is_out flying_one marked_one marked_size sum_of cover_one cover_all done_run
    in_bounds sinks packet_at tabulate place_of age_of lay laid queue_of long_of packets offset_of packet_of all_to is_capacity is_ring is_live is_zero
    slot_ok head_ok stands held_of newly_of acknowledge_of has_room phase_of is_on is_mode times_ok named_ok is_cut stands_at totals_over sound_context is_table flow_at with_flow recordWords part around part_of put_part sum_to
    joined_of shared_of world_at put_world routeChosen state_of
    settled ack_step
    path_state path_step decided on_send on_ack on_path bit is_word bit_at one value_of words_of packed size_in resent_in slots_of in_window status_of
    words_at status_at shown is_out_status is_mark_status stored
event_cases_hold = refl
