-- M-106 IS NOT EMPTY: a log, replayed from its start, whose ACK is ambiguous, so that its service time may be any (`any_service`), and a
-- log of another flow, whose ACK's record has a flow number (`any_service_of`); and the premise is needed: where the packet went out once,
-- another service time gives another sample (`ambiguous_needed`). By computation, on document 01's settings E.
-- Assumes nothing.
use mathlib.Core.Path.{◌≡◌, refl, sym, ap, ◌∙◌, subst}
use mathlib.Core.Bool.{Bool, true, false, ◌||◌}
use mathlib.Core.List.{List, [], ◌∷◌, ◌++◌, append_assoc}
use Prim.Native.Nat.{ℕ, ◌+◌, ◌-◌, ◌≤◌, ◌<◌}
use lib.Count.{count_leading_zeros}
use lib.Dec.{ltb}
use lib.ListN.{length, take, drop, get_or, replicate, length-append, get_or-append}
use lib.Seq.{get_or-append-add}
use borrow.Author.Tests.{ltb-true, ltb-false}
use native.Mathlib.Omega.{arith}
use Rattle.rules.specs.Branch.{if_so, if_lt, if_eq}
use Rattle.rules.specs.Mode.{is_on, is_mode, mode_of}
use Rattle.rules.specs.Test.{inside, inside_yes, neither}
use Rattle.rules.specs.Rows.{first_of}
use Rattle.log_bytes.specs.Little.{little_endian, number_at, bytes_of}
use Rattle.bits.specs.Bits.{bit, is_word, bit_at, one, value_of, words_of, sum_to}
use Rattle.serial.specs.Wrap.{minus}
use Rattle.serial.specs.Psn.{plus, bit_of, covered, back_of, span_of, unsent_or_old}
use Rattle.serial.specs.Count.{ahead_of, forward_of}
use Rattle.window.specs.Limits.{max_wnd_of}
use Rattle.window.specs.Range.{is_ev_count, in_range}
use Rattle.window.specs.Sound.{sound_window, fresh_of}
use Rattle.window.specs.declared.Sampling.TheVariants.{Taken, Ambiguous}
use Rattle.window.specs.Delays.{one_send, take_sample_of, sampling_of}
use Rattle.window.specs.Events.{shrink_of, loss_of}
use Rattle.window.specs.Quick.{fires_of, restart_of, quick_adapt_of}
use Rattle.ledger.specs.Packets.{is_flying, is_marked, is_done, is_out, flying_one, marked_one, marked_size, sum_of}
use Rattle.ledger.specs.Bounds.{in_bounds, sinks}
use Rattle.ledger.specs.Memory.{memory, slots_of, in_window, status_of, words_at, status_at, shown, size_in, resent_in}
use Rattle.ledger.specs.Memory.{stored, packed, is_out_status, is_mark_status}
use Rattle.ledger.specs.Ring.{packet_at, tabulate, place_of, age_of, lay, laid, queue_of, long_of, packets, offset_of, packet_of}
use Rattle.ledger.specs.Sound.{all_to, is_capacity, is_ring, is_even, is_live, is_zero, slot_ok, head_ok, stands}
use Rattle.ledger.specs.Steps.{changed, supplied, supplied_totals, push_of, resend_of, mark_of, newly_of}
use Rattle.flow_table.specs.Words.{is_table, flow_at, with_flow}
use Rattle.flow_table.specs.Words.{words_of as recordWords}
use Rattle.flow_table.specs.Parts.{part, around, part_of, put_part}
use Rattle.sender.specs.Named.{has_room, phase_of}
use Rattle.sender.specs.Sound.{times_ok}
use Rattle.sender.specs.Start.{no_settings}
use Rattle.sender.specs.Start.{fresh_state as freshSender}
use Rattle.sender.specs.Steps.{state_of, settled, avoided_in, new_data_state, new_data_step, send_step, ack_sampling, loss_step}
use Rattle.sender.specs.Events.{says}
use Rattle.context.specs.Context.{Context, context, joined_of, shared_of, world_at, put_world}
use Rattle.context.specs.Sound.{is_cut, stands_at, totals_over, named_ok, sound_context}
use Rattle.context.specs.Start.{lengths_ok, fresh_state, fresh_table, on_set_up}
use Rattle.context.specs.Events.{decided, on_new_data, on_send, on_ack, on_loss}
use Rattle.log_records.specs.Layout.{look_up}
use Rattle.log_records.specs.Parse.{proper_of, check_of, whole_of, front_of, parse_at}
use Rattle.log_records.specs.Write.{record_bytes}
use Rattle.log_records.specs.declared.record.Settings.{Settings}
use Rattle.log_records.specs.declared.record.Whose.{Whose}
use Rattle.log_records.specs.declared.record.Whose.TheVariants.{First, Flow}
use Rattle.log_records.specs.declared.record.Record.{Record}
use Rattle.log_records.specs.declared.record.Record.TheVariants.{NewData, Send, Ack, Loss, SetUp}
use Rattle.replay.specs.Answers.{shown_says, shown_first, on_first, on_later, on_event}
use Rattle.replay.specs.Batches.{kind_of}
use Rattle.replay.specs.Places.{logged, Turning, found_in, found_from, end_from, place_after, on_found, turn_of, turns_in, turns_of}
use Rattle.replay.specs.declared.Place.{Place}
use Rattle.replay.specs.declared.Shown.{Shown}
use Rattle.replay.specs.declared.Shown.TheVariants.{Nothing, Sample}
use Rattle.replay_report.specs.Statements.{how_many, answered_with, kind_test}
use Rattle.replay_report.specs.Ambiguous.{service_first, service_last, served_by, served_in, may_differ, DifferOnly, AllEqual}
use Rattle.replay_report.proofs.Ambiguous.{ambiguous_does_not_matter}

-- ---- logs that end with an ACK

-- "settings E = 4096, 614400, 96, 72, 4096, 1024, 224, 819, 512, 96, 32768, 288, PSN 0"
abbrev settings_e : Settings
settings_e =
    record {
      mtu = 4096;
      maxwnd = 614400;
      config_base_rtt = 96;
      target_qdelay = 72;
      fi = 4096;
      eta = 1024;
      alpha = 224;
      gamma = 819;
      max_md_jump = 512;
      adjust_period = 96;
      adjust_bytes = 32768;
      qa_threshold = 288;
      first_psn = 0;
      flags = 0;
    }

abbrev written : List Record → List ℕ
written [] = []
written (r ∷ rs) = record_bytes r ++ written rs

-- an ACK of PSN 0 at 140, with the retx flag clear and this service time
abbrev acked : Whose → ℕ → Record
acked whose service = Ack 140 whose 0 0 16 service 0 0 0

abbrev acked_behind : List Record → Whose → ℕ → List ℕ
acked_behind rs whose service = written rs ++ record_bytes (acked whose service)

-- the packet is sent once; or it is lost and sent again
abbrev once : List Record
once = SetUp settings_e ∷ NewData 0 First 8192 ∷ Send 10 First 4096 0 0 ∷ []

abbrev again : Whose → List Record
again whose =
    SetUp settings_e
    ∷ NewData 0 whose 8192
    ∷ Send 10 whose 4096 0 0
    ∷ Loss 20 whose 0 0
    ∷ Send 30 whose 4096 0 1
    ∷ []

unfoldable pub once_log : ℕ → List ℕ
once_log service = acked_behind once First service

unfoldable pub resent_log : ℕ → List ℕ
resent_log service = acked_behind (again First) First service

-- the same of flow 1, in records that have a flow number
unfoldable pub flow_log : ℕ → List ℕ
flow_log service = acked_behind (again (Flow 1)) (Flow 1) service

-- where the ACK's record stands in each
abbrev once_ack : ℕ
once_ack = 94

abbrev resent_ack : ℕ
resent_ack = 133

abbrev flow_ack : ℕ
flow_ack = 137

-- ---- two of them differ only in the service time

-- "differ only in the service times of ACK records", of the one of this kind at this offset
pub record ServiceOnly (log other : List ℕ) (whose : Whose) (at : ℕ) : Type 0 where
  pub long : length log ≡ length other
  pub only : (i : ℕ) → inside (at + service_first whose) i (at + service_last whose) ≡ false → get_or log i 0 ≡ get_or other i 0

outside : (low i high : ℕ) → inside low i high ≡ false → low ≤ i → i ≤ high → ⊥
outside low i high e l h = let z : ◌≡◌ {A = ℕ} 0 1 = cc (inside_yes low i high l h) in omega arith

-- lists with other numbers in the middle, as many
module _ (front xs ys back : List ℕ) (many : length xs ≡ length ys) where
  abbrev Alike : ℕ → Type 0
  Alike i = get_or (front ++ (xs ++ back)) i 0 ≡ get_or (front ++ (ys ++ back)) i 0

  before_middle : (i : ℕ) → i < length front → Alike i
  before_middle i h = get_or-append front (xs ++ back) 0 i h ∙ sym (get_or-append front (ys ++ back) 0 i h)

  behind_middle : (k : ℕ) → Alike (length front + (length xs + k))
  behind_middle k =
      get_or-append-add front (xs ++ back) (length xs + k) 0
      ∙ (get_or-append-add xs back k 0
      ∙ sym (get_or-append-add front (ys ++ back) (length xs + k) 0
      ∙ (ap (λ (n : ℕ). get_or (ys ++ back) (n + k) 0) many ∙ get_or-append-add ys back k 0)))

  but_middle : (i : ℕ) → (length front ≤ i → i < length front + length xs → ⊥) → Alike i
  but_middle i out = by (ltb i (length front)) refl
    where
      by : (b : Bool) → ltb i (length front) ≡ b → Alike i
      by true e = before_middle i (ltb-true i (length front) e)
      by false e =
          let from = ltb-false i (length front) e in
          let past : length front + length xs ≤ i = omega (arith, out from) in
          let far : length front + (length xs + (i - (length front + length xs))) ≡ i = omega (arith, past) in
          subst Alike far (behind_middle (i - (length front + length xs)))

-- an ACK's bytes before its service time, and behind it
abbrev ack_front : Whose → List ℕ
ack_front whose = take (service_first whose) (record_bytes (acked whose 0))

abbrev ack_back : Whose → List ℕ
ack_back whose = drop (service_last whose + 1) (record_bytes (acked whose 0))

acked_bytes : (whose : Whose) (service : ℕ)
    → (record_bytes (acked whose service) ≡ ack_front whose ++ (bytes_of 4 service ++ ack_back whose))
    × (length (ack_front whose) ≡ service_first whose)
unfolding record_bytes bytes_of
acked_bytes First service = (refl, refl)
acked_bytes (Flow flow) service = (refl, refl)

acked_long : (whose : Whose) (service other : ℕ) → length (record_bytes (acked whose service)) ≡ length (record_bytes (acked whose other))
unfolding record_bytes bytes_of
acked_long First service other = refl
acked_long (Flow flow) service other = refl

service_only : (rs : List Record) (whose : Whose) (service other : ℕ)
    → ServiceOnly (acked_behind rs whose service) (acked_behind rs whose other) whose (length (written rs))
unfolding bytes_of
service_only rs whose service other =
    let front = written rs ++ ack_front whose in
    let size : length front ≡ length (written rs) + service_first whose
    = omega (arith, length-append (written rs) (ack_front whose), (acked_bytes whose 0).1) in
    let bytes : (n : ℕ) → acked_behind rs whose n ≡ front ++ (bytes_of 4 n ++ ack_back whose)
    = λ n.
    ap (λ (bs : List ℕ). written rs ++ bs) (acked_bytes whose n).0
    ∙ sym (append_assoc (written rs) (ack_front whose) (bytes_of 4 n ++ ack_back whose)) in
    record {
      long = omega (
        arith,
        length-append (written rs) (record_bytes (acked whose service)),
        length-append (written rs) (record_bytes (acked whose other)),
        acked_long whose service other,
      );
      only =
          λ i out.
          ap (λ (bs : List ℕ). get_or bs i 0) (bytes service)
          ∙ (but_middle front (bytes_of 4 service) (bytes_of 4 other) (ack_back whose) refl i
          (λ from past. outside (length (written rs) + service_first whose) i (length (written rs) + service_last whose) out
          (omega (arith, size)) (omega (arith, size)))
          ∙ sym (ap (λ (bs : List ℕ). get_or bs i 0) (bytes other)));
    }

resent_only : (service other : ℕ) → ServiceOnly (resent_log service) (resent_log other) First resent_ack
unfolding resent_log record_bytes bytes_of
resent_only = service_only (again First) First

flow_only : (service other : ℕ) → ServiceOnly (flow_log service) (flow_log other) (Flow 1) flow_ack
unfolding flow_log record_bytes bytes_of
flow_only = service_only (again (Flow 1)) (Flow 1)

once_only : (service other : ℕ) → ServiceOnly (once_log service) (once_log other) First once_ack
unfolding once_log record_bytes bytes_of
once_only = service_only once First

-- ---- replayed from the start, with one flow or two, of 64 slots, and 256 EV times

abbrev pub start : Place
start = record { at = 0; done = 0; stopped = false }

unfoldable pub lent : Context
lent =
    context (fresh_state no_settings) (replicate 4 0) (memory (replicate 1 0) (replicate 1 0) (replicate 64 0) (replicate 64 0))
    (replicate 256 0)

unfoldable pub lent_two : Context
lent_two =
    context (fresh_state no_settings) (replicate 8 0) (memory (replicate 2 0) (replicate 2 0) (replicate 128 0) (replicate 128 0))
    (replicate 256 0)

abbrev turns_from : List ℕ → List Turning
turns_from log = turns_of (logged log) start lent

abbrev turns_two : List ℕ → List Turning
turns_two log = turns_of (logged log) start lent_two

-- what the last line shows, which is the ACK's
abbrev last_shown : List Turning → Shown
last_shown [] = Nothing
last_shown (t ∷ []) = t.shown
last_shown (t ∷ (u ∷ ts)) = last_shown (u ∷ ts)

pub record Replayed : Type 0 where
  -- every record is accepted, and the ACK's outcome is ambiguous, so that the bytes of its service time may differ
  pub accepted : how_many (answered_with 0) (turns_from (resent_log 4)) ≡ 6
  pub ambiguous : last_shown (turns_from (resent_log 4)) ≡ Sample Ambiguous
  pub may : (i : ℕ) → may_differ (resent_log 4) start (turns_from (resent_log 4)) i
      ≡ (inside (resent_ack + service_first First) i (resent_ack + service_last First) || false)
  -- where the packet went out once a sample is taken, and tells the service time
  pub near : last_shown (turns_from (once_log 4)) ≡ Sample (Taken 126)
  pub far : last_shown (turns_from (once_log 104)) ≡ Sample (Taken 26)

pub replayed : Replayed
unfolding resent_log once_log lent record_bytes bytes_of little_endian number_at look_up proper_of check_of whole_of front_of parse_at kind_of
    turns_of turns_in turn_of on_found place_after found_in found_from end_from shown_says shown_first on_first on_later on_event if_so if_lt if_eq
    inside first_of on_set_up lengths_ok fresh_state freshSender fresh_table no_settings fresh_of in_range is_ev_count is_ring is_capacity all_to
    count_leading_zeros minus plus bit_of covered back_of span_of unsent_or_old ahead_of forward_of max_wnd_of sound_window one_send take_sample_of sampling_of
    shrink_of loss_of fires_of restart_of quick_adapt_of is_flying is_marked is_done is_out flying_one marked_one marked_size sum_of in_bounds sinks
    packet_at tabulate place_of age_of lay laid queue_of long_of packets offset_of packet_of is_live is_zero slot_ok head_ok stands changed supplied
    supplied_totals push_of resend_of mark_of newly_of has_room phase_of is_on is_mode mode_of times_ok state_of settled avoided_in new_data_state
    new_data_step send_step ack_sampling loss_step says is_table flow_at with_flow recordWords part around part_of put_part joined_of shared_of world_at
    put_world is_cut stands_at totals_over named_ok sound_context sum_to decided on_new_data on_send on_ack on_loss how_many kind_test served_by served_in
    may_differ is_even slots_of in_window status_of words_at status_at shown size_in resent_in stored packed is_out_status is_mark_status bit is_word
    bit_at one value_of words_of
replayed = record { accepted = refl; ambiguous = refl; may = λ i. refl; near = refl; far = refl }

-- the same of flow 1 of two: the service time stands a byte later in the ACK's record
pub record ReplayedOf : Type 0 where
  pub accepted : how_many (answered_with 0) (turns_two (flow_log 4)) ≡ 6
  pub ambiguous : last_shown (turns_two (flow_log 4)) ≡ Sample Ambiguous
  pub may : (i : ℕ) → may_differ (flow_log 4) start (turns_two (flow_log 4)) i
      ≡ (inside (flow_ack + service_first (Flow 1)) i (flow_ack + service_last (Flow 1)) || false)

pub replayed_of : ReplayedOf
unfolding flow_log lent_two record_bytes bytes_of little_endian number_at look_up proper_of check_of whole_of front_of parse_at kind_of
    turns_of turns_in turn_of on_found place_after found_in found_from end_from shown_says shown_first on_first on_later on_event if_so if_lt if_eq
    inside first_of on_set_up lengths_ok fresh_state freshSender fresh_table no_settings fresh_of in_range is_ev_count is_ring is_capacity all_to
    count_leading_zeros minus plus bit_of covered back_of span_of unsent_or_old ahead_of forward_of max_wnd_of sound_window one_send take_sample_of sampling_of
    shrink_of loss_of fires_of restart_of quick_adapt_of is_flying is_marked is_done is_out flying_one marked_one marked_size sum_of in_bounds sinks
    packet_at tabulate place_of age_of lay laid queue_of long_of packets offset_of packet_of is_live is_zero slot_ok head_ok stands changed supplied
    supplied_totals push_of resend_of mark_of newly_of has_room phase_of is_on is_mode mode_of times_ok state_of settled avoided_in new_data_state
    new_data_step send_step ack_sampling loss_step says is_table flow_at with_flow recordWords part around part_of put_part joined_of shared_of world_at
    put_world is_cut stands_at totals_over named_ok sound_context sum_to decided on_new_data on_send on_ack on_loss how_many kind_test served_by served_in
    may_differ is_even slots_of in_window status_of words_at status_at shown size_in resent_in stored packed is_out_status is_mark_status bit is_word
    bit_at one value_of words_of
replayed_of = record { accepted = refl; ambiguous = refl; may = λ i. refl }

-- ---- so the theorem has an instance

pub differ_only : (service : ℕ) → DifferOnly (resent_log 4) (resent_log service) start lent
differ_only service =
    let d = resent_only 4 service in
    record { long = d.long; only = λ i kept. d.only i (neither _ false (sym (replayed.may i) ∙ kept)).0 }

pub differ_only_of : (service : ℕ) → DifferOnly (flow_log 4) (flow_log service) start lent_two
differ_only_of service =
    let d = flow_only 4 service in
    record { long = d.long; only = λ i kept. d.only i (neither _ false (sym (replayed_of.may i) ∙ kept)).0 }

-- THE SERVICE TIME OF AN AMBIGUOUS ACK MAY BE ANY, here 4 ticks and any other: the same answers, final state, flows, ring, EV times and
-- report
pub any_service : (service : ℕ) → AllEqual (resent_log 4) (resent_log service) start lent
any_service service = ambiguous_does_not_matter (resent_log 4) (resent_log service) start lent (differ_only service)

pub any_service_of : (service : ℕ) → AllEqual (flow_log 4) (flow_log service) start lent_two
any_service_of service = ambiguous_does_not_matter (flow_log 4) (flow_log service) start lent_two (differ_only_of service)

-- and these are different logs
pub logs_differ : resent_log 4 ≡ resent_log 104 → ⊥
unfolding resent_log record_bytes bytes_of
logs_differ e = omega (arith, ap (λ (bs : List ℕ). get_or bs (resent_ack + service_first First) 0) e)

pub logs_differ_of : flow_log 4 ≡ flow_log 104 → ⊥
unfolding flow_log record_bytes bytes_of
logs_differ_of e = omega (arith, ap (λ (bs : List ℕ). get_or bs (flow_ack + service_first (Flow 1)) 0) e)

-- THE PREMISE IS NEEDED: the logs differ only in the service time of an ACK, which is not ambiguous, and their answers do
pub ambiguous_needed : ServiceOnly (once_log 4) (once_log 104) First once_ack × (AllEqual (once_log 4) (once_log 104) start lent → ⊥)
ambiguous_needed = (
  once_only 4 104,
  λ same. let z : ◌≡◌ {A = ℕ} 126 26 = cc (replayed.near, replayed.far, ap last_shown same.turns) in omega arith,
)
