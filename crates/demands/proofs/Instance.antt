-- Instances, so that no theorem is empty, by computation. An accepted setting up with document 01's settings E, whatever the lent memory
-- holds, and a history from it, the worked example and three events more, with its sums. A burst that satisfies every premise of `burst`,
-- and beside another flow every one of `burst_among`; and two that break one premise each and whose ledgers differ, so that these premises
-- are needed: on document 01's P8 (low 4,294,967,294, next 2, cum 0) and P4 (held 16,777,214, count 3), where PSNs and counts wrap.
-- Assumes nothing.
use mathlib.Core.Path.{◌≡◌, refl, sym, ap, ◌∙◌, subst}
use mathlib.Core.Logic.{◌⊎◌, inl, inr, ⊎_elim}
use mathlib.Core.Bool.{Bool, true, false, false≢true}
use mathlib.Core.List.Memᴰ
use mathlib.Core.List.{List, [], ◌∷◌, Memᴰ}
use Prim.Native.Nat.{ℕ, zero, suc, ◌+◌, ◌*◌, ◌<◌}
use native.Mathlib.Omega.{arith}
use lib.Count.{count_leading_zeros}
use lib.IntN.{pos}
use lib.ListN.{length, replicate}
use Rattle.rules.specs.Branch.{if_so, if_lt, if_eq, eq_yes}
use Rattle.rules.specs.Mode.{is_on, is_mode}
use Rattle.rules.specs.Test.{inside}
use Rattle.rules.specs.Rows.{first_of}
use Rattle.bits.specs.Bits.{bit, is_word, bit_at, one, value_of, words_of}
use Rattle.serial.specs.Wrap.{minus}
use Rattle.serial.specs.Psn.{plus, bit_of, covered, back_of, span_of, unsent_or_old}
use Rattle.serial.specs.Count.{counts, half, ahead_of, is_old, forward_of}
use Rattle.window.specs.Range.{is_ev_count, in_range}
use Rattle.window.specs.Sound.{sound_window, fresh_of}
use Rattle.window.specs.Limits.{max_wnd_of}
use Rattle.window.specs.Delays.{one_send, sample_of, avg_delay_of, update_delay_of, feed_of, update_base_rtt_of, measure_of}
use Rattle.window.specs.Quick.{fires_of, fire_of, restart_of, quick_adapt_of}
use Rattle.window.specs.Cases.{count_newly_of, leave_fast_mode_of, raise_cwnd_of, is_near, fast_increase_of, add_inc_bytes_of, proportional_increase_of}
use Rattle.window.specs.Cases.{fair_increase_of, factor_of, may_decrease, multiplicative_decrease_of, respond_of}
use Rattle.window.specs.Adjust.{enough_received, period_passed, fulfill_adjustment_of, adjust_of}
use Rattle.window.specs.Events.{go_on_of, react_of, shrink_of, loss_of}
use Rattle.window.specs.Events as window
use Rattle.window.specs.declared.Settings.{Settings}
use Rattle.ledger.specs.Packets.{is_flying, is_marked, is_done, is_out, flying_one, marked_one, marked_size, sum_of, cover_one, cover_all, covered_sum}
use Rattle.ledger.specs.Packets.{done_run}
use Rattle.ledger.specs.Bounds.{in_bounds, sinks}
use Rattle.ledger.specs.Ring.{Ledger, packet_at, tabulate, place_of, age_of, lay, laid, queue_of, long_of, packets, offset_of}
use Rattle.ledger.specs.Ring.{packet_of}
use Rattle.ledger.specs.Memory.{Memory, memory, packed, size_in, resent_in, slots_of, in_window, status_of, words_at, status_at, shown}
use Rattle.ledger.specs.Memory.{is_out_status, is_mark_status, stored}
use Rattle.ledger.specs.Sound.{all_to, is_capacity, is_ring, is_even, is_live, is_zero, slot_ok, head_ok, stands}
use Rattle.ledger.specs.Sound.{Others, alone, tallies, sound_ledger}
use Rattle.ledger.specs.Steps.{changed, supplied, supplied_totals, push_of, resend_of, mark_of, held_of, newly_of, acknowledge_of}
use Rattle.ledger.specs.declared.Packet.{Packet}
use Rattle.sender.specs.World.{World, world, Answered, view_of, ledger_of}
use Rattle.sender.specs.Named.{has_room, phase_of}
use Rattle.sender.specs.Sound.{times_ok, named_ok, sound_among, sound}
use Rattle.sender.specs.Rows.{set_up_rows}
use Rattle.sender.specs.Start.{fresh_state, on_set_up}
use Rattle.sender.specs.Steps.{state_of, settled, avoided_in, new_data_state, new_data_step, send_step, ack_sample, ack_step, loss_step}
use Rattle.sender.specs.Events.{decided, on_new_data, on_send, on_ack, on_loss, past_ack}
use Rattle.sender.specs.declared.Send.{Send}
use Rattle.sender.specs.declared.Ack.{Ack}
use Rattle.demands.specs.Events.{Event, new_data, send, ack, loss, step_of, run, SetUp}
use Rattle.demands.specs.Sums.{no_past, remember, sent_by, reported_by, lost_by, sum}
use Rattle.demands.specs.Burst.{Arrival, deliver, Timely, Outstanding, psn_of, covers_psn, Of, Arrives}
use Rattle.demands.specs.Past.{past_deliver}
use Rattle.demands.specs.Cases.{settings_e}
use Rattle.demands.proofs.Runs.{past_answer_lem, step_clock, step_settings}
use Rattle.demands.proofs.Sounded.{step_sound, step_ledger}
use Rattle.demands.proofs.Ledgers.{Fine, fine_accepted, fine_rows}
use Rattle.demands.proofs.Bursts.{burst_among, burst}

-- ---- an accepted setting up: settings E, and 64 slots and 256 EV times of anything

pub record Lent (m : Memory) (times : List ℕ) : Type 0 where
  pub outstanding : length m.outstanding ≡ 1
  pub marked : length m.marked ≡ 1
  pub sizes : length m.sizes ≡ 64
  pub sent : length m.sent ≡ 64
  pub evs : length times ≡ 256

unfoldable pub fresh : World
fresh = world (fresh_state settings_e) (memory (replicate 1 0) (replicate 1 0) (replicate 64 0) (replicate 64 0)) (replicate 256 0)

module _ (m : Memory) (times : List ℕ) (L : Lent m times) where
  none_refuses : first_of (set_up_rows settings_e m times) ≡ 0
  unfolding first_of if_so if_eq settings_e in_range is_mode inside is_ev_count is_even slots_of is_capacity
  none_refuses = rw (L.sizes, L.sent, L.evs, L.marked, L.outstanding)

  answers : on_set_up settings_e m times ≡ record { number = 0; after = fresh }
  unfolding on_set_up fresh
  answers = sym (eq_yes (first_of (set_up_rows settings_e m times)) 0 _ _ _ none_refuses
      (rw (L.outstanding, L.marked, L.sizes, L.sent, L.evs)))

  pub set_up_here : SetUp settings_e m times fresh
  set_up_here = record { accepted = ap (λ (x : Answered). x.number) answers; gives = sym (ap (λ (x : Answered). x.after) answers) }

-- ---- a history from it: 01's worked example, with a send that is refused; then a packet that is sent, lost and sent again

abbrev packet : ℕ → Bool → Send
packet psn resend = record { psn = psn; size = 4096; resend = resend }

abbrev pub worked : List Event
worked =
    new_data 0 8192
    ∷ send 10 (packet 0 false)
    ∷ send 20 (packet 2 false)
    ∷ ack 110 (record {
      cum = 0;
      map = 0;
      trigger = 0;
      count = 16;
      service = 4;
      ev = 0;
      marked = false;
      retx = false;
    })
    ∷ send 120 (packet 1 false)
    ∷ loss 220 (record { psn = 1; ev = 0 })
    ∷ send 230 (packet 1 true)
    ∷ []

-- three packets sent, one reported, one taken out as lost: one in flight
pub worked_sums : (sum sent_by fresh no_past worked ≡ 3 * 4096) × (sum reported_by fresh no_past worked ≡ 4096)
    × (sum lost_by fresh no_past worked ≡ 4096)
    × ((run fresh worked).state.totals.in_flight ≡ pos 4096)
unfolding fresh fresh_state settings_e sum remember sent_by reported_by lost_by if_so if_lt if_eq inside first_of minus plus bit_of covered back_of
    span_of unsent_or_old ahead_of is_old forward_of count_leading_zeros max_wnd_of is_ev_count in_range sound_window fresh_of one_send sample_of avg_delay_of
    update_delay_of feed_of update_base_rtt_of measure_of fires_of fire_of restart_of quick_adapt_of count_newly_of leave_fast_mode_of raise_cwnd_of is_near
    fast_increase_of add_inc_bytes_of proportional_increase_of fair_increase_of factor_of may_decrease multiplicative_decrease_of respond_of
    enough_received period_passed fulfill_adjustment_of adjust_of go_on_of react_of window.ack_of shrink_of loss_of is_flying is_marked is_done is_out
    flying_one marked_one marked_size sum_of cover_one cover_all covered_sum done_run in_bounds sinks packet_at tabulate place_of age_of lay laid
    queue_of long_of packets offset_of packet_of all_to is_capacity is_ring is_live is_zero slot_ok head_ok stands tallies sound_ledger changed
    supplied supplied_totals
    push_of resend_of mark_of held_of newly_of acknowledge_of has_room phase_of is_on is_mode times_ok named_ok sound_among state_of settled avoided_in
    new_data_state new_data_step send_step ack_sample ack_step loss_step decided on_new_data on_send on_ack on_loss
    bit is_word bit_at one value_of words_of packed size_in resent_in slots_of in_window status_of words_at status_at shown is_out_status is_mark_status
    stored
worked_sums = (refl, refl, refl, refl)

-- ---- the start of the bursts: settings E, 64 slots, four packets, of which the second was lost

abbrev sent_at : ℕ → ℕ → Packet
sent_at time status = record { status = status; size = 4096; sent = time; resent = 0 }

-- among others, which add to the totals
unfoldable pub start_among : Others → World
start_among o =
    world
    (state_of settings_e
    (record { low = 4294967294; next = 2; held = 16777214; backlog = 8192 })
    (record {
      flying = o.flying + 3;
      marked = o.marked + 1;
      marked_bytes = o.bytes + 4096;
      backlog = o.backlog + 8192;
      in_flight = pos 12288;
    })
    (fresh_of settings_e) 100 0)
    (stored (laid 64 4294967294 (sent_at 10 1 ∷ sent_at 20 2 ∷ sent_at 30 1 ∷ sent_at 40 1 ∷ [])))
    (replicate 256 0)

abbrev pub start : World
start = start_among alone

-- another flow with packets and backlog of its own
abbrev pub busy : Others
busy = record { flying = 2; marked = 1; bytes = 4096; backlog = 4096 }

starts_sound : (sound start ≡ true) × (sound_among busy (view_of (start_among busy)) ≡ true)
unfolding start_among settings_e sound_among is_ev_count in_range inside sound_window max_wnd_of fresh_of sound_ledger stands is_ring is_capacity
    long_of minus
    all_to
    slot_ok if_lt if_so if_eq is_live is_zero head_ok tallies sum_of flying_one marked_one marked_size in_bounds packets queue_of tabulate packet_at
    place_of plus age_of lay laid is_done times_ok named_ok phase_of is_on is_mode has_room state_of
    bit is_word bit_at one value_of words_of packed size_in resent_in slots_of in_window status_of words_at status_at shown is_out_status is_mark_status
    stored
starts_sound = (refl, refl)

start_sound : sound start ≡ true
start_sound = starts_sound.0

-- ---- ACKs

abbrev ack_of : ℕ → ℕ → ℕ → Ack
ack_of cum map count = record {
  cum = cum;
  map = map;
  trigger = cum;
  count = count;
  service = 4;
  ev = 0;
  marked = false;
  retx = false;
}

abbrev at : ℕ → Ack → Arrival
at time a = record { time = time; ack = a }

-- the newest: P8's cum and P4's count
abbrev pub newest : Ack
newest = ack_of 0 0 3

-- two older ones: of the packets 0 and 2, and of the packets 0 and 1
abbrev early : Ack
early = ack_of 4294967294 2 16777215

abbrev late : Ack
late = ack_of 4294967295 0 1

-- one whose count is ahead of the newest's
abbrev pub ahead : Ack
ahead = ack_of 4294967295 0 4

-- one that covers the packet 3, which the newest does not
abbrev pub farther : Ack
farther = ack_of 1 0 2

-- ---- the premises of `burst`

-- "every other count less than 2^23 units behind it and none ahead"
abbrev pub Behind : World → Ack → List Ack → Type 0
Behind w n others = (a : Ack) → Memᴰ a others → minus counts n.count a.count < half

-- "each outstanding packet that another covers covered by it too"
abbrev pub CoversToo : World → Ack → List Ack → Type 0
CoversToo w n others =
    (a : Ack) → Memᴰ a others → (k : ℕ) → Outstanding w k → covers_psn a (psn_of w k) ≡ true → covers_psn n (psn_of w k) ≡ true

-- nothing asked
abbrev pub Nothing : World → Ack → List Ack → Type 0
Nothing w n others = Unit {0}

-- all of them; those on the other ACKs, their counts and what they cover, are what is given
pub record Premises (OnCounts OnCovers : World → Ack → List Ack → Type 0) (w : World) (time : ℕ) (n : Ack) (others : List Ack)
    (ds : List Arrival)
    : Type 0 where
  pub accepted : (on_ack time n w).number ≡ 0
  pub not_behind : minus counts n.count w.state.flow.held < half
  pub on_counts : OnCounts w n others
  pub on_covers : OnCovers w n others
  pub of : Of n others ds
  pub arrives : Arrives n ds
  pub timely : Timely w.state.clock ds

-- "The ledger then equals the one that the newest alone leaves."
abbrev pub Same : World → ℕ → Ack → List Arrival → Type 0
Same w time n ds = ledger_of (deliver w ds) ≡ ledger_of (on_ack time n w).after

-- With both this is `burst`. So where all the others hold and the ledgers differ, the one that is not asked fails.
pub premises_same : (w : World) (time : ℕ) (n : Ack) (others : List Ack) (ds : List Arrival) → Premises Behind CoversToo w time n others ds
    → Same w time n ds
premises_same w time n others ds P =
    burst w time n others ds
    (record { accepted = P.accepted; not_behind = P.not_behind; others_behind = P.on_counts; covers_too = P.on_covers })
    P.of P.arrives P.timely

-- ---- what holds of each member of a list

module _ {A : Type 0} (P : A → Type 0) where
  each_none : (a : A) → Memᴰ a [] → P a
  each_none a m = absurd (Memᴰ.not-nil m)

  each : (x : A) (xs : List A) → P x → ((a : A) → Memᴰ a xs → P a) → (a : A) → Memᴰ a (x ∷ xs) → P a
  each x xs p f a m = ⊎_elim (λ e. rw e p) (f a) (Memᴰ.cases_cons m)

-- ---- the newest, at the start

newest_fine : (o : Others) → let w = start_among o in Fine 110 newest w.state.settings.ev_count w.state.clock (ledger_of w)
unfolding start_among settings_e state_of covered bit_of minus plus unsent_or_old back_of span_of sinks newly_of forward_of ahead_of if_lt count_leading_zeros
newest_fine o = record { later = omega arith; early = omega arith; fields = refl; sent = refl; afloat = refl }

newest_accepted : on_ack 110 newest start ≡ record { number = 0; after = step_of (ack 110 newest) start }
newest_accepted = sym (past_answer_lem (ack 110 newest) start start_sound) ∙ fine_accepted 110 newest start (newest_fine alone)

newest_near : (o : Others) → minus counts newest.count (start_among o).state.flow.held < half
unfolding start_among state_of minus
newest_near o = omega arith

-- what the three bursts below share
module _ (OnCounts OnCovers : World → Ack → List Ack → Type 0) (others : List Ack) (ds : List Arrival) where
  premises : OnCounts start newest others → OnCovers start newest others → Of newest others ds → Arrives newest ds
      → Timely 100 ds → Premises OnCounts OnCovers start 110 newest others ds
  unfolding start_among state_of
  premises counts-so covers-so o ar tm =
      record {
        accepted = ap (λ (x : Answered). x.number) newest_accepted;
        not_behind = newest_near alone;
        on_counts = counts-so;
        on_covers = covers-so;
        of = o;
        arrives = ar;
        timely = tm;
      }

abbrev Less : Others → Ack → Type 0
Less o a =
    let w = start_among o in
    (k : ℕ) → Outstanding w k → covers_psn a (psn_of w k) ≡ true → covers_psn newest (psn_of w k) ≡ true

-- an ACK that does not cover the packet 3 covers nothing that the newest does not
covers_less : (o : Others) (a : Ack) → covers_psn a (psn_of start 3) ≡ false → Less o a
unfolding start_among state_of covered minus plus bit_of long_of
covers_less o a h zero out e = refl
covers_less o a h (suc zero) out e = refl
covers_less o a h (suc (suc zero)) out e = refl
covers_less o a h (suc (suc (suc zero))) out e = absurd (false≢true (sym h ∙ e))
covers_less o a h (suc (suc (suc (suc k)))) out e = absurd (let z : ⊥ = omega (arith, out.within) in z)

-- the two older ones and the one whose count is ahead do not cover it
not_three : (covers_psn early (psn_of start 3) ≡ false) × ((count : ℕ) → covers_psn (ack_of 4294967295 0 count) (psn_of start 3) ≡ false)
unfolding start_among state_of covered minus plus bit_of
not_three = (refl, λ count. refl)

-- ---- a burst with every premise: in another order, the newest not last, one of the others doubled

abbrev pub others : List Ack
others = early ∷ late ∷ []

abbrev pub arrivals : List Arrival
arrivals = at 110 late ∷ at 120 newest ∷ at 120 early ∷ at 130 late ∷ []

-- what is asked of each arrival and of each other
abbrev Member : List Ack → Arrival → Type 0
Member xs d = (d.ack ≡ newest) ⊎ Memᴰ d.ack xs

abbrev Near : Ack → Type 0
Near a = minus counts newest.count a.count < half

others_near : (a : Ack) → Memᴰ a others → Near a
unfolding minus
others_near = each Near _ _ (omega arith) (each Near _ _ (omega arith) (each_none Near))

others_less : (o : Others) (a : Ack) → Memᴰ a others → Less o a
others_less o =
    each (Less o) _ _ (covers_less o early not_three.0) (each (Less o) _ _ (covers_less o late (not_three.1 1)) (each_none (Less o)))

arrivals_of : Of newest others arrivals
arrivals_of =
    each (Member others) _ _ (inr (Memᴰ.tail (Memᴰ.head refl)))
    (each (Member others) _ _ (inl refl)
    (each (Member others) _ _ (inr (Memᴰ.head refl))
    (each (Member others) _ _ (inr (Memᴰ.tail (Memᴰ.head refl))) (each_none (Member others)))))

newest_arrives : Arrives newest arrivals
newest_arrives = (at 120 newest, Memᴰ.tail (Memᴰ.head refl), refl)

arrivals_timely : Timely 100 arrivals
arrivals_timely = (omega arith, omega arith, (omega arith, omega arith, (omega arith, omega arith, (omega arith, omega arith, tt))))

pub premises_hold : Premises Behind CoversToo start 110 newest others arrivals
premises_hold = premises Behind CoversToo others arrivals others_near (others_less alone) arrivals_of newest_arrives arrivals_timely

-- its ledger is the one that the newest alone leaves
pub same_here : Same start 110 newest arrivals
same_here = premises_same start 110 newest others arrivals premises_hold

-- and so of the flow among others
pub same_among : ledger_of (past_deliver (start_among busy) arrivals) ≡ ledger_of (past_ack 110 newest (start_among busy)).after
unfolding start_among state_of
same_among =
    burst_among busy (start_among busy) 110 newest others arrivals starts_sound.1
    (record {
      accepted = ap (λ (x : Answered). x.number) (fine_accepted 110 newest (start_among busy) (newest_fine busy));
      not_behind = newest_near busy;
      others_behind = others_near;
      covers_too = others_less busy;
    })
    arrivals_of newest_arrives arrivals_timely

-- ---- the newest, and after it one other, a

abbrev pub newest_then : Ack → List Arrival
newest_then a = at 110 newest ∷ at 120 a ∷ []

-- every premise but what is asked of a
then_premises : (a : Ack) (OnCounts OnCovers : World → Ack → List Ack → Type 0) → OnCounts start newest (a ∷ [])
    → OnCovers start newest (a ∷ []) → Premises OnCounts OnCovers start 110 newest (a ∷ []) (newest_then a)
then_premises a OnCounts OnCovers counts-so covers-so =
    premises OnCounts OnCovers (a ∷ []) (newest_then a)
    counts-so covers-so
    (each (Member (a ∷ [])) _ _ (inl refl) (each (Member (a ∷ [])) _ _ (inr (Memᴰ.head refl)) (each_none (Member (a ∷ [])))))
    (at 110 newest, Memᴰ.head refl, refl)
    (omega arith, omega arith, (omega arith, omega arith, tt))

-- the ledger that the newest leaves
unfoldable left : Ledger
left = acknowledge_of 0 0 3 (ledger_of start)

left_is : ledger_of (step_of (ack 110 newest) start) ≡ left
unfolding left
left_is = step_ledger alone (ack 110 newest) start start_sound (fine_rows 110 newest start (newest_fine alone))

abbrev evs : ℕ
evs = start.state.settings.ev_count

module _ (a : Ack) (f : Fine 120 a evs 110 left) where
  abbrev w : World
  w = step_of (ack 110 newest) start

  w_sound : sound w ≡ true
  w_sound = step_sound alone (ack 110 newest) start start_sound (fine_rows 110 newest start (newest_fine alone))

  fine_here : Fine 120 a w.state.settings.ev_count w.state.clock (ledger_of w)
  fine_here =
      subst (λ (s : Settings). Fine 120 a s.ev_count w.state.clock (ledger_of w)) (sym (step_settings (ack 110 newest) start))
      (subst (Fine 120 a evs w.state.clock) (sym left_is) (subst (λ (c : ℕ). Fine 120 a evs c left)
      (sym (step_clock (ack 110 newest) start)) f))

  both_leave : ledger_of (deliver start (newest_then a)) ≡ acknowledge_of a.cum a.map a.count left
  both_leave =
      ap (λ (x : Answered). ledger_of (on_ack 120 a x.after).after) newest_accepted
      ∙ ap (λ (x : Answered). ledger_of x.after)
      (sym (past_answer_lem (ack 120 a) w w_sound) ∙ fine_accepted 120 a w fine_here)
      ∙ step_ledger alone (ack 120 a) w w_sound (fine_rows 120 a w fine_here)
      ∙ ap (acknowledge_of a.cum a.map a.count) left_is

  -- a number that the two ledgers have differently
  differ : (number : Ledger → ℕ) (m n : ℕ) → number (acknowledge_of a.cum a.map a.count left) ≡ m → number left ≡ n → (m ≡ n → ⊥)
      → Same start 110 newest (newest_then a) → ⊥
  differ number m n e g ne s =
      ne (sym e ∙ ap number (sym both_leave ∙ s ∙ ap (λ (x : Answered). ledger_of x.after) newest_accepted ∙ left_is) ∙ g)

-- both of the others below are accepted there
then_fine : Fine 120 ahead evs 110 left × Fine 120 farther evs 110 left
unfolding left acknowledge_of start_among settings_e state_of covered bit_of minus plus unsent_or_old back_of span_of sinks newly_of forward_of ahead_of
    is_old held_of if_lt if_so count_leading_zeros
then_fine = (
  record { later = omega arith; early = omega arith; fields = refl; sent = refl; afloat = refl },
  record { later = omega arith; early = omega arith; fields = refl; sent = refl; afloat = refl },
)

-- the held count that `ahead` leaves, and the newest; low that `farther` leaves, and the newest
then_numbers :
    ((acknowledge_of 4294967295 0 4 left).flow.held ≡ 4) × (left.flow.held ≡ 3) × ((acknowledge_of 1 0 2 left).flow.low ≡ 2)
    × (left.flow.low ≡ 1)
unfolding left acknowledge_of start_among state_of covered bit_of minus plus ahead_of is_old held_of long_of packets queue_of tabulate packet_at
    place_of
    age_of lay laid cover_all cover_one is_out is_flying is_marked done_run if_so if_eq bit
    is_word bit_at one value_of words_of packed size_in resent_in slots_of in_window status_of words_at status_at shown is_out_status is_mark_status stored
then_numbers = (refl, refl, refl, refl)

-- ---- `Behind` is needed: all premises hold but this, as the other's count is ahead of the newest's.
-- It is held in the end, and not the newest's.

pub counts_needed : Premises Nothing CoversToo start 110 newest (ahead ∷ []) (newest_then ahead)
    × (Same start 110 newest (newest_then ahead) → ⊥)
counts_needed = (
  then_premises ahead Nothing CoversToo tt
      (each (Less alone) _ _ (covers_less alone ahead (not_three.1 4)) (each_none (Less alone))),
  differ ahead then_fine.0 (λ l. l.flow.held) 4 3 then_numbers.0 then_numbers.1 (λ e. omega arith),
)

-- ---- `CoversToo` is needed: all premises hold but this, as the other covers a packet that the newest does not. Low moves past it too.

pub covers_needed : Premises Behind Nothing start 110 newest (farther ∷ []) (newest_then farther)
    × (Same start 110 newest (newest_then farther) → ⊥)
unfolding minus
covers_needed = (
  then_premises farther Behind Nothing (each Near _ _ (omega arith) (each_none Near)) tt,
  differ farther then_fine.1 (λ l. l.flow.low) 2 1 then_numbers.2 then_numbers.3 (λ e. omega arith),
)
