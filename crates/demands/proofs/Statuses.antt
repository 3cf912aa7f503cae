-- `same_ledger`: the new ring and the old one show the same ledger after every event and give the same refusals (request M-109), from any
-- memory whatever: what an accepted event steps to holds together, so the memory that keeps it shows it. `refusal_2_reads`: the old status
-- test, told by the bits.
-- Assumes nothing.
use mathlib.Core.Path.{◌≡◌, refl, sym, ap, ap₂, ◌∙◌}
use mathlib.Core.Bool.{Bool, true, false, not, ◌&&◌, ◌||◌}
use mathlib.Core.List.{List, [], ◌∷◌}
use Prim.Native.Nat.{ℕ, zero, suc}
use native.Mathlib.Omega.{arith}
use lib.Dec.{eqb}
use lib.ListN.{length, get_or, replicate, length-replicate}
use borrow.Author.Tests.{not-false}
use Rattle.rules.specs.Branch.{if_so, if_eq, eq_yes, eq_no, eq_both}
use Rattle.rules.specs.Test.{inside, both}
use Rattle.rules.specs.Rows.{row, first_of, none_here}
use Rattle.bits.specs.Bits.{bit_at}
use Rattle.window.specs.Range.{in_range}
use Rattle.window.specs.declared.Settings.{Settings}
use Rattle.ledger.specs.Packets.{no_packet, flying_status, done_status}
use Rattle.ledger.specs.Ring.{Ring, cap_of, packet_at, queue_of, tabulate, laid}
use Rattle.ledger.specs.Memory.{Memory, slots_of, status_of, status_at}
use Rattle.ledger.specs.Sound.{is_capacity, is_ring, is_even, alone, Even}
use Rattle.ledger.proofs.Geometry.{cap_facts, laid_queue}
use Rattle.ledger.proofs.Facts.{ring_even}
use Rattle.sender.specs.World.{World, View, view, view_of, world_of, ledger_in, Answered, Routing}
use Rattle.sender.specs.Sound.{sound}
use Rattle.sender.specs.Rows.{with_sound, set_up_rows}
use Rattle.sender.specs.Start.{fresh_state, zeros, on_set_up}
use Rattle.sender.specs.Events.{decided, on_new_data, on_send, on_ack, on_nack, on_loss, on_path}
use Rattle.sender.proofs.Rowing.{answer_number}
use Rattle.sender.proofs.Starts.{clear_laid, set_up_fresh}
use Rattle.demands.specs.Events.{Event, new_data, send, ack, nack, loss, path, answer, view_step, run}
use Rattle.demands.specs.Statuses.{OldAnswered, old_decided, old_answer, old_clear, old_set_up_rows, old_set_up, old_run, old_numbers, numbers}
use Rattle.demands.specs.Statuses.{SameLedger, Refusal2Reads}
use Rattle.demands.specs.Past.{past_rows}
use Rattle.demands.proofs.Sounded.{step_view}

-- ---- one event

module _ (n : ℕ) (v after : View) where
  old_yes : n ≡ 0 → record { number = 0; after = after } ≡ old_decided n v after
  unfolding old_decided
  old_yes e = eq_yes n 0 _ _ _ e refl

  old_no : (n ≡ 0 → ⊥) → record { number = n; after = v } ≡ old_decided n v after
  unfolding old_decided
  old_no e = eq_no n 0 _ _ _ e refl

-- one number, and one view afterwards
abbrev Same : ℕ → World → OldAnswered → Type 0
Same n w x = (n ≡ x.number) × (view_of w ≡ x.after)

-- of two answers by a number n: the one has the number 0 and a world that shows the view v, the other n and the world as it was
same_decided : {A : Type 0} (number : A → ℕ) (after : A → World) (n : ℕ) (taken refused : A) (w : World) (v : View)
    → number taken ≡ 0 → (n ≡ 0 → view_of (after taken) ≡ v) → number refused ≡ n → after refused ≡ w
    → Same (number (if_eq n 0 taken refused)) (after (if_eq n 0 taken refused)) (old_decided n (view_of w) v)
same_decided {A} number after n taken refused w v e shows f g =
    eq_both (λ (a : A). Same (number a) (after a) (old_decided n (view_of w) v)) n 0 taken refused
    (λ z. rw (← old_yes n (view_of w) v z) (e, shows z))
    (λ z. rw (← old_no n (view_of w) v z) (f, ap view_of g))

-- where no row refuses, what the event leaves shows its step
shows_step : (e : Event) (w : World) → first_of (with_sound w (past_rows e w)) ≡ 0
    → view_of (world_of (view_step e (view_of w))) ≡ view_step e (view_of w)
shows_step e w z =
    let p = none_here 2 (not (sound w)) (past_rows e w) (omega arith) z in
    step_view alone e w (not-false (sound w) p.0) p.1

one_event : (e : Event) (w : World) → Same (answer e w).number (answer e w).after (old_answer e (view_of w))
unfolding on_new_data on_send on_ack on_nack on_loss on_path decided
one_event (new_data time bytes) w =
    same_decided (λ (x : Answered). x.number) (λ x. x.after) _ _ _ w _ refl (shows_step (new_data time bytes) w) refl refl
one_event (send time a) w =
    same_decided (λ (x : Answered). x.number) (λ x. x.after) _ _ _ w _ refl (shows_step (send time a) w) refl refl
one_event (ack time a) w =
    same_decided (λ (x : Answered). x.number) (λ x. x.after) _ _ _ w _ refl (shows_step (ack time a) w) refl refl
one_event (nack time a) w =
    same_decided (λ (x : Answered). x.number) (λ x. x.after) _ _ _ w _ refl (shows_step (nack time a) w) refl refl
one_event (loss time a) w =
    same_decided (λ (x : Answered). x.number) (λ x. x.after) _ _ _ w _ refl (shows_step (loss time a) w) refl refl
one_event (path time) w =
    same_decided (λ (x : Routing). x.number) (λ x. x.after) _ _ _ w _ refl (shows_step (path time) w) refl refl

-- ---- a list of events

along : (es : List Event) (w : World) → view_of (run w es) ≡ old_run (view_of w) es
along [] w = refl
along (e ∷ es) w = along es (answer e w).after ∙ ap (λ (v : View). old_run v es) (one_event e w).1

numbers_along : (es : List Event) (w : World) → numbers w es ≡ old_numbers (view_of w) es
numbers_along [] w = refl
numbers_along (e ∷ es) w =
    ap₂ (λ (n : ℕ) (ns : List ℕ). n ∷ ns) (one_event e w).0
    (numbers_along es (answer e w).after ∙ ap (λ (v : View). old_numbers v es) (one_event e w).1)

-- ---- setting up

zero_at_lem : (n i : ℕ) → ◌≡◌ {A = ℕ} (get_or (replicate n 0) i 0) 0
zero_at_lem zero i = refl
zero_at_lem (suc n) zero = refl
zero_at_lem (suc n) (suc i) = zero_at_lem n i

module _ (r : Ring) (ok : is_ring r ≡ true) where
  old_even : Even (old_clear r)
  old_even =
      let E = ring_even r ok in
      let a = length-replicate {A = ℕ} (length r.status) 0 in
      record {
        some = omega (arith, E.some, a);
        few = omega (arith, E.few, a);
        size = length-replicate {A = ℕ} (length r.size) 0 ∙ E.size ∙ sym a;
        sent = length-replicate {A = ℕ} (length r.sent) 0 ∙ E.sent ∙ sym a;
        resent = length-replicate {A = ℕ} (length r.resent) 0 ∙ E.resent ∙ sym a;
      }

  old_at : (i : ℕ) → packet_at (old_clear r) i ≡ no_packet
  unfolding packet_at
  old_at i =
      rw (
        zero_at_lem (length r.status) i,
        zero_at_lem (length r.size) i,
        zero_at_lem (length r.sent) i,
        zero_at_lem (length r.resent) i,
      )

  -- a cleared ring is the layout of no packets, from any PSN on
  old_laid : (low : ℕ) → is_capacity (cap_of r) ≡ true → old_clear r ≡ laid (cap_of r) low []
  unfolding queue_of tabulate
  old_laid low cap =
      laid_queue (cap_of r) (cap_facts (cap_of r) cap) low (old_clear r) 0 old_even (length-replicate {A = ℕ} (length r.status) 0)
      (omega arith) (λ k h l. old_at _)

module _ (s : Settings) (m : Memory) (r : Ring) (times : List ℕ) where
  new_number : first_of (set_up_rows s m times) ≡ (on_set_up s m times).number
  unfolding on_set_up
  new_number = answer_number (λ (x : Answered). x.number) _ _ _ refl refl

  old_number : first_of (old_set_up_rows s r times) ≡ (old_set_up s r times).number
  unfolding old_decided
  old_number = answer_number (λ (x : OldAnswered). x.number) _ _ _ refl refl

  -- both test the settings, then the lengths
  rows_same : is_ring r ≡ is_even m → first_of (set_up_rows s m times) ≡ first_of (old_set_up_rows s r times)
  rows_same e =
      ap (λ (b : Bool). first_of (row (not (in_range s)) 1 ∷ row (not (b && eqb (length times) s.ev_count)) 2 ∷ [])) (sym e)

  set_up_number : is_ring r ≡ is_even m → (on_set_up s m times).number ≡ (old_set_up s r times).number
  set_up_number e = sym new_number ∙ rows_same e ∙ old_number

  -- accepted, both have an empty ring
  set_up_view : is_ring r ≡ true → cap_of r ≡ slots_of m → (on_set_up s m times).number ≡ 0
      → view_of (on_set_up s m times).after ≡ (old_set_up s r times).after
  unfolding fresh_state
  set_up_view ok cap n =
      let p = set_up_fresh s m times n in
      let even = (both (is_even m) (eqb (length times) s.ev_count) p.1).0 in
      let c = clear_laid m s.first_psn even in
      let empty = c.1 ∙ ap (λ (k : ℕ). laid k s.first_psn []) (sym cap) ∙ sym (old_laid r ok s.first_psn (rw cap c.0)) in
      let z = sym (rows_same (ok ∙ sym even)) ∙ new_number ∙ n in
      ap view_of p.2 ∙ ap (λ (q : Ring). view (fresh_state s) q (zeros times)) empty
      ∙ ap (λ (x : OldAnswered). x.after) (old_yes _ _ _ z)

-- ---- the request's theorem

pub same_ledger : SameLedger
same_ledger =
    record {
      same_refusals = λ e w. (one_event e w).0;
      same_view = λ e w. (one_event e w).1;
      same_along = along;
      same_numbers = numbers_along;
      same_set_up = set_up_number;
      from_set_up =
          λ s m r times w es ok cap U.
          ap ledger_in
          (along es w
          ∙ ap (λ (v : View). old_run v es) (ap view_of U.gives ∙ set_up_view s m r times ok cap U.accepted));
    }

-- ---- the old status test, by the bits

live_bits : (out mark : Bool) → inside flying_status (status_of true out mark) done_status ≡ not (mark && not out)
unfolding status_of if_so inside
live_bits true true = refl
live_bits true false = refl
live_bits false true = refl
live_bits false false = refl

other_bits : (out mark : Bool) → eqb (status_of false out mark) 0 ≡ not (out || mark)
unfolding status_of if_so
other_bits true true = refl
other_bits true false = refl
other_bits false true = refl
other_bits false false = refl

pub refusal_2_reads : Refusal2Reads
unfolding status_at if_so
refusal_2_reads low next m i words =
    record {
      inside_window = λ e. rw (words, e) (live_bits (bit_at m.outstanding i) (bit_at m.marked i));
      outside_window = λ e. rw (words, e) (other_bits (bit_at m.outstanding i) (bit_at m.marked i));
    }
