-- Setting up: a cleared memory shows the layout of no packets, and an accepted setting up leaves a sound world.
-- Assumes nothing.
use mathlib.Core.Path.{◌≡◌, refl, sym, ap, ◌∙◌}
use mathlib.Core.Bool.{Bool, true, false, not, ◌&&◌}
use mathlib.Core.List.{List, []}
use Prim.Native.Nat.{ℕ, zero, suc, ◌/◌, ◌%◌, ◌<◌}
use native.Mathlib.Omega.{arith}
use lib.Dec.{eqb}
use lib.ListN.{length, get_or, replicate, length-replicate}
use borrow.Author.Tests.{eqb-true, le-ltb, not-false}
use Rattle.rules.specs.Branch.{if_so, eq_yes, eq_no, so_yes, eq_both}
use Rattle.rules.specs.Rows.{first_of, first_none, first_here, first_later, none_here}
use Rattle.rules.specs.Test.{both}
use Rattle.bits.specs.Bits.{word_bits, is_word, bit_at}
use Rattle.bits.proofs.Digits.{bit_zero}
use Rattle.serial.specs.Psn.{psns}
use Rattle.serial.proofs.Wraps.{minus_self}
use Rattle.window.specs.Range.{in_range}
use Rattle.window.specs.Sound.{fresh_of}
use Rattle.window.specs.declared.Settings.{Settings}
use Rattle.window.proofs.Tests.{ev_count_bounds, range_facts, fresh_window}
use Rattle.ledger.specs.Packets.{no_packet, sum_of}
use Rattle.ledger.specs.Ring.{Ring, ledger, age_of, cap_of, packet_at, queue_of, tabulate, laid, long_of}
use Rattle.ledger.specs.Memory.{Memory, slots_of, shown, in_window, status_of, words_at, status_at, size_in, resent_in}
use Rattle.ledger.specs.Sound.{alone, is_capacity, is_ring, is_even, sound_ledger}
use Rattle.ledger.proofs.Geometry.{cap_facts, place_lt, laid_queue}
use Rattle.ledger.proofs.Facts.{ring_even, stands_laid, packets_laid, sound_ledger_whole}
use Rattle.ledger.proofs.Shows.{shown_cap, shown_at, shown_ring}
use Rattle.sender.specs.World.{world, view_of, Answered, answered}
use Rattle.sender.specs.Named.{idle, phase_of}
use Rattle.sender.specs.Sound.{times_ok, sound}
use Rattle.sender.specs.Rows.{set_up_rows}
use Rattle.sender.specs.Start.{no_settings, fresh_flow, fresh_totals, fresh_state, zeros, clear_memory, on_set_up}
use Rattle.sender.specs.declared.Controller.{Controller}
use Rattle.sender.proofs.Sounds.{facts_among}

-- ---- zeros over a slice

zero_at_lem : (n i : ℕ) → ◌≡◌ {A = ℕ} (get_or (replicate n 0) i 0) 0
zero_at_lem zero i = refl
zero_at_lem (suc n) zero = refl
zero_at_lem (suc n) (suc i) = zero_at_lem n i

-- ---- a cleared memory

pub times_zero : (n : ℕ) → times_ok (replicate n 0) ≡ true
unfolding times_ok
times_zero zero = refl
times_zero (suc n) = times_zero n

module _ (m : Memory) where
  clear_slots : slots_of (clear_memory m) ≡ slots_of m
  unfolding slots_of
  clear_slots = rw (length-replicate {A = ℕ} (length m.outstanding) 0, length-replicate {A = ℕ} (length m.marked) 0)

  clear_even : is_even (clear_memory m) ≡ is_even m
  unfolding is_even
  clear_even = rw (clear_slots, length-replicate {A = ℕ} (length m.sizes) 0, length-replicate {A = ℕ} (length m.sent) 0)

  -- no bit is set, and where low is next no slot is one of low..next-1
  clear_status : (low i : ℕ) → status_at low low (clear_memory m) i ≡ 0
  unfolding status_at status_of words_at in_window bit_at is_word if_so
  clear_status low i =
      rw (
        zero_at_lem (length m.outstanding) (i / word_bits),
        zero_at_lem (length m.marked) (i / word_bits),
        bit_zero (i % word_bits),
        minus_self psns low (omega arith),
        le-ltb (age_of (slots_of (clear_memory m)) low i) 0 (omega arith),
      )

  clear_at : (low i : ℕ) → i < slots_of (clear_memory m) → packet_at (shown low low (clear_memory m)) i ≡ no_packet
  unfolding size_in resent_in
  clear_at low i h =
      shown_at low low (clear_memory m) i h
      ∙ rw (clear_status low i, zero_at_lem (length m.sizes) i, zero_at_lem (length m.sent) i)

ring_cap : (r : Ring) → is_ring r ≡ true → is_capacity (cap_of r) ≡ true
unfolding is_ring
ring_cap r e =
    let a = is_capacity (cap_of r) in
    let b = a && eqb (length r.size) (cap_of r) in
    (both a _ (both b _ (both (b && eqb (length r.sent) (cap_of r)) _ e).0).0).0

-- "an empty ring of zeros": no packets, from any PSN on
pub clear_laid : (m : Memory) (low : ℕ) → is_even m ≡ true
    → (is_capacity (slots_of m) ≡ true) × (shown low low (clear_memory m) ≡ laid (slots_of m) low [])
unfolding queue_of tabulate
clear_laid m low e =
    let r = shown low low (clear_memory m) in
    let cap : cap_of r ≡ slots_of m = shown_cap low low (clear_memory m) ∙ clear_slots m in
    let ring : is_ring r ≡ true = shown_ring low low (clear_memory m) ∙ clear_even m ∙ e in
    let ok : is_capacity (slots_of m) ≡ true = ap is_capacity (sym cap) ∙ ring_cap r ring in
    let C = cap_facts (slots_of m) ok in (
      ok,
      laid_queue (slots_of m) C low r 0 (ring_even r ring) cap (omega arith)
          (λ k h l. clear_at m low _ (rw (clear_slots m) (place_lt (slots_of m) C low k))),
    )

-- ---- an accepted setting up

fresh_ledger :
    (mtu maxwnd psn : ℕ) (m : Memory) → psn < psns → is_even m ≡ true
    → sound_ledger mtu maxwnd 0 alone (ledger (fresh_flow psn) fresh_totals (shown psn psn (clear_memory m))) ≡ true
unfolding long_of sum_of
fresh_ledger mtu maxwnd psn m fits e =
    let f = fresh_flow psn in
    let p = clear_laid m psn e in
    let ok = p.0 in
    let n : long_of f ≡ 0 = minus_self psns psn (omega arith) in
    rw p.1
    (sound_ledger_whole mtu maxwnd 0 alone (ledger f fresh_totals (laid (slots_of m) psn []))
    (stands_laid (slots_of m) f [] ok mtu 0 (omega arith) (λ k h. absurd (let z : ⊥ = omega arith in z))
    (λ h. absurd (let z : ⊥ = omega arith in z)) n
    fits fits (omega arith) (omega arith))
    (rw (packets_laid (slots_of m) f [] ok n (omega arith))
    (record { flying = refl; marked = refl; bytes = refl; backlog = refl; flown = record { low = omega arith; high = omega arith } })))

module _ (s : Settings) (m : Memory) (times : List ℕ) where
  fresh_named : phase_of s.mtu (fresh_of s).cwnd fresh_totals ≡ idle
  unfolding phase_of
  fresh_named = sym (so_yes _ _ _ _ refl (eq_yes _ _ _ _ _ refl refl))

  -- the fresh state with a cleared ring and cleared EV times holds together
  pub fresh_sound : in_range s ≡ true → (is_even m && eqb (length times) s.ev_count) ≡ true
      → sound (world (fresh_state s) (clear_memory m) (zeros times)) ≡ true
  unfolding fresh_state
  fresh_sound range lengths =
      let R = range_facts s range in
      let p = both (is_even m) (eqb (length times) s.ev_count) lengths in
      facts_among alone (view_of (world (fresh_state s) (clear_memory m) (zeros times)))
      (record {
        range = R;
        sound_window_lem = fresh_window R;
        sound_ledger_lem = fresh_ledger s.mtu s.maxwnd s.first_psn m R.psn_high p.0;
        clock_ok = omega arith;
        times_long = length-replicate {A = ℕ} (length times) 0 ∙ eqb-true (length times) s.ev_count p.1;
        times_ok_lem = times_zero (length times);
        cursor_ok = omega (arith, ev_count_bounds s.ev_count R.evs_allowed);
        named = sym fresh_named;
      })

  -- an accepted setting up: the settings are in range, the lengths are good, and the world after is the fresh one
  pub set_up_fresh :
      (on_set_up s m times).number ≡ 0 →
      (in_range s ≡ true) × ((is_even m && eqb (length times) s.ev_count) ≡ true)
      × ((on_set_up s m times).after ≡ world (fresh_state s) (clear_memory m) (zeros times))
  unfolding on_set_up
  set_up_fresh =
      eq_both
      (λ (a : Answered).
      a.number ≡ 0 →
      (in_range s ≡ true) × ((is_even m && eqb (length times) s.ev_count) ≡ true)
      × (a.after ≡ world (fresh_state s) (clear_memory m) (zeros times)))
      (first_of (set_up_rows s m times)) 0 _ _
      (λ e _.
      let p = none_here 1 (not (in_range s)) _ (omega arith) e in
      let q = none_here 2 (not (is_even m && eqb (length times) s.ev_count)) _ (omega arith) p.1 in
      (not-false (in_range s) p.0, not-false (is_even m && eqb (length times) s.ev_count) q.0, refl))
      (λ e n. absurd (e n))

  -- AN ACCEPTED SETTING UP leaves a sound world
  pub set_up_sound : (on_set_up s m times).number ≡ 0 → sound (on_set_up s m times).after ≡ true
  set_up_sound e = let p = set_up_fresh e in ap sound p.2 ∙ fresh_sound p.0 p.1

  -- ---- the answer, by the tests in their order, as the code makes them

  module _ (range : Bool) (range-is : range ≡ in_range s) where
    module _ (c : Controller) (c-is : c ≡ fresh_state no_settings) (n : ℕ) where
      refused_so : n ≡ first_of (set_up_rows s m times) → 0 < n → answered n c m times ≡ on_set_up s m times
      unfolding on_set_up
      refused_so e h = eq_no (first_of (set_up_rows s m times)) 0 _ _ _ (λ z. let k : ⊥ = omega (arith, e) in k) (rw (c-is, e))

      pub refused_range : n ≡ 1 → not range ≡ true → answered n c m times ≡ on_set_up s m times
      refused_range k e = refused_so (k ∙ first_here 1 1 (not (in_range s)) _ (ap not (sym range-is) ∙ e) refl) (omega (arith, k))

      pub refused_lengths :
          n ≡ 2 → not range ≡ false → (even : Bool) → even ≡ is_even m → not (even && eqb (length times) s.ev_count) ≡ true →
          answered n c m times ≡ on_set_up s m times
      refused_lengths k e even even_is f =
          refused_so
          (k
          ∙ first_later 2 1 (not (in_range s)) _ (ap not (sym range-is) ∙ e)
          (first_here 2 2 (not (is_even m && eqb (length times) s.ev_count)) _ (rw (← even_is) f) refl))
          (omega (arith, k))

    pub accepted_so :
        not range ≡ false → (even : Bool) → even ≡ is_even m → not (even && eqb (length times) s.ev_count) ≡ false →
        (c : Controller) (slots : Memory) (evs : List ℕ) → c ≡ fresh_state s → slots ≡ clear_memory m → evs ≡ zeros times →
        answered 0 c slots evs ≡ on_set_up s m times
    unfolding on_set_up
    accepted_so e even even_is f c slots evs a b d =
        eq_yes (first_of (set_up_rows s m times)) 0 _ _ _
        (sym
        (first_later 0 1 (not (in_range s)) _ (ap not (sym range-is) ∙ e)
        (first_later 0 2 (not (is_even m && eqb (length times) s.ev_count)) _ (rw (← even_is) f) first_none)))
        (rw (a, b, d))
