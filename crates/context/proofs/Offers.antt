-- What a flow offers to send (request M-108): the first marked PSN from low on is next exactly where it has no marked packet, so that it
-- tells both which packet goes and whether it is a resend. Where there is one, the packet of that PSN is marked (`offer_is_marked`), and
-- one of low..next-1 (`offer_live`).
-- Assumes nothing.
use mathlib.Core.Path.{◌≡◌, refl, sym, ap, ◌∙◌}
use mathlib.Core.Bool.{Bool, true, false, not, ◌&&◌, ◌||◌}
use mathlib.Core.List.{List, [], ◌∷◌}
use mathlib.Core.Option.{none, some}
use Prim.Native.Nat.{ℕ, suc, ◌%◌, ◌≤◌, ◌<◌}
use native.Mathlib.Nat.{add-zero, mod-eq_of_lt}
use native.Mathlib.Omega.{arith}
use lib.Dec.{ltb, eqb, leb-suc-suc}
use lib.ListN.{length, get_or}
use borrow.Author.Tests.{ltb-true, ltb-false, eqb-true, not-false, lt-ltb, eq-eqb, ne_eqb}
use Rattle.rules.specs.Branch.{if_so, so_both, lt_both}
use Rattle.serial.specs.Wrap.{minus}
use Rattle.serial.specs.Psn.{psns, plus}
use Rattle.serial.proofs.Wraps.{minus_lt}
use Rattle.serial.proofs.Cover.{plus_minus, minus_plus}
use Rattle.ledger.specs.Packets.{no_packet, is_marked}
use Rattle.ledger.specs.Ring.{Ring, long_of, packets, offset_of, packet_of}
use Rattle.ledger.specs.Seek.{unmarked_run, next_marked_of}
use Rattle.ledger.specs.declared.Flow.{Flow}
use Rattle.ledger.specs.declared.Packet.{Packet}
use Rattle.ledger.proofs.Facts.{Live, packets_long}
use Rattle.context.specs.Context.{Context, flow_count, flow_in, ring_in}
use Rattle.context.specs.Look.{marked_from}
use Rattle.context.specs.Turns.{any_marked, has_marked, ring_full, is_ready, turn_of, offered_by, choice_of}
use Rattle.context.specs.declared.choice.Turn.{Turn}
use Rattle.std.specs.Prelude.{Some, None}
use Rattle.context.proofs.Sounds.{SoundContext, flow_facts}

-- ---- a queue of packets

pub run_le : (ps : List Packet) → unmarked_run ps ≤ length ps
unfolding unmarked_run
run_le [] = omega arith
run_le (p ∷ ps) = so_both (λ (n : ℕ). n ≤ suc (length ps)) (is_marked p) _ _ (λ _. omega arith) (λ _. omega (arith, run_le ps))

-- it has a marked packet exactly if one stands behind those that are not
run_any : (ps : List Packet) → any_marked ps ≡ ltb (unmarked_run ps) (length ps)
unfolding any_marked unmarked_run if_so
run_any [] = refl
run_any (p ∷ ps) = by (is_marked p) (run_any ps)
  where
    by : (b : Bool) → any_marked ps ≡ ltb (unmarked_run ps) (length ps)
        → (b || any_marked ps) ≡ ltb (if_so b 0 (suc (unmarked_run ps))) (suc (length ps))
    by true e = sym (lt-ltb 0 (suc (length ps)) (omega arith))
    by false e = e ∙ sym (leb-suc-suc (suc (unmarked_run ps)) (length ps))

-- and that one is marked
pub run_marked : (ps : List Packet) → unmarked_run ps < length ps → is_marked (get_or ps (unmarked_run ps) no_packet) ≡ true
unfolding unmarked_run
run_marked [] h = absurd (let z : ⊥ = omega arith in z)
run_marked (p ∷ ps) h =
    so_both (λ (n : ℕ). n < suc (length ps) → is_marked (get_or (p ∷ ps) n no_packet) ≡ true) (is_marked p) _ _ (λ m _. m)
    (λ _ l. run_marked ps (omega arith)) h

-- ---- a flow

module _ (f : Flow) (r : Ring) (low : f.low < psns) (next : f.next < psns) where
  abbrev run : ℕ
  run = unmarked_run (packets f r)

  run_short : run ≤ long_of f
  run_short = omega (arith, run_le (packets f r), packets_long f r)

  long_psn : long_of f < psns
  unfolding long_of
  long_psn = minus_lt psns f.next f.low (omega arith)

  next_is : plus f.low (long_of f) ≡ f.next
  unfolding long_of
  next_is = plus_minus f.low f.next next

  low_first : offset_of f f.low ≡ 0
  unfolding offset_of plus
  low_first =
      let e : plus f.low 0 ≡ f.low = ap (λ (n : ℕ). n % psns) (add-zero f.low) ∙ mod-eq_of_lt (omega arith) in
      ap (λ (p : ℕ). minus psns p f.low) (sym e) ∙ minus_plus f.low 0 (omega arith)

  long_of_lem : plus f.low run ≡ f.next → minus psns (plus f.low run) f.low ≡ long_of f
  unfolding long_of
  long_of_lem e = ap (λ (p : ℕ). minus psns p f.low) e

  -- the first marked PSN from low on stands behind the packets that are not marked
  from_low : next_marked_of f r f.low ≡ plus f.low run
  unfolding next_marked_of
  from_low =
      rw low_first
      (lt_both (λ (p : ℕ). p ≡ plus f.low run) 0 (long_of f) _ _ (λ _. refl)
      (λ h. sym next_is ∙ ap (plus f.low) (omega (arith, run_short))))

  -- IT IS NEXT EXACTLY WHERE THERE IS NONE
  pub marked_told : any_marked (packets f r) ≡ not (eqb (next_marked_of f r f.low) f.next)
  marked_told = run_any (packets f r) ∙ ap (ltb run) (packets_long f r) ∙ by (ltb run (long_of f)) refl
    where
      -- as many packets as there are before next
      back : next_marked_of f r f.low ≡ f.next → run ≡ long_of f
      back e = sym (minus_plus f.low run (omega (arith, run_short, long_psn))) ∙ long_of_lem (sym from_low ∙ e)

      by : (b : Bool) → ltb run (long_of f) ≡ b → ltb run (long_of f) ≡ not (eqb (next_marked_of f r f.low) f.next)
      by true q =
          let h = ltb-true run (long_of f) q in
          q ∙ ap not (sym (ne_eqb _ _ (λ e. let z : ⊥ = omega (arith, back e) in z)))
      by false q =
          let same : run ≡ long_of f = omega (arith, ltb-false run (long_of f) q, run_short) in
          q ∙ ap not (sym (eq-eqb _ _ (from_low ∙ ap (plus f.low) same ∙ next_is)))

  -- with a marked packet, fewer than all stand before the first one ..
  run_less : any_marked (packets f r) ≡ true → run < long_of f
  run_less e = ltb-true run (long_of f) (sym (run_any (packets f r) ∙ ap (ltb run) (packets_long f r)) ∙ e)

  -- .. and that one is the packet of the first marked PSN ..
  first_is : run < long_of f → packet_of f r (next_marked_of f r f.low) ≡ get_or (packets f r) run no_packet
  unfolding packet_of offset_of
  first_is h =
      ap (λ (n : ℕ). get_or (packets f r) n no_packet)
      (ap (λ (p : ℕ). minus psns p f.low) from_low ∙ minus_plus f.low run (omega (arith, long_psn)))

  -- .. which is marked ..
  first_marked : any_marked (packets f r) ≡ true → is_marked (packet_of f r (next_marked_of f r f.low)) ≡ true
  first_marked e =
      let h = run_less e in
      rw (first_is h) (run_marked (packets f r) (rw (packets_long f r) h))

  -- .. and has what each packet of low..next-1 has
  first_live : {mtu clock : ℕ} → ((k : ℕ) → k < long_of f → Live mtu clock (get_or (packets f r) k no_packet))
      → any_marked (packets f r) ≡ true → Live mtu clock (packet_of f r (next_marked_of f r f.low))
  first_live live e =
      let h = run_less e in
      rw (first_is h) (live run h)

-- ---- flow k of a sound context

module _ (x : Context) (S : SoundContext x) (k : ℕ) (h : k < flow_count x) where
  abbrev first : ℕ
  first = marked_from k (flow_in x k).low x

  pub offer_marked : has_marked x k ≡ not (eqb first (flow_in x k).next)
  unfolding marked_from
  offer_marked = let F = flow_facts x S k h in marked_told (flow_in x k) (ring_in x k) F.low_psn F.next_psn

  -- with no marked packet, the PSN that it offers is next ..
  pub offer_next : has_marked x k ≡ false → first ≡ (flow_in x k).next
  offer_next e = eqb-true first (flow_in x k).next (not-false _ (sym offer_marked ∙ e))

  -- .. and with one, that of a marked packet ..
  pub offer_is_marked : has_marked x k ≡ true → is_marked (packet_of (flow_in x k) (ring_in x k) first) ≡ true
  unfolding marked_from
  offer_is_marked = let F = flow_facts x S k h in first_marked (flow_in x k) (ring_in x k) F.low_psn F.next_psn

  -- .. which, as one of low..next-1, has a size that 01 allows
  pub offer_live : has_marked x k ≡ true
      → Live x.state.settings.mtu x.state.clock (packet_of (flow_in x k) (ring_in x k) first)
  unfolding marked_from
  offer_live = let F = flow_facts x S k h in first_live (flow_in x k) (ring_in x k) F.low_psn F.next_psn F.live

-- the code's answer, by what its tests say
module _ (x : Context) (k : ℕ) where
  pub offered_so : (t : Turn) → t ≡ turn_of x k → is_ready x k ≡ true
      → choice_of (Some t) ≡ offered_by x (if_so (is_ready x k) (some k) none)
  unfolding choice_of offered_by if_so
  offered_so t e q = rw q (ap some e)

  pub offered_none : is_ready x k ≡ false → choice_of None ≡ offered_by x (if_so (is_ready x k) (some k) none)
  unfolding choice_of offered_by if_so
  offered_none q = rw q

  -- "a marked packet goes first"
  pub ready_marked : has_marked x k ≡ true → is_ready x k ≡ true
  unfolding is_ready
  ready_marked e = rw e

  -- a new packet
  pub ready_new : has_marked x k ≡ false → is_ready x k ≡ (ltb 0 (flow_in x k).backlog && not (ring_full x k))
  unfolding is_ready
  ready_new e = rw e
