-- Setting up a context: every flow's record overwritten, each flow of a fresh context is a fresh sender's, and so an accepted setting up
-- leaves a sound context.
-- Assumes nothing.
use mathlib.Core.Path.{◌≡◌, refl, sym, ap, ◌∙◌}
use mathlib.Core.Bool.{Bool, true, false, not, ◌&&◌}
use mathlib.Core.List.{List, ◌++◌}
use mathlib.Core.Logic.{by_cases}
use Prim.Native.Nat.{ℕ, ◌+◌, ◌-◌, ◌*◌, ◌/◌, ◌≤◌, ◌<◌}
use native.Mathlib.Decide.{dec_lt}
use native.Mathlib.Omega.{arith}
use lib.Dec.{eqb}
use lib.ListN.{length, take, drop, replicate, length-replicate, get_or-replicate, replicate-append-replicate}
use lib.Seq.{take_at, drop_at}
use borrow.Author.Tests.{eqb-true, eq-eqb, not-false}
use Rattle.rules.specs.Branch.{eq_yes, eq_no, eq_both}
use Rattle.rules.specs.Rows.{first_of, first_none, first_here, first_later, none_here}
use Rattle.rules.specs.Test.{both, whole}
use Rattle.bits.proofs.Words.{sum_none}
use Rattle.window.specs.Range.{in_range}
use Rattle.window.specs.declared.Settings.{Settings}
use Rattle.ledger.specs.Memory.{Memory}
use Rattle.ledger.specs.Packets.{flying_one, marked_one, marked_size}
use Rattle.ledger.specs.Sound.{alone, is_capacity, is_even}
use Rattle.ledger.specs.declared.Flow.{Flow}
use Rattle.ledger.proofs.Facts.{sound_ledger_parts}
use Rattle.ledger.proofs.Shows.{lengths_even}
use Rattle.flow_table.specs.Words.{flow_words, count_of, is_table, flow_at, with_flow, words_of, no_flow, Table}
use Rattle.flow_table.specs.Parts.{words_in, part, part_of, Rings}
use Rattle.flow_table.proofs.Places.{table_facts, with_length, flow_same, flow_other}
use Rattle.flow_table.proofs.Records.{words_length, words_count, words_flow, flows_same}
use Rattle.flow_table.proofs.Cuts.{part_in, part_length, ring_lengths, one_ring}
use Rattle.sender.specs.World.{world, view_of, ledger_in}
use Rattle.sender.specs.Sound.{sound}
use Rattle.sender.specs.Start.{no_settings, fresh_flow, zeros, clear_memory}
use Rattle.sender.specs.Start.{fresh_state as freshSender}
use Rattle.sender.proofs.Sounds.{SoundFacts, among_facts}
use Rattle.sender.proofs.Starts.{fresh_sound}
use Rattle.context.specs.Context.{Context, context, Answered, answered, flow_count, cap_in, flow_in, memory_in}
use Rattle.context.specs.Context.{joined_of, shared_of, world_at}
use Rattle.context.specs.Sound.{is_cut, stands_at, adds_at, sound_context}
use Rattle.context.specs.Start.{lengths_ok, set_up_rows, fresh_state, fresh_table, on_set_up}
use Rattle.context.specs.declared.Controller.{Controller}
use Rattle.context.proofs.Sounds.{SoundContext, cut_facts, facts_context}

-- ---- one record over all

-- of the table xs of n flows, now ys, the first k flows' records are overwritten with f
pub record Overwritten (f : Flow) (n : ℕ) (xs ys : List ℕ) (k : ℕ) : Type 0 where
  pub within : k ≤ n
  pub long : length ys ≡ length xs
  pub f_so : (j : ℕ) → j < k → flow_at ys j ≡ f

module _ (f : Flow) (n : ℕ) (xs : List ℕ) (whole-so : length xs ≡ flow_words * n) where
  pub over_none : Overwritten f n xs xs 0
  over_none = record { within = omega arith; long = refl; f_so = λ j h. absurd (let z : ⊥ = omega arith in z) }

  pub over_more : (ys : List ℕ) (k : ℕ) → Overwritten f n xs ys k → k < n → {zs : List ℕ} → zs ≡ with_flow ys k f
      → Overwritten f n xs zs (k + 1)
  over_more ys k O h e =
      rw e (record {
        within = omega arith;
        long = with_length ys k f ∙ O.long;
        f_so =
            λ j l. by_cases (dec_lt j k)
            (λ p. flow_other ys k f j (λ q. omega arith) ∙ O.f_so j p)
            (λ p. let q : j ≡ k = omega arith in rw q (flow_same ys k f (omega (arith, O.long))));
      })

  pub over_all : (ys : List ℕ) (k : ℕ) → Overwritten f n xs ys k → n ≤ k → ys ≡ words_of (replicate n f)
  over_all ys k O h =
      flows_same n ys (words_of (replicate n f)) (O.long ∙ whole-so)
      (words_length (replicate n f) ∙ ap (λ (m : ℕ). flow_words * m) (length-replicate n f))
      (λ j l. O.f_so j (omega arith) ∙ sym (words_flow (replicate n f) j ∙ get_or-replicate n j f no_flow l))

-- ---- a part of zeros is zeros

zeros_part : (from len : ℕ) (xs : List ℕ) → from + len ≤ length xs → part from len (zeros xs) ≡ zeros (part from len xs)
unfolding part
zeros_part from len xs h =
    let rest = length xs - (from + len) in
    let e : length xs ≡ from + (len + rest) = omega arith in
    let split : zeros xs ≡ replicate from 0 ++ (replicate len 0 ++ replicate rest 0) =
    ap (λ (n : ℕ). replicate n 0) e ∙ sym (replicate-append-replicate from (len + rest) 0)
    ∙ ap (λ (t : List ℕ). replicate from 0 ++ t) (sym (replicate-append-replicate len rest 0)) in
    ap (λ (t : List ℕ). take len (drop from t)) split
    ∙ ap (take len) (drop_at (replicate from 0) (replicate len 0 ++ replicate rest 0) from (length-replicate from 0))
    ∙ take_at (replicate len 0) (replicate rest 0) len (length-replicate len 0)
    ∙ ap (λ (n : ℕ). replicate n 0) (sym (part_length from len xs h))

clear_part : (n cap k : ℕ) (m : Memory) → Rings n cap m → k < n → part_of cap k (clear_memory m) ≡ clear_memory (part_of cap k m)
unfolding part_of
clear_part n cap k m R h =
    let w = part_in k n (words_in cap) h in
    let c = part_in k n cap h in
    rw (
      zeros_part (k * words_in cap) (words_in cap) m.outstanding (omega (arith, w, R.outstanding)),
      zeros_part (k * words_in cap) (words_in cap) m.marked (omega (arith, w, R.marked)),
      zeros_part (k * cap) cap m.sizes (omega (arith, c, R.sizes)),
      zeros_part (k * cap) cap m.sent (omega (arith, c, R.sent)),
    )

-- ---- a fresh context

module _ (s : Settings) (flows : List ℕ) (m : Memory) (times : List ℕ) where
  abbrev n : ℕ
  n = count_of flows

  abbrev cap : ℕ
  cap = length m.sizes / n

  abbrev psn : ℕ
  psn = s.first_psn

  abbrev begun : Context
  begun = context (fresh_state s) (fresh_table psn flows) (clear_memory m) (zeros times)

  begun_count : flow_count begun ≡ n
  unfolding fresh_table
  begun_count = words_count (replicate n (fresh_flow psn)) ∙ length-replicate n (fresh_flow psn)

  begun_long : length begun.flows ≡ flow_words * n
  unfolding fresh_table
  begun_long = words_length (replicate n (fresh_flow psn)) ∙ ap (λ (i : ℕ). flow_words * i) (length-replicate n (fresh_flow psn))

  begun_cap : cap_in begun ≡ cap
  begun_cap = rw (begun_count, length-replicate {A = ℕ} (length m.sizes) 0)

  begun_flow : (k : ℕ) → k < n → flow_in begun k ≡ fresh_flow psn
  unfolding fresh_table
  begun_flow k h = words_flow (replicate n (fresh_flow psn)) k ∙ get_or-replicate n k (fresh_flow psn) no_flow h

  module _ (range : in_range s ≡ true) (T : Table flows) (ok : is_capacity cap ≡ true) (R : Rings n cap m)
      (long : length times ≡ s.ev_count) where
    -- what each flow sees is a fresh sender's world
    one_world : (k : ℕ) → k < n → world_at k begun ≡ world (freshSender s) (clear_memory (part_of cap k m)) (zeros times)
    unfolding world_at joined_of fresh_state shared_of freshSender
    one_world k h =
        let p : memory_in begun k ≡ clear_memory (part_of cap k m) =
        ap (λ (c : ℕ). part_of c k (clear_memory m)) begun_cap ∙ clear_part n cap k m R h in
        rw (p, begun_flow k h)

    -- which is sound
    one_fresh : (k : ℕ) → k < n → SoundFacts alone (view_of (world_at k begun))
    one_fresh k h =
        let even : is_even (part_of cap k m) ≡ true =
        lengths_even (part_of cap k m) (one_ring cap (part_of cap k m) ok (ring_lengths n cap k m R h)) in
        among_facts alone (view_of (world_at k begun))
        (ap sound (one_world k h) ∙ fresh_sound s (part_of cap k m) times range (whole even (eq-eqb _ _ long)))

    one_stands : (k : ℕ) → k < flow_count begun → stands_at begun k ≡ true
    unfolding stands_at world_at joined_of
    one_stands k h =
        (sound_ledger_parts _ _ _ alone (ledger_in (view_of (world_at k begun))) (one_fresh k (omega (arith, begun_count))).sound_ledger_lem).0

    -- no flow adds anything
    one_tallied : (k : ℕ) → k < flow_count begun
        → (adds_at flying_one begun k ≡ 0) × (adds_at marked_one begun k ≡ 0) × (adds_at marked_size begun k ≡ 0) × ((flow_in begun k).backlog ≡ 0)
    unfolding world_at joined_of fresh_state shared_of freshSender
    one_tallied k h =
        let t = (sound_ledger_parts _ _ _ alone (ledger_in (view_of (world_at k begun)))
        (one_fresh k (omega (arith, begun_count))).sound_ledger_lem).1 in
        (omega (arith, t.flying), omega (arith, t.marked), omega (arith, t.bytes), omega (arith, t.backlog))

    begun_facts : SoundContext begun
    unfolding world_at joined_of fresh_state shared_of freshSender
    begun_facts =
        let F = one_fresh 0 T.some in
        let N = length-replicate {A = ℕ} in
        record {
          range = F.range;
          sound_window_lem = F.sound_window_lem;
          table =
              record {
                whole = omega (arith, begun_count, begun_long);
                some = omega (arith, begun_count, T.some);
                few = omega (arith, begun_count, T.few);
              };
          cap = ap is_capacity begun_cap ∙ ok;
          cut =
              rw (begun_cap, begun_count)
              (record {
                outstanding = N (length m.outstanding) 0 ∙ R.outstanding;
                marked = N (length m.marked) 0 ∙ R.marked;
                sizes = N (length m.sizes) 0 ∙ R.sizes;
                sent = N (length m.sent) 0 ∙ R.sent;
              });
          stand = one_stands;
          flying = sym (sum_none (adds_at flying_one begun) (flow_count begun) (λ k h. (one_tallied k h).0));
          marked = sym (sum_none (adds_at marked_one begun) (flow_count begun) (λ k h. (one_tallied k h).1));
          bytes = sym (sum_none (adds_at marked_size begun) (flow_count begun) (λ k h. (one_tallied k h).2));
          backlog = sym (sum_none (λ k. (flow_in begun k).backlog) (flow_count begun) (λ k h. (one_tallied k h).3));
          flown = (sound_ledger_parts _ _ _ alone (ledger_in (view_of (world_at 0 begun))) F.sound_ledger_lem).1.flown;
          clock_ok = F.clock_ok;
          times_long = F.times_long;
          times_ok_lem = F.times_ok_lem;
          cursor_ok = F.cursor_ok;
          turn_ok = omega (arith, begun_count, T.some);
          named = F.named;
        }

  -- ---- an accepted setting up

  lengths_facts : lengths_ok flows m ≡ true → Table flows × (is_capacity cap ≡ true) × Rings n cap m
  unfolding lengths_ok
  lengths_facts e =
      let p = both (is_table flows) (is_cut n cap m) e in
      let q = cut_facts n cap m p.1 in
      (table_facts flows p.0, q.0, q.1)

  -- the settings are in range, the lengths are good, and the context after is the fresh one
  pub set_up_fresh :
      (on_set_up s flows m times).number ≡ 0 →
      (in_range s ≡ true) × ((lengths_ok flows m && eqb (length times) s.ev_count) ≡ true)
      × ((on_set_up s flows m times).after ≡ context (fresh_state s) (fresh_table psn flows) (clear_memory m) (zeros times))
  unfolding on_set_up
  set_up_fresh =
      eq_both
      (λ (a : Answered).
      a.number ≡ 0 →
      (in_range s ≡ true) × ((lengths_ok flows m && eqb (length times) s.ev_count) ≡ true) × (a.after ≡ begun))
      (first_of (set_up_rows s flows m times)) 0 _ _
      (λ e _.
      let p = none_here 1 (not (in_range s)) _ (omega arith) e in
      let q = none_here 2 (not (lengths_ok flows m && eqb (length times) s.ev_count)) _ (omega arith) p.1 in
      (not-false (in_range s) p.0, not-false (lengths_ok flows m && eqb (length times) s.ev_count) q.0, refl))
      (λ e z. absurd (e z))

  -- AN ACCEPTED SETTING UP leaves a sound context
  pub set_up_sound : (on_set_up s flows m times).number ≡ 0 → sound_context (on_set_up s flows m times).after ≡ true
  set_up_sound e =
      let p = set_up_fresh e in
      let q = both (lengths_ok flows m) (eqb (length times) s.ev_count) p.1 in
      let l = lengths_facts q.0 in
      ap sound_context p.2 ∙ facts_context begun (begun_facts p.0 l.0 l.1 l.2 (eqb-true _ _ q.1))

  -- ---- the answer, by the tests in their order, as the code makes them

  -- of a table, as many words as before
  pub fresh_length : is_table flows ≡ true → length (fresh_table psn flows) ≡ length flows
  fresh_length e = begun_long ∙ sym (table_facts flows e).whole

  module _ (range : Bool) (range-is : range ≡ in_range s) where
    module _ (c : Controller) (c-is : c ≡ fresh_state no_settings) (i : ℕ) where
      refused_so : i ≡ first_of (set_up_rows s flows m times) → 0 < i → answered i c flows m times ≡ on_set_up s flows m times
      unfolding on_set_up
      refused_so e h = eq_no (first_of (set_up_rows s flows m times)) 0 _ _ _ (λ z. let k : ⊥ = omega (arith, e) in k) (rw (c-is, e))

      pub refused_range : i ≡ 1 → not range ≡ true → answered i c flows m times ≡ on_set_up s flows m times
      refused_range k e = refused_so (k ∙ first_here 1 1 (not (in_range s)) _ (ap not (sym range-is) ∙ e) refl) (omega (arith, k))

      pub refused_lengths :
          i ≡ 2 → not range ≡ false → (good : Bool) → good ≡ lengths_ok flows m → not (good && eqb (length times) s.ev_count) ≡ true →
          answered i c flows m times ≡ on_set_up s flows m times
      refused_lengths k e good good_is f =
          refused_so
          (k
          ∙ first_later 2 1 (not (in_range s)) _ (ap not (sym range-is) ∙ e)
          (first_here 2 2 (not (lengths_ok flows m && eqb (length times) s.ev_count)) _ (rw (← good_is) f) refl))
          (omega (arith, k))

    module _ (in-so : not range ≡ false) (good : Bool) (good_is : good ≡ lengths_ok flows m)
        (long-so : not (good && eqb (length times) s.ev_count) ≡ false) where
      pub accepted_table : is_table flows ≡ true
      unfolding lengths_ok
      accepted_table = (both (is_table flows) (is_cut n cap m) (sym good_is ∙ (both good _ (not-false _ long-so)).0)).0

      pub accepted_so :
          (c : Controller) (table : List ℕ) (slots : Memory) (evs : List ℕ) → c ≡ fresh_state s → table ≡ fresh_table psn flows
          → slots ≡ clear_memory m → evs ≡ zeros times → answered 0 c table slots evs ≡ on_set_up s flows m times
      unfolding on_set_up
      accepted_so c table slots evs a b d g =
          eq_yes (first_of (set_up_rows s flows m times)) 0 _ _ _
          (sym
          (first_later 0 1 (not (in_range s)) _ (ap not (sym range-is) ∙ in-so)
          (first_later 0 2 (not (lengths_ok flows m && eqb (length times) s.ev_count)) _ (rw (← good_is) long-so) first_none)))
          (rw (a, b, d, g))
