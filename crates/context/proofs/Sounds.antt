-- What a sound context has, fact by fact, and the way back; and that each flow of it is sound among the others (`one_holds`).
-- Assumes nothing.
use mathlib.Core.Path.{◌≡◌, ◌∙◌}
use mathlib.Core.Bool.{true}
use Prim.Native.Nat.{ℕ, ◌*◌, ◌<◌, ◌^◌}
use native.Mathlib.Omega.{arith}
use lib.Dec.{ltb, eqb}
use lib.ListN.{length}
use borrow.Author.Tests.{ltb-true, eqb-true, lt-ltb, eq-eqb}
use Rattle.rules.specs.Test.{both, whole}
use Rattle.window.specs.Limits.{time_end}
use Rattle.window.specs.Range.{in_range, InRange}
use Rattle.window.specs.Sound.{sound_window, SoundWindow}
use Rattle.window.proofs.Tests.{range_facts, range_test, window_facts, window_test}
use Rattle.ledger.specs.Bounds.{in_bounds, Flown}
use Rattle.ledger.specs.Packets.{flying_one, marked_one, marked_size}
use Rattle.ledger.specs.Memory.{Memory}
use Rattle.ledger.specs.Sound.{all_to, is_capacity, Others, Few, sound_ledger}
use Rattle.ledger.proofs.Facts.{Facts, stands_facts, flown_facts, flown_test, sound_ledger_whole, few_flying, few_marked, few_bytes}
use Rattle.ledger.proofs.Walks.{all_at, all_of}
use Rattle.flow_table.specs.Words.{is_table, Table}
use Rattle.flow_table.specs.Parts.{words_in, Rings}
use Rattle.flow_table.proofs.Places.{table_facts, facts_table}
use Rattle.sender.specs.World.{view_of, ledger_in}
use Rattle.sender.specs.Sound.{times_ok, sound_among, Holds}
use Rattle.sender.specs.Named.{phase_of}
use Rattle.sender.proofs.Sounds.{facts_among}
use Rattle.context.specs.Context.{Context, flow_count, cap_in, flow_in, ring_in, joined_of, world_at}
use Rattle.context.specs.Sound.{is_cut, stands_at, adds_at, adds_up, backlogs, totals_over, named_ok, sound_context}
use Rattle.context.proofs.Sums.{sum_but, sum_split, but_le}

-- ---- the facts

pub record SoundContext (x : Context) : Type 0 where
  pub range : InRange x.state.settings
  pub sound_window_lem : SoundWindow x.state.settings x.state.clock x.state.window
  pub table : Table x.flows
  pub cap : is_capacity (cap_in x) ≡ true
  pub cut : Rings (flow_count x) (cap_in x) x.slots
  pub stand : (k : ℕ) → k < flow_count x → stands_at x k ≡ true
  pub flying : x.state.totals.flying ≡ adds_up flying_one x
  pub marked : x.state.totals.marked ≡ adds_up marked_one x
  pub bytes : x.state.totals.marked_bytes ≡ adds_up marked_size x
  pub backlog : x.state.totals.backlog ≡ backlogs x
  pub flown : Flown x.state.settings.maxwnd x.state.totals.in_flight
  pub clock_ok : x.state.clock < time_end
  pub times_long : length x.times ≡ x.state.settings.ev_count
  pub times_ok_lem : times_ok x.times ≡ true
  pub cursor_ok : x.state.cursor < x.state.settings.ev_count
  pub turn_ok : x.state.turn < flow_count x
  pub named : x.state.phase ≡ phase_of x.state.settings.mtu x.state.window.cwnd x.state.totals

pub cut_facts : (n cap : ℕ) (m : Memory) → is_cut n cap m ≡ true → (is_capacity cap ≡ true) × Rings n cap m
unfolding is_cut
cut_facts n cap m e =
    let p = both _ (eqb (length m.sent) (n * cap)) e in
    let q = both _ (eqb (length m.sizes) (n * cap)) p.0 in
    let r = both _ (eqb (length m.marked) (n * words_in cap)) q.0 in
    let s = both (is_capacity cap) (eqb (length m.outstanding) (n * words_in cap)) r.0 in (
      s.0,
      record {
        outstanding = eqb-true _ _ s.1;
        marked = eqb-true _ _ r.1;
        sizes = eqb-true _ _ q.1;
        sent = eqb-true _ _ p.1;
      },
    )

facts_cut : (n cap : ℕ) (m : Memory) → is_capacity cap ≡ true → Rings n cap m → is_cut n cap m ≡ true
unfolding is_cut
facts_cut n cap m e R =
    whole (whole (whole (whole e (eq-eqb _ _ R.outstanding)) (eq-eqb _ _ R.marked)) (eq-eqb _ _ R.sizes)) (eq-eqb _ _ R.sent)

pub context_facts : (x : Context) → sound_context x ≡ true → SoundContext x
unfolding sound_context totals_over named_ok
context_facts x e =
    let c = x.state in
    let name = both _ (eqb c.phase (phase_of c.settings.mtu c.window.cwnd c.totals)) e in
    let turn = both _ (ltb c.turn (flow_count x)) name.0 in
    let cursor = both _ (ltb c.cursor c.settings.ev_count) turn.0 in
    let times = both _ (times_ok x.times) cursor.0 in
    let long = both _ (eqb (length x.times) c.settings.ev_count) times.0 in
    let clock = both _ (ltb c.clock time_end) long.0 in
    let total = both _ (totals_over x) clock.0 in
    let all = both _ (all_to (stands_at x) (flow_count x)) total.0 in
    let lengths = both _ (is_cut (flow_count x) (cap_in x) x.slots) all.0 in
    let table = both _ (is_table x.flows) lengths.0 in
    let first = both (in_range c.settings) (sound_window c.settings c.clock c.window) table.0 in
    let t = c.totals in
    let flown = both _ (in_bounds c.settings.maxwnd t.in_flight) total.1 in
    let backlog = both _ (eqb t.backlog (backlogs x)) flown.0 in
    let bytes = both _ (eqb t.marked_bytes (adds_up marked_size x)) backlog.0 in
    let marked = both (eqb t.flying (adds_up flying_one x)) (eqb t.marked (adds_up marked_one x)) bytes.0 in
    let cut = cut_facts (flow_count x) (cap_in x) x.slots lengths.1 in
    record {
      range = range_facts c.settings first.0;
      sound_window_lem = window_facts c.settings c.clock c.window first.1;
      table = table_facts x.flows table.1;
      cap = cut.0;
      cut = cut.1;
      stand = all_at (stands_at x) (flow_count x) all.1;
      flying = eqb-true _ _ marked.0;
      marked = eqb-true _ _ marked.1;
      bytes = eqb-true _ _ bytes.1;
      backlog = eqb-true _ _ backlog.1;
      flown = flown_facts c.settings.maxwnd t.in_flight flown.1;
      clock_ok = ltb-true c.clock time_end clock.1;
      times_long = eqb-true _ _ long.1;
      times_ok_lem = times.1;
      cursor_ok = ltb-true _ _ cursor.1;
      turn_ok = ltb-true _ _ turn.1;
      named = eqb-true _ _ name.1;
    }

pub facts_context : (x : Context) → SoundContext x → sound_context x ≡ true
unfolding sound_context totals_over named_ok
facts_context x S =
    let c = x.state in
    whole (whole (whole (whole (whole (whole (whole (whole (whole (whole
    (whole (range_test c.settings S.range) (window_test c.settings c.clock c.window S.sound_window_lem))
    (facts_table x.flows S.table))
    (facts_cut (flow_count x) (cap_in x) x.slots S.cap S.cut))
    (all_of (stands_at x) (flow_count x) S.stand))
    (whole (whole (whole (whole (eq-eqb _ _ S.flying) (eq-eqb _ _ S.marked)) (eq-eqb _ _ S.bytes)) (eq-eqb _ _ S.backlog))
    (flown_test c.settings.maxwnd c.totals.in_flight S.flown)))
    (lt-ltb c.clock time_end S.clock_ok))
    (eq-eqb _ _ S.times_long))
    S.times_ok_lem)
    (lt-ltb _ _ S.cursor_ok))
    (lt-ltb _ _ S.turn_ok))
    (eq-eqb _ _ S.named)

-- ---- one flow among the others

-- what the other flows of a context add to the totals
unfoldable pub others_of : ℕ → Context → Others
others_of k x =
    record {
      flying = sum_but k (adds_at flying_one x) (flow_count x);
      marked = sum_but k (adds_at marked_one x) (flow_count x);
      bytes = sum_but k (adds_at marked_size x) (flow_count x);
      backlog = sum_but k (λ j. (flow_in x j).backlog) (flow_count x);
    }

module _ (x : Context) (S : SoundContext x) where
  -- each flow, fact by fact
  pub flow_facts : (k : ℕ) → k < flow_count x → Facts x.state.settings.mtu x.state.clock (flow_in x k) (ring_in x k)
  unfolding stands_at
  flow_facts k h = stands_facts _ _ (flow_in x k) (ring_in x k) (S.stand k h)

  -- eight flows of 4,096 packets
  pub others_few : (k : ℕ) → Few (others_of k x)
  unfolding others_of
  others_few k =
      let n = S.table.few in
      record {
        flying = omega (arith, n, but_le k (adds_at flying_one x) (flow_count x) 4096 (λ j l. few_flying (flow_facts j l)));
        marked = omega (arith, n, but_le k (adds_at marked_one x) (flow_count x) 4096 (λ j l. few_marked (flow_facts j l)));
        bytes = omega (
          arith,
          n,
          but_le k (adds_at marked_size x) (flow_count x) (4096 * 2 ^ 14)
              (λ j l. few_bytes (omega (arith, S.range.mtu_high)) (flow_facts j l)),
        );
        backlog = omega (arith, n, but_le k (λ j. (flow_in x j).backlog) (flow_count x) (2 ^ 40) (λ j l. (flow_facts j l).backlog));
      }

  module _ (k : ℕ) (h : k < flow_count x) where
    one_ledger : sound_ledger x.state.settings.mtu x.state.settings.maxwnd x.state.clock (others_of k x)
        (ledger_in (view_of (world_at k x))) ≡ true
    unfolding world_at joined_of others_of stands_at
    one_ledger =
        sound_ledger_whole _ _ _ (others_of k x) (ledger_in (view_of (world_at k x))) (S.stand k h)
        (record {
          flying = S.flying ∙ sum_split k (adds_at flying_one x) (flow_count x) h;
          marked = S.marked ∙ sum_split k (adds_at marked_one x) (flow_count x) h;
          bytes = S.bytes ∙ sum_split k (adds_at marked_size x) (flow_count x) h;
          backlog = S.backlog ∙ sum_split k (λ j. (flow_in x j).backlog) (flow_count x) h;
          flown = S.flown;
        })

    -- EACH FLOW OF A SOUND CONTEXT IS SOUND AMONG THE OTHERS
    pub one_among : sound_among (others_of k x) (view_of (world_at k x)) ≡ true
    unfolding world_at joined_of
    one_among =
        facts_among (others_of k x) (view_of (world_at k x))
        (record {
          range = S.range;
          sound_window_lem = S.sound_window_lem;
          sound_ledger_lem = one_ledger;
          clock_ok = S.clock_ok;
          times_long = S.times_long;
          times_ok_lem = S.times_ok_lem;
          cursor_ok = S.cursor_ok;
          named = S.named;
        })

    pub one_holds : Holds (world_at k x)
    one_holds = record { others = others_of k x; few = others_few k; so = one_among }
