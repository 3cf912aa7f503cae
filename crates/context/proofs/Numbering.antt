-- Number 2's tests in their order, as the code makes them: those of the table and the ring buffer (`not_table` .. `tested`), and all
-- (`not_range` .. `tests_left`). Once every flow stands, the totals of the bits are those of the packets (`totals_over_lem`).
-- Assumes nothing.
use mathlib.Core.Path.{◌≡◌, refl, sym, ap, ◌∙◌}
use mathlib.Core.Bool.{Bool, true, false, not, ◌&&◌}
use mathlib.Core.List.{List}
use Prim.Native.Nat.{ℕ, ◌+◌, ◌/◌, ◌≤◌, ◌<◌, ◌^◌}
use native.Mathlib.Omega.{arith}
use lib.Dec.{ltb, eqb}
use lib.ListN.{length}
use borrow.Author.Tests.{not-true, not-false}
use Rattle.rules.specs.Test.{both}
use Rattle.bits.specs.Bits.{sum_to}
use Rattle.bits.proofs.Words.{sum_same}
use Rattle.window.specs.Limits.{time_end}
use Rattle.window.specs.Range.{in_range}
use Rattle.window.specs.Sound.{sound_window}
use Rattle.window.proofs.Tests.{range_facts, window_facts}
use Rattle.window.proofs.MaxWnd.{max_wnd_high}
use Rattle.ledger.specs.Bounds.{in_bounds, Flown}
use Rattle.ledger.specs.Memory.{Memory}
use Rattle.ledger.specs.Packets.{flying_one, marked_one, marked_size}
use Rattle.ledger.specs.Sound.{all_to}
use Rattle.ledger.specs.Stretch.{totals_ok}
use Rattle.ledger.specs.declared.sound.Tally.{Tally}
use Rattle.ledger.proofs.Facts.{flown_facts}
use Rattle.ledger.proofs.Signs.{flown_wide}
use Rattle.ledger.proofs.Tally.{sum_plus, tally_adds, tally_backlog, outstanding_test}
use Rattle.ledger.proofs.Walks.{all_at}
use Rattle.flow_table.specs.Words.{count_of, is_table, Table}
use Rattle.flow_table.proofs.Places.{table_facts}
use Rattle.sender.specs.Sound.{times_ok}
use Rattle.sender.specs.Named.{phase_of}
use Rattle.context.specs.Context.{Context, flow_count, cap_in, flow_in, memory_in}
use Rattle.context.specs.Sound.{is_cut, stands_at, adds_at, totals_over, named_ok, sound_context}
use Rattle.context.specs.declared.Controller.{Controller}
use Rattle.context.specs.Walk.{stands_on, tally_at, tally_to, Parted, Standing, flows_ok}
use Rattle.context.proofs.Sounds.{cut_facts}

-- ---- the table, the ring buffer and the totals

module _ (c : Controller) (ws : List ℕ) (m : Memory) (table : Bool) (table_is : table ≡ is_table ws) where
  pub not_table : not table ≡ true → false ≡ flows_ok c ws m
  unfolding flows_ok
  not_table e = rw (sym table_is ∙ not-true table e)

  module _ (h : not table ≡ false) where
    pub table_so : Table ws
    table_so = table_facts ws (sym table_is ∙ not-false table h)

    module _ (cap : ℕ) (cap_is : cap ≡ length m.sizes / count_of ws) (cut : Bool) (cut_is : cut ≡ is_cut (count_of ws) cap m) where
      pub not_cut : not cut ≡ true → false ≡ flows_ok c ws m
      unfolding flows_ok
      not_cut e = rw (sym table_is ∙ not-false table h, sym cap_is, sym cut_is ∙ not-true cut e)

      module _ (l : not cut ≡ false) where
        pub parted : Parted cap ws m
        parted =
            let p = cut_facts (count_of ws) cap m (sym cut_is ∙ not-false cut l) in
            record { few = table_so.few; cap_ok = p.0; cut = p.1 }

        module _ (all : Bool) (all-is : all ≡ all_to (stands_on c.settings.mtu c.clock cap ws m) (count_of ws)) where
          pub not_all : not all ≡ true → false ≡ flows_ok c ws m
          unfolding flows_ok
          not_all e =
              rw (sym table_is ∙ not-false table h, sym cap_is, sym cut_is ∙ not-false cut l, sym all-is ∙ not-true all e)

          module _ (s : not all ≡ false) where
            pub standing : Standing cap ws m
            standing =
                record {
                  parted = parted;
                  mtu = c.settings.mtu;
                  clock = c.clock;
                  stand = all_at (stands_on c.settings.mtu c.clock cap ws m) (count_of ws) (sym all-is ∙ not-false all s);
                }

            pub tested : (sum : Tally) (a b : Bool) → sum ≡ tally_to cap ws m (count_of ws) → a ≡ totals_ok c.totals sum
                → b ≡ in_bounds c.settings.maxwnd c.totals.in_flight → (a && b) ≡ flows_ok c ws m
            unfolding flows_ok
            tested sum a b sum_is_lem a-is b-is =
                rw (
                  a-is,
                  b-is,
                  sum_is_lem,
                  sym table_is ∙ not-false table h,
                  sym cap_is,
                  sym cut_is ∙ not-false cut l,
                  sym all-is ∙ not-false all s,
                )

-- what the last of them tells
flows_flown : (c : Controller) (ws : List ℕ) (m : Memory) → flows_ok c ws m ≡ true → Flown c.settings.maxwnd c.totals.in_flight
unfolding flows_ok
flows_flown c ws m e =
    let n = count_of ws in
    let cap = length m.sizes / n in
    let sums = totals_ok c.totals (tally_to cap ws m n) in
    let b = in_bounds c.settings.maxwnd c.totals.in_flight in
    let p = both (is_table ws && is_cut n cap m && all_to (stands_on c.settings.mtu c.clock cap ws m) n) (sums && b) e in
    flown_facts c.settings.maxwnd c.totals.in_flight (both sums b p.1).1

-- ---- of a context

-- what is tested behind a test may be another that it makes the same
and_under : (q a b : Bool) → (q ≡ true → a ≡ b) → (q && a) ≡ (q && b)
and_under true a b h = h refl
and_under false a b h = refl

-- flow k's tally
abbrev tally_in : Context → ℕ → Tally
tally_in x k = tally_at (cap_in x) x.flows x.slots k

module _ (x : Context) where
  -- it says what flow k's packets add
  adds_at_lem : Standing (cap_in x) x.flows x.slots → (k : ℕ) → k < flow_count x
      → (adds_at flying_one x k + (tally_in x k).marked ≡ (tally_in x k).outstanding) × (adds_at marked_one x k ≡ (tally_in x k).marked)
      × (adds_at marked_size x k ≡ (tally_in x k).marked_bytes)
  unfolding tally_at stands_on
  adds_at_lem S k h = tally_adds S.mtu S.clock (flow_in x k) (memory_in x k) (S.stand k h)

  -- THE TOTALS OF THE BITS ARE THOSE OF THE PACKETS, where every flow stands
  totals_over_lem : Standing (cap_in x) x.flows x.slots
      → (totals_ok x.state.totals (tally_to (cap_in x) x.flows x.slots (flow_count x))
      && in_bounds x.state.settings.maxwnd x.state.totals.in_flight) ≡ totals_over x
  unfolding totals_ok totals_over tally_to tally_at
  totals_over_lem S =
      let t = x.state.totals in
      let n = flow_count x in
      rw (
        sum_same (adds_at marked_one x) (λ k. (tally_in x k).marked) n (λ k h. (adds_at_lem S k h).1),
        sum_same (adds_at marked_size x) (λ k. (tally_in x k).marked_bytes) n (λ k h. (adds_at_lem S k h).2),
        sum_same (λ k. (flow_in x k).backlog) (λ k. (tally_in x k).backlog) n (λ k h. tally_backlog (flow_in x k) (memory_in x k)),
      )
      (ap (λ (b : Bool). ((b && eqb t.marked_bytes (sum_to (λ k. (tally_in x k).marked_bytes) n))
      && eqb t.backlog (sum_to (λ k. (tally_in x k).backlog) n))
      && in_bounds x.state.settings.maxwnd t.in_flight)
      (outstanding_test t.flying t.marked (sum_to (adds_at flying_one x) n) (sum_to (λ k. (tally_in x k).marked) n)
      (sum_to (λ k. (tally_in x k).outstanding) n) (sum_plus (adds_at flying_one x) _ _ n (λ k h. (adds_at_lem S k h).0))))

  pub flows_test : flows_ok x.state x.flows x.slots
      ≡ (is_table x.flows && is_cut (flow_count x) (cap_in x) x.slots && all_to (stands_at x) (flow_count x) && totals_over x)
  unfolding flows_ok stands_at stands_on
  flows_test =
      and_under _ _ _
      (λ q.
      let a = both _ (all_to (stands_at x) (flow_count x)) q in
      let b = both (is_table x.flows) (is_cut (flow_count x) (cap_in x) x.slots) a.0 in
      let c = cut_facts (flow_count x) (cap_in x) x.slots b.1 in
      totals_over_lem
      (record {
        parted = record { few = (table_facts x.flows b.0).few; cap_ok = c.0; cut = c.1 };
        mtu = x.state.settings.mtu;
        clock = x.state.clock;
        stand = all_at (stands_at x) (flow_count x) a.1;
      }))

-- what the name is computed from is in these bounds
pub record Nameable (x : Context) : Type 0 where
  pub flown : Flown (2 ^ 26) x.state.totals.in_flight
  pub mtu_high : x.state.settings.mtu ≤ 2 ^ 14
  pub cwnd_high : x.state.window.cwnd ≤ 2 ^ 26

module _ (x : Context) (range : Bool) (range-is : range ≡ in_range x.state.settings) where
  pub not_range : not range ≡ true → false ≡ sound_context x
  unfolding sound_context
  not_range e = rw (sym range-is ∙ not-true range e)

  module _ (r : not range ≡ false) (window-ok : Bool)
      (window-is : window-ok ≡ sound_window x.state.settings x.state.clock x.state.window) where
    pub not_window : not window-ok ≡ true → false ≡ sound_context x
    unfolding sound_context
    not_window e = rw (sym range-is ∙ not-false range r, sym window-is ∙ not-true window-ok e)

    module _
        (h : not window-ok ≡ false) (ok : Bool)
        (ok-is : ok ≡ flows_ok x.state x.flows x.slots)
      where
        pub not_flows : not ok ≡ true → false ≡ sound_context x
        unfolding sound_context
        not_flows e =
            rw (sym range-is ∙ not-false range r, sym window-is ∙ not-false window-ok h, sym (flows_test x) ∙ sym ok-is ∙ not-true ok e)

        module _ (l : not ok ≡ false) where
          pub nameable : Nameable x
          nameable =
              let R = range_facts x.state.settings (sym range-is ∙ not-false range r) in
              let W = window_facts x.state.settings x.state.clock x.state.window (sym window-is ∙ not-false window-ok h) in
              record {
                flown = flown_wide x.state.totals.in_flight (omega (arith, R.maxwnd_high))
                    (flows_flown x.state x.flows x.slots (sym ok-is ∙ not-false ok l));
                mtu_high = omega (arith, R.mtu_high);
                cwnd_high = omega (arith, W.cwnd_high, max_wnd_high R x.state.window.base W.base_high, R.maxwnd_high);
              }

          pub tests_left :
              (times : Bool) (n name : ℕ) → times ≡ times_ok x.times → n ≡ flow_count x →
              name ≡ phase_of x.state.settings.mtu x.state.window.cwnd x.state.totals →
              (ltb x.state.clock time_end && eqb (length x.times) x.state.settings.ev_count && times
              && ltb x.state.cursor x.state.settings.ev_count && ltb x.state.turn n && eqb x.state.phase name)
              ≡ sound_context x
          unfolding sound_context named_ok
          tests_left times n name t count is =
              rw (
                sym range-is ∙ not-false range r,
                sym window-is ∙ not-false window-ok h,
                sym (flows_test x) ∙ sym ok-is ∙ not-false ok l,
                t,
                count,
                is,
              )
