-- Number 2's walk over the flows of a table: where flow k's part lies, what it takes to stand on it, and what the flows add up to.
-- Assumes nothing.
use mathlib.Core.Path.{◌≡◌, refl, sym, ◌∙◌}
use mathlib.Core.Bool.{true, false, false≢true}
use mathlib.Core.List.{List}
use Prim.Native.Nat.{ℕ, ◌+◌, ◌-◌, ◌*◌, ◌≤◌, ◌<◌}
use native.Mathlib.Nat.{mul-le-mul}
use native.Mathlib.Omega.{arith}
use lib.ListN.{length, take, drop}
use Rattle.bits.specs.Bits.{sum_to}
use Rattle.bits.proofs.Words.{same_truth, sum_more}
use Rattle.ledger.specs.Memory.{Memory, memory}
use Rattle.ledger.specs.Sound.{Lengths}
use Rattle.ledger.specs.declared.sound.Tally.{Tally}
use Rattle.ledger.proofs.Geometry.{cap_facts}
use Rattle.ledger.proofs.Facts.{Facts, stands_facts}
use Rattle.flow_table.specs.Words.{count_of, flow_at, fits_at, Fits}
use Rattle.flow_table.specs.Parts.{words_in, part_of}
use Rattle.flow_table.proofs.Places.{facts_fits}
use Rattle.flow_table.proofs.Cuts.{part_in, ring_lengths, one_ring, lent_ring}
use Rattle.context.specs.Walk.{ring_at, stands_on, tally_at, tally_to, Parted}

-- ---- where flow k's part lies

-- its bits are the words from..end-1, its slots at..to-1
pub record Laid (cap k : ℕ) (m : Memory) (from end at to : ℕ) : Type 0 where
  pub from_is : from ≡ k * words_in cap
  pub end_is : end ≡ from + words_in cap
  pub at_is : at ≡ k * cap
  pub to_is : to ≡ at + cap
  pub outstanding : end ≤ length m.outstanding
  pub marked : end ≤ length m.marked
  pub sizes : to ≤ length m.sizes
  pub sent : to ≤ length m.sent
  pub few_words : end ≤ 32768
  pub few_slots : to ≤ 32768

module _ (cap : ℕ) (ws : List ℕ) (m : Memory) (P : Parted cap ws m) where
  -- eight rings of 4,096 slots
  pub all_few : length m.sizes ≤ 32768
  all_few =
      let l : count_of ws * cap ≤ 8 * 4096 = mul-le-mul {m₂ = 4096} P.few (cap_facts cap P.cap_ok).most in
      omega (arith, P.cut.sizes)

  module _ (k : ℕ) (h : k < count_of ws) where
    pub laid : (from end at to : ℕ) → (from ≡ k * words_in cap) × (end ≡ k * words_in cap + words_in cap)
        × (at ≡ k * cap) × (to ≡ k * cap + cap) → Laid cap k m from end at to
    laid from end at to p =
        let w = part_in k (count_of ws) (words_in cap) h in
        let c = part_in k (count_of ws) cap h in
        let words : count_of ws * words_in cap ≤ 8 * 64 =
        mul-le-mul {m₂ = 64} P.few (omega (arith, (cap_facts cap P.cap_ok).most)) in
        record {
          from_is = p.0;
          end_is = omega (arith, p.0, p.1);
          at_is = p.2;
          to_is = omega (arith, p.2, p.3);
          outstanding = omega (arith, p.1, w, P.cut.outstanding);
          marked = omega (arith, p.1, w, P.cut.marked);
          sizes = omega (arith, p.3, c, P.cut.sizes);
          sent = omega (arith, p.3, c, P.cut.sent);
          few_words = omega (arith, p.1, w, words);
          few_slots = omega (arith, p.3, c, all_few, P.cut.sizes);
        }

    -- the part is a ring
    pub part_ring : Lengths (part_of cap k m)
    part_ring = one_ring cap (part_of cap k m) P.cap_ok (ring_lengths (count_of ws) cap k m P.cut h)

-- what is lent of the four slices is the part
pub laid_part : {cap k from end at to : ℕ} {m : Memory} → Laid cap k m from end at to
    → memory (take (end - from) (drop from m.outstanding)) (take (end - from) (drop from m.marked))
    (take (to - at) (drop at m.sizes)) (take (to - at) (drop at m.sent)) ≡ part_of cap k m
laid_part {cap} {k} {from} {end} {at} {to} {m} L = lent_ring cap k from end at to m L.from_is L.end_is L.at_is L.to_is

-- ---- flow k

module _ (mtu clock cap : ℕ) (ws : List ℕ) (m : Memory) (k : ℕ) where
  pub stand_facts : stands_on mtu clock cap ws m k ≡ true → Facts mtu clock (flow_at ws k) (ring_at cap ws m k)
  unfolding stands_on
  stand_facts e = stands_facts mtu clock (flow_at ws k) (ring_at cap ws m k) e

  pub stand_fits : stands_on mtu clock cap ws m k ≡ true → Fits ws k
  stand_fits e = let F = stand_facts e in record { low = F.low_psn; next = F.next_psn }

  -- a low or a next that is no PSN
  pub not_fitting : fits_at ws k ≡ false → false ≡ stands_on mtu clock cap ws m k
  not_fitting e =
      same_truth false (stands_on mtu clock cap ws m k) (λ f. absurd (false≢true f)) (λ t. sym e ∙ facts_fits ws k (stand_fits t))

-- ---- what the flows add up to

-- each adds so much at most
pub record FewIn (t : Tally) (b : ℕ) : Type 0 where
  pub outstanding : t.outstanding ≤ b
  pub marked : t.marked ≤ b
  pub bytes : t.marked_bytes ≤ b
  pub backlog : t.backlog ≤ b

pub tally_none : (cap : ℕ) (ws : List ℕ) (m : Memory)
    → record { outstanding = 0; marked = 0; marked_bytes = 0; backlog = 0 } ≡ tally_to cap ws m 0
unfolding tally_to sum_to
tally_none cap ws m = refl

-- one flow more
pub tally_more : (cap : ℕ) (ws : List ℕ) (m : Memory) (k : ℕ) (all one : Tally) {next : Tally}
    → all ≡ tally_to cap ws m k → one ≡ tally_at cap ws m k
    → (next.outstanding ≡ all.outstanding + one.outstanding) × (next.marked ≡ all.marked + one.marked)
    × (next.marked_bytes ≡ all.marked_bytes + one.marked_bytes) × (next.backlog ≡ all.backlog + one.backlog)
    → next ≡ tally_to cap ws m (k + 1)
unfolding tally_to
tally_more cap ws m k all one e f p =
    rw (
      sum_more (λ i. (tally_at cap ws m i).outstanding) k,
      sum_more (λ i. (tally_at cap ws m i).marked) k,
      sum_more (λ i. (tally_at cap ws m i).marked_bytes) k,
      sum_more (λ i. (tally_at cap ws m i).backlog) k,
    )
    (rw (e, f) at (tally_is p))
  where
    tally_is : {t : Tally} {a b c d : ℕ} → (t.outstanding ≡ a) × (t.marked ≡ b) × (t.marked_bytes ≡ c) × (t.backlog ≡ d)
        → t ≡ record { outstanding = a; marked = b; marked_bytes = c; backlog = d }
    tally_is q = rw (sym q.0, sym q.1, sym q.2, sym q.3)
