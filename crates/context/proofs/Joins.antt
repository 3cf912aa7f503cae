-- One flow of a sound context: where its part lies, what is lent of it, and that it is put back in its place.
-- Assumes nothing.
use mathlib.Core.Path.{◌≡◌, sym, ap, ap₂, ◌∙◌, subst}
use mathlib.Core.Bool.{true}
use mathlib.Core.List.{List, ◌++◌}
use Prim.Native.Nat.{ℕ, ◌+◌, ◌-◌, ◌*◌, ◌/◌, ◌≤◌, ◌<◌}
use native.Mathlib.Omega.{arith}
use lib.ListN.{length, take, drop, take-append-drop}
use Rattle.ledger.specs.Memory.{Memory, memory}
use Rattle.ledger.specs.Sound.{is_capacity}
use Rattle.ledger.specs.declared.Flow.{Flow}
use Rattle.flow_table.specs.Words.{flows_most, Fits}
use Rattle.flow_table.specs.Parts.{words_in, put_part}
use Rattle.flow_table.proofs.Places.{with_same}
use Rattle.flow_table.proofs.Cuts.{put_part_lem, lent_ring, lent_put}
use Rattle.sender.specs.World.{World, world}
use Rattle.sender.specs.Sound.{Holds}
use Rattle.sender.specs.declared.Controller.{Controller as Sender}
use Rattle.context.specs.Context.{Context, context, flow_count, cap_in, flow_in, joined_of, shared_of, world_at, put_world}
use Rattle.context.specs.Sound.{sound_context}
use Rattle.context.specs.Walk.{Parted}
use Rattle.context.proofs.Walks.{laid}
use Rattle.context.proofs.Sounds.{SoundContext, context_facts, flow_facts, one_holds}

-- the bits of flow k's part are the words from..end-1, its slots at..to-1
pub record Lies (x : Context) (k from end at to : ℕ) : Type 0 where
  pub from_is : from ≡ k * words_in (cap_in x)
  pub end_is : end ≡ from + words_in (cap_in x)
  pub at_is : at ≡ k * cap_in x
  pub to_is : to ≡ at + cap_in x
  pub outstanding : end ≤ length x.slots.outstanding
  pub marked : end ≤ length x.slots.marked
  pub sizes : to ≤ length x.slots.sizes
  pub sent : to ≤ length x.slots.sent
  pub few_words : end ≤ 32768
  pub few_slots : to ≤ 32768

module _ (x : Context) (S : SoundContext x) where
  pub sound_parted : Parted (cap_in x) x.flows x.slots
  sound_parted = record { few = S.table.few; cap_ok = S.cap; cut = S.cut }

  module _ (k : ℕ) (h : k < flow_count x) where
    pub flow_fits : Fits x.flows k
    flow_fits = let F = flow_facts x S k h in record { low = F.low_psn; next = F.next_psn }

    pub lies : (from end at to : ℕ) → (from ≡ k * words_in (cap_in x)) × (end ≡ k * words_in (cap_in x) + words_in (cap_in x))
        × (at ≡ k * cap_in x) × (to ≡ k * cap_in x + cap_in x) → Lies x k from end at to
    lies from end at to p =
        let L = laid (cap_in x) x.flows x.slots sound_parted k h from end at to p in
        record {
          from_is = L.from_is;
          end_is = L.end_is;
          at_is = L.at_is;
          to_is = L.to_is;
          outstanding = L.outstanding;
          marked = L.marked;
          sizes = L.sizes;
          sent = L.sent;
          few_words = L.few_words;
          few_slots = L.few_slots;
        }

    -- a flow put back as it was
    pub put_same : put_world k x (world_at k x) ≡ x
    unfolding put_world world_at joined_of shared_of
    put_same =
        ap₂ (λ (f : List ℕ) (m : Memory). context x.state f m x.times) (with_same x.flows k)
        (put_part_lem (flow_count x) (cap_in x) k x.slots S.cut h)

-- one flow of a sound context, and where its part lies: what the proof of an event has once the part is cut
pub record Here (x : Context) (k from end at to : ℕ) : Type 0 where
  pub sound : SoundContext x
  pub inside : k < flow_count x
  pub lies : Lies x k from end at to

-- of a flow below the count that the code took: what its cut requires, and what is had once it is made
module _ (x : Context) {k n : ℕ} (pre : sound_context x ≡ true) (count : n ≡ flow_count x) (h : k < n) where
  pub cut_asks : (k < n) × (n ≤ flows_most) × (is_capacity (length x.slots.sizes / n) ≡ true)
      × (length x.slots.sizes ≡ n * (length x.slots.sizes / n))
  cut_asks = let S = context_facts x pre in (h, omega (arith, S.table.few), rw count S.cap, rw count S.cut.sizes)

  pub cut_here : {from end at to : ℕ} → (from ≡ k * words_in (length x.slots.sizes / n))
      × (end ≡ k * words_in (length x.slots.sizes / n) + words_in (length x.slots.sizes / n))
      × (at ≡ k * (length x.slots.sizes / n)) × (to ≡ k * (length x.slots.sizes / n) + length x.slots.sizes / n)
      → Here x k from end at to
  cut_here p =
      let S = context_facts x pre in
      let l : k < flow_count x = omega arith in
      record { sound = S; inside = l; lies = lies x S k l _ _ _ _ (rw count at p) }

module _ {x : Context} {k from end at to : ℕ} (H : Here x k from end at to) where
  -- its low and next are PSNs
  pub here_fits : Fits x.flows k
  here_fits = flow_fits x H.sound k H.inside

  -- a flow put back as it was
  pub here_same : put_world k x (world_at k x) ≡ x
  here_same = put_same x H.sound k H.inside

  -- what flow k's step requires of what is lent to it
  pub here_holds : {w : World} → w ≡ world_at k x → Holds w
  here_holds e = subst Holds (sym e) (one_holds x H.sound k H.inside)

-- what is lent of the context is what flow k's step sees
module _ {x : Context} {k from end at to : ℕ} (L : Lies x k from end at to) where
  pub lent_world : {s : Sender} {f : Flow} → f ≡ flow_in x k → s ≡ joined_of x.state f
      → world s
      (memory (take (end - from) (drop from x.slots.outstanding)) (take (end - from) (drop from x.slots.marked))
      (take (to - at) (drop at x.slots.sizes)) (take (to - at) (drop at x.slots.sent)))
      x.times
      ≡ world_at k x
  unfolding world_at
  lent_world ef es =
      rw (es, ef)
      (ap (λ (m : Memory). world (joined_of x.state (flow_in x k)) m x.times)
      (lent_ring (cap_in x) k from end at to x.slots L.from_is L.end_is L.at_is L.to_is))

  -- and what comes back stands in its place
  pub put_slots : (o m z t : List ℕ)
      → memory (take from x.slots.outstanding ++ (o ++ drop (end - from) (drop from x.slots.outstanding)))
      (take from x.slots.marked ++ (m ++ drop (end - from) (drop from x.slots.marked)))
      (take at x.slots.sizes ++ (z ++ drop (to - at) (drop at x.slots.sizes)))
      (take at x.slots.sent ++ (t ++ drop (to - at) (drop at x.slots.sent)))
      ≡ put_part (cap_in x) k x.slots (memory o m z t)
  put_slots o m z t =
      lent_put (cap_in x) k from end at to x.slots L.from_is L.end_is L.at_is L.to_is (memory o m z t)

-- a part that was only read: the slice is as it was
pub lent_same : (from n : ℕ) (xs : List ℕ) → take from xs ++ (take n (drop from xs) ++ drop n (drop from xs)) ≡ xs
lent_same from n xs = ap (λ (t : List ℕ). take from xs ++ t) (take-append-drop n (drop from xs)) ∙ take-append-drop from xs

-- flow k's part as it was lent, with p for its marked bits
abbrev lent_but : ℕ → ℕ → ℕ → ℕ → Memory → List ℕ → Memory
lent_but from end at to m p =
    memory (take (end - from) (drop from m.outstanding)) p (take (to - at) (drop at m.sizes)) (take (to - at) (drop at m.sent))

module _ {x : Context} {k from end at to : ℕ} (L : Lies x k from end at to) where
  -- only the marked bits were lent to be changed
  pub put_marked : (m : List ℕ)
      → memory x.slots.outstanding (take from x.slots.marked ++ (m ++ drop (end - from) (drop from x.slots.marked)))
      x.slots.sizes x.slots.sent
      ≡ put_part (cap_in x) k x.slots (lent_but from end at to x.slots m)
  put_marked m =
      rw (
        lent_same from (end - from) x.slots.outstanding,
        lent_same at (to - at) x.slots.sizes,
        lent_same at (to - at) x.slots.sent,
      ) at (put_slots L (take (end - from) (drop from x.slots.outstanding)) m (take (to - at) (drop at x.slots.sizes))
      (take (to - at) (drop at x.slots.sent)))

  -- no slice was
  pub put_none : x.slots
      ≡ put_part (cap_in x) k x.slots (lent_but from end at to x.slots (take (end - from) (drop from x.slots.marked)))
  put_none =
      let m = take (end - from) (drop from x.slots.marked) in
      rw (lent_same from (end - from) x.slots.marked) at (put_marked m)
