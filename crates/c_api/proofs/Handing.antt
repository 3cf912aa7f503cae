-- What a replay over lent words hands back, from what its parts gave: 2 where what was lent is wrong (`lent_wrong`), else what the batch
-- gave (`handed_back`). And the test of what was lent.
-- Assumes nothing.
use mathlib.Core.Path.{◌≡◌, refl, ap, ◌∙◌}
use mathlib.Core.Bool.{true, false, ◌&&◌}
use mathlib.Core.List.{List}
use Prim.Native.Nat.{ℕ}
use lib.Dec.{ltb, eqb}
use lib.ListN.{length}
use borrow.Author.Tests.{eqb-true, eq-eqb, ne_eqb}
use Rattle.rules.specs.Branch.{so_yes, so_no}
use Rattle.rules.specs.Test.{both}
use Rattle.ledger.specs.Memory.{Memory}
use Rattle.context.specs.Context.{context}
use Rattle.replay.specs.Places.{logged}
use Rattle.replay.specs.Batches.{Batching, batch_of}
use Rattle.replay.specs.declared.Place.{Place}
use Rattle.c_state.specs.Layout.{word_count, word, unpacked}
use Rattle.c_state.specs.declared.Unpacked.{Unpacked}
use Rattle.c_api.specs.Batch.{place_count, place_from, lent_ok, place_then, words_then, replay_called, handed, on_replay_words}

module _ (place ws : List ℕ) where
  pub not_four : (length place ≡ place_count → ⊥) → false ≡ lent_ok place ws
  unfolding lent_ok
  not_four h = rw (ne_eqb (length place) place_count h)

  pub four : length place ≡ place_count → (eqb (length ws) word_count && ltb (word place 2) 2) ≡ lent_ok place ws
  unfolding lent_ok
  four h = rw (eq-eqb (length place) place_count h)

  pub lent_long : lent_ok place ws ≡ true → (length place ≡ place_count) × (length ws ≡ word_count)
  unfolding lent_ok
  lent_long e =
      let p = both (eqb (length place) place_count) (eqb (length ws) word_count) (both _ _ e).0 in
      (eqb-true (length place) place_count p.0, eqb-true (length ws) word_count p.1)

module _ (log place ws fs : List ℕ) (r : Memory) (t answers : List ℕ) where
  pub lent_wrong : lent_ok place ws ≡ false → replay_called 2 place ws fs r t answers ≡ on_replay_words log place ws fs r t answers
  unfolding on_replay_words
  lent_wrong e = so_no (lent_ok place ws) _ _ _ e refl

  module _
      (ok : lent_ok place ws ≡ true) (from : Place) (from_is : from ≡ place_from place) (given : Unpacked) (given_is : given ≡ unpacked ws)
      (b : Batching) (b-is : b ≡ batch_of (logged log) from (context given.state fs r t) answers)
    where
      as_defined : b ≡ batch_of (logged log) (place_from place) (context (unpacked ws).state fs r t) answers
      as_defined =
          b-is
          ∙ ap (λ (p : Place). batch_of (logged log) p (context given.state fs r t) answers) from_is
          ∙ ap (λ (u : Unpacked). batch_of (logged log) (place_from place) (context u.state fs r t) answers) given_is

      pub handed_back :
          (n : ℕ) (p xs : List ℕ) → n ≡ b.number → p ≡ place_then b.number b.place b.count place →
          xs ≡ words_then b.number b.place b.count b.after.state ws →
          replay_called n p xs b.after.flows b.after.slots b.after.times b.room ≡ on_replay_words log place ws fs r t answers
      unfolding on_replay_words handed
      handed_back n p xs n-is p-is xs-are = so_yes (lent_ok place ws) _ _ _ ok (rw (n-is, p-is, xs-are) (ap (handed place ws) as_defined))
