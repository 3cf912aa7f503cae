-- What a chunk over lent words hands back, from what its parts gave: 2 where what was lent is wrong (`part_wrong`), else what the chunk
-- gave (`part_back`). And the test of what was lent.
-- Assumes nothing.
use mathlib.Core.Path.{◌≡◌, refl, ap, ◌∙◌}
use mathlib.Core.Bool.{Bool, true, false, ◌&&◌}
use mathlib.Core.List.{List}
use Prim.Native.Nat.{ℕ}
use lib.Dec.{ltb, eqb}
use lib.ListN.{length}
use borrow.Author.Tests.{eqb-true, eq-eqb, ne_eqb}
use Rattle.rules.specs.Branch.{so_yes, so_no}
use Rattle.rules.specs.Test.{both}
use Rattle.ledger.specs.Memory.{Memory}
use Rattle.context.specs.Context.{context}
use Rattle.replay_chunks.specs.Chunks.{Chunking, chunk_of}
use Rattle.replay_chunks.specs.declared.Carry.{Carry}
use Rattle.c_state.specs.Layout.{word_count, word, unpacked}
use Rattle.c_state.specs.declared.Unpacked.{Unpacked}
use Rattle.c_api.specs.Batch.{words_then}
use Rattle.c_api.specs.Parts.{part_count, carry_from, part_ok, part_then, chunk_called, handed_part, on_chunk_words}

module _ (part ws : List ℕ) where
  pub not_six : (length part ≡ part_count → ⊥) → false ≡ part_ok part ws
  unfolding part_ok
  not_six h = rw (ne_eqb (length part) part_count h)

  pub six : length part ≡ part_count → (eqb (length ws) word_count && ltb (word part 2) 2) ≡ part_ok part ws
  unfolding part_ok
  six h = rw (eq-eqb (length part) part_count h)

  pub part_long : part_ok part ws ≡ true → (length part ≡ part_count) × (length ws ≡ word_count)
  unfolding part_ok
  part_long e =
      let p = both (eqb (length part) part_count) (eqb (length ws) word_count) (both _ _ e).0 in
      (eqb-true (length part) part_count p.0, eqb-true (length ws) word_count p.1)

module _ (chunk : List ℕ) (ended : Bool) (part piece ws fs : List ℕ) (r : Memory) (t answers : List ℕ) where
  pub part_wrong : part_ok part ws ≡ false
      → chunk_called 2 part piece ws fs r t answers ≡ on_chunk_words chunk ended part piece ws fs r t answers
  unfolding on_chunk_words
  part_wrong e = so_no (part_ok part ws) _ _ _ e refl

  module _
      (ok : part_ok part ws ≡ true) (h : Carry) (h-is : h ≡ carry_from part) (given : Unpacked) (given_is : given ≡ unpacked ws)
      (b : Chunking) (b-is : b ≡ chunk_of h (context given.state fs r t) piece chunk ended answers)
    where
      as_defined : b ≡ chunk_of (carry_from part) (context (unpacked ws).state fs r t) piece chunk ended answers
      as_defined =
          b-is
          ∙ ap (λ (x : Carry). chunk_of x (context given.state fs r t) piece chunk ended answers) h-is
          ∙ ap (λ (u : Unpacked). chunk_of (carry_from part) (context u.state fs r t) piece chunk ended answers) given_is

      pub part_back :
          (n : ℕ) (p xs : List ℕ) → n ≡ b.number → p ≡ part_then b.number b.carry b.count b.taken part →
          xs ≡ words_then b.number b.carry.place b.count b.after.state ws →
          chunk_called n p b.piece xs b.after.flows b.after.slots b.after.times b.room
          ≡ on_chunk_words chunk ended part piece ws fs r t answers
      unfolding on_chunk_words handed_part
      part_back n p xs n-is p-is xs-are = so_yes (part_ok part ws) _ _ _ ok (rw (n-is, p-is, xs-are) (ap (handed_part part ws) as_defined))
