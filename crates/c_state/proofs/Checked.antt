-- The test of words holds exactly where its facts do, and is made in the order of the code.
-- Assumes nothing.
use mathlib.Core.Path.{◌≡◌, sym, ◌∙◌}
use mathlib.Core.Bool.{Bool, true, false, not, ◌&&◌}
use mathlib.Core.List.{List}
use Prim.Native.Nat.{ℕ, ◌+◌, ◌<◌}
use native.Mathlib.Omega.{arith}
use lib.Dec.{ltb, eqb}
use lib.ListN.{length}
use borrow.Author.Tests.{ltb-true, eqb-true, lt-ltb, eq-eqb, ne_eqb, not-true, not-false}
use Rattle.rules.specs.Branch.{so_yes, so_no}
use Rattle.rules.specs.Test.{both, whole}
use Rattle.window.specs.declared.Settings.{Settings}
use Rattle.sender.specs.Start.{no_settings}
use Rattle.context.specs.Start.{fresh_state}
use Rattle.context.specs.declared.Controller.{Controller}
use Rattle.c_state.specs.Places as place
use Rattle.c_state.specs.Layout.{word_count, field_end, in_flight_added, in_flight_most, word}
use Rattle.c_state.specs.Layout.{state_from, words_ok, unpacked}
use Rattle.c_state.specs.Statements.{WordsFacts}

-- the last bound of a row of them, and the bounds before it
below : (rest : Bool) (n end : ℕ) → (rest && ltb n end) ≡ true → (rest ≡ true) × (n < end)
below rest n end e =
    let p = both rest (ltb n end) e in
    (p.0, ltb-true n end p.1)

module _ (ws : List ℕ) where
  pub words_facts : words_ok ws ≡ true → WordsFacts ws
  unfolding words_ok
  words_facts e =
      let phase = below _ (word ws place.phase) field_end e in
      let cursor = below _ (word ws place.cursor) field_end phase.0 in
      let trigger = below _ (word ws place.trigger) field_end cursor.0 in
      let fast = below _ (word ws place.fast) field_end trigger.0 in
      let in_flight = below _ (word ws place.in_flight) (in_flight_most + in_flight_added + 1) fast.0 in
      let marked = below _ (word ws place.marked) field_end in_flight.0 in
      let flying = below _ (word ws place.flying) field_end marked.0 in
      let off = below _ (word ws place.quick_adapt_off) field_end flying.0 in
      let psn = below (eqb (length ws) word_count) (word ws place.first_psn) field_end off.0 in
      let long = eqb-true (length ws) word_count psn.0 in
      omega arith

  pub facts_words : WordsFacts ws → words_ok ws ≡ true
  unfolding words_ok
  facts_words W =
      let in_flight : word ws place.in_flight < in_flight_most + in_flight_added + 1 = omega arith in
      search (whole, eq-eqb, lt-ltb) depth 20

  pub not_long : (length ws ≡ word_count → ⊥) → false ≡ words_ok ws
  unfolding words_ok
  not_long h = rw (ne_eqb (length ws) word_count h)

  -- of the right length, the rest of the test is left
  pub rest_left : length ws ≡ word_count →
      (ltb (word ws place.first_psn) field_end && ltb (word ws place.quick_adapt_off) field_end
      && ltb (word ws place.flying) field_end && ltb (word ws place.marked) field_end
      && ltb (word ws place.in_flight) (in_flight_most + in_flight_added + 1)
      && ltb (word ws place.fast) field_end && ltb (word ws place.trigger) field_end
      && ltb (word ws place.cursor) field_end && ltb (word ws place.phase) field_end) ≡ words_ok ws
  unfolding words_ok
  rest_left h = rw (eq-eqb (length ws) word_count h)

  module _ (ok : Bool) (ok-is : ok ≡ words_ok ws) where
    pub passed_facts : not ok ≡ false → WordsFacts ws
    passed_facts e = words_facts (sym ok-is ∙ not-false ok e)

    -- the answer, by the test as the code makes it
    pub not_passed :
        (empty : Settings) (c : Controller) → empty ≡ no_settings → c ≡ fresh_state empty → not ok ≡ true →
        record { good = false; state = c } ≡ unpacked ws
    unfolding unpacked
    not_passed empty c empty-is c-is e = so_no (words_ok ws) _ _ _ (sym ok-is ∙ not-true ok e) (rw (c-is, empty-is))

    pub passed : (c : Controller) → c ≡ state_from ws → not ok ≡ false → record { good = true; state = c } ≡ unpacked ws
    unfolding unpacked
    passed c c-is e = so_yes (words_ok ws) _ _ _ (sym ok-is ∙ not-false ok e) (rw c-is)
