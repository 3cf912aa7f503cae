-- THE WORDS BETWEEN CALLS of a replay: what is stored of the state after some turns is read back as the state after them (`back`), what two
-- calls store one after the other is what one call would store (`twice`), and a place comes back from its words. Assumes nothing.
use mathlib.Core.Path.{◌≡◌, refl, sym, ap, ◌∙◌}
use mathlib.Core.Bool.{Bool, true, false, not, ◌&&◌}
use mathlib.Core.List.{List, [], ◌∷◌}
use mathlib.Core.Logic.{by_cases}
use Prim.Native.Nat.{ℕ, ◌+◌}
use native.Mathlib.Decide.{ℕ_discrete}
use native.Mathlib.Omega.{arith}
use lib.Dec.{eqb, ltb}
use lib.ListN.{length, take}
use borrow.Author.Tests.{eq-eqb, ne_eqb}
use Rattle.rules.specs.Branch.{if_so, if_eq, so_no, so_both}
use Rattle.context.specs.Context.{Context}
use Rattle.context.specs.declared.Controller.{Controller}
use Rattle.replay.specs.Places.{Feed, Turning, turns_of, last_place, last_context}
use Rattle.replay.specs.declared.Place.{Place}
use Rattle.replay_chunks.specs.declared.Carry.{Carry}
use Rattle.c_state.specs.Layout.{word_count, state_words, unpacked}
use Rattle.c_api.specs.Flags.{bit}
use Rattle.c_state.specs.Statements.{Machine}
use Rattle.c_state.proofs.Inverse.{long, unpack_pack}
use Rattle.c_api.specs.Batch.{place_words, place_from, lent_ok, words_then}
use Rattle.c_api.specs.Parts.{part_words, carry_from, part_ok}
use Rattle.c_api.proofs.Answers.{unpacked_state}
use Rattle.c_api.proofs.Machines.{Going, turns_going, done_forward, none_changed}

and_no : (b : Bool) → (b && false) ≡ false
and_no true = refl
and_no false = refl

module _ (p : Place) (count : ℕ) (c : Controller) (ws : List ℕ) where
  stored : (count ≡ 0 → ⊥) → (p.done ≡ 0 → ⊥) → words_then 0 p count c ws ≡ state_words c
  unfolding words_then if_eq if_so
  stored some done = rw (ne_eqb count 0 some, ne_eqb p.done 0 done)

  pub none_stored : count ≡ 0 → words_then 0 p count c ws ≡ ws
  unfolding words_then if_eq if_so
  none_stored e = rw (eq-eqb count 0 e)

  not_stored : p.done ≡ 0 → words_then 0 p count c ws ≡ ws
  unfolding words_then if_eq
  not_stored e =
      sym
      (so_no (not (eqb count 0) && not (eqb p.done 0)) ws (state_words c) ws
      (ap (λ (b : Bool). not (eqb count 0) && not b) (eq-eqb p.done 0 e) ∙ and_no (not (eqb count 0))) refl)

  pub then_long : length ws ≡ word_count → length (words_then 0 p count c ws) ≡ word_count
  unfolding words_then if_eq
  then_long h = so_both (λ (l : List ℕ). length l ≡ word_count) (not (eqb count 0) && not (eqb p.done 0)) (state_words c) ws
      (λ _. long c) (λ _. h)

-- a state that the machine can hold is read back
read_back : (c : Controller) → Machine c → (unpacked (state_words c)).state ≡ c
read_back c m = unpacked_state (state_words c) (unpack_pack c m).0 ∙ (unpack_pack c m).1

no_turns : (ts : List Turning) → length ts ≡ 0 → ts ≡ []
no_turns [] e = refl
no_turns (t ∷ ts) e = absurd (let no : ⊥ = omega (arith, e) in no)

module _ (f : Feed) (n : ℕ) (p : Place) (w : Context) where
  abbrev ts : List Turning
  ts = take n (turns_of f p w)

  abbrev there : Place
  there = last_place p ts

  abbrev then : Context
  then = last_context w ts

  pub back : Going p w → (ws : List ℕ) → (unpacked ws).state ≡ w.state
      → (unpacked (words_then 0 there (length ts) then.state ws)).state ≡ then.state
  unfolding last_context
  back going ws e =
      by_cases (ℕ_discrete (length ts) 0)
      (λ z.
      rw (none_stored there (length ts) then.state ws z)
      (e ∙ sym (ap (λ (l : List Turning). (last_context w l).state) (no_turns ts z))))
      (λ some.
      by_cases (ℕ_discrete there.done 0)
      (λ z. rw (not_stored there (length ts) then.state ws z) (e ∙ sym (ap (λ (v : Context). v.state) (none_changed f n p w z))))
      (λ done. rw (stored there (length ts) then.state ws some done) (read_back then.state ((turns_going f n p w going).1 done))))

  pub twice : (count : ℕ) (ws : List ℕ)
      → words_then 0 there (length ts) then.state (words_then 0 p count w.state ws)
      ≡ words_then 0 there (count + length ts) then.state ws
  unfolding last_place last_context
  twice count ws =
      let once = words_then 0 p count w.state ws in
      by_cases (ℕ_discrete (length ts) 0)
      (λ z.
      let none = no_turns ts z in
      let same : count + length ts ≡ count = omega arith in
      none_stored there (length ts) then.state once z
      ∙ sym
      (ap (λ (k : ℕ). words_then 0 there k then.state ws) same
      ∙ ap (λ (l : List Turning). words_then 0 (last_place p l) count (last_context w l).state ws) none))
      (λ some.
      by_cases (ℕ_discrete there.done 0)
      (λ z.
      let before : p.done ≡ 0 = omega (arith, z, done_forward f n p w) in
      not_stored there (length ts) then.state once z
      ∙ (not_stored p count w.state ws before ∙ sym (not_stored there (count + length ts) then.state ws z)))
      (λ done.
      stored there (length ts) then.state once some done
      ∙ sym (stored there (count + length ts) then.state ws (λ z. some (omega arith)) done)))

-- ---- what is carried, and a place, as words and back

flag_bit : (b : Bool) → eqb (bit b) 1 ≡ b
unfolding bit
flag_bit true = refl
flag_bit false = refl

bit_small : (b : Bool) → ltb (bit b) 2 ≡ true
unfolding bit
bit_small true = refl
bit_small false = refl

pub place_back : (p : Place) (count : ℕ) → place_from (place_words p count) ≡ p
place_back p count = ap (λ (b : Bool). record { at = p.at; done = p.done; stopped = b }) (flag_bit p.stopped)

pub carry_back : (h : Carry) (count taken : ℕ) → carry_from (part_words h count taken) ≡ h
carry_back h count taken =
    ap (λ (b : Bool). record { length = h.length; place = record { at = h.place.at; done = h.place.done; stopped = b } })
    (flag_bit h.place.stopped)

-- the words of a place, which both have first
abbrev pub three_words : Place → List ℕ
three_words p = p.at ∷ p.done ∷ bit p.stopped ∷ []

pub three_back : (p : Place) → three_words p ≡ p.at ∷ p.done ∷ bit (eqb (bit p.stopped) 1) ∷ []
three_back p = ap (λ (b : Bool). p.at ∷ p.done ∷ bit b ∷ []) (sym (flag_bit p.stopped))

pub part_ok_lem : (h : Carry) (count taken : ℕ) (ws : List ℕ) → length ws ≡ word_count → part_ok (part_words h count taken) ws ≡ true
unfolding part_ok
part_ok_lem h count taken ws e = rw (eq-eqb (length ws) word_count e, bit_small h.place.stopped)

pub place_ok : (p : Place) (count : ℕ) (ws : List ℕ) → length ws ≡ word_count → lent_ok (place_words p count) ws ≡ true
unfolding lent_ok
place_ok p count ws e = rw (eq-eqb (length ws) word_count e, bit_small p.stopped)
