-- What a call over lent words answers, from what its parts answered: an event on the state that the words are (`no_state`, `event_on`),
-- setting up (`few_settings`, `out_of_range`, `wrong_words`, `set_up_on`), and the words once an answer is kept. Assumes nothing.
use mathlib.Core.Path.{◌≡◌, refl, sym, ap, ◌∙◌}
use mathlib.Core.Bool.{Bool, true, false, not}
use mathlib.Core.List.{List}
use Prim.Native.Nat.{ℕ, ◌^◌, ◌%◌}
use lib.Dec.{eqb}
use lib.ListN.{length}
use borrow.Author.Tests.{eq-eqb, ne_eqb, not-true, not-false}
use Rattle.rules.specs.Branch.{if_so, so_yes, so_no, eq_yes, eq_no, so_both}
use Rattle.rules.specs.Verdict.{Verdict, number_of}
use Rattle.window.specs.Range.{in_range}
use Rattle.window.specs.declared.Settings.{Settings}
use Rattle.ledger.specs.Memory.{Memory}
use Rattle.context.specs.Context.{context, Answered, answered}
use Rattle.context.specs.Start.{on_set_up}
use Rattle.context.specs.declared.Controller.{Controller}
use Rattle.replay.specs.Batches.{saying, once_of}
use Rattle.replay.specs.declared.records.Event.{Event}
use Rattle.c_state.specs.Layout.{word_count, settings_count, state_words, settings_from, state_from, words_ok, unpacked}
use Rattle.c_state.specs.declared.Unpacked.{Unpacked}
use Rattle.c_state.proofs.Checked.{words_facts}
use Rattle.c_api.specs.Calls.{Called, called, words_after, packed, packed_word, on_event_words, on_set_up_words}

-- ---- the words once an event was answered

module _ (n number : ℕ) (n-is : n ≡ number) (ws : List ℕ) (c : Controller) where
  pub stored : n ≡ 0 → (xs : List ℕ) → xs ≡ state_words c → xs ≡ words_after number ws c
  unfolding words_after
  stored e xs f = eq_yes number 0 xs (state_words c) ws (sym n-is ∙ e) f

  pub not_stored : (n ≡ 0 → ⊥) → ws ≡ words_after number ws c
  unfolding words_after
  not_stored h = eq_no number 0 ws (state_words c) ws (λ e. h (n-is ∙ e)) refl

-- ---- the state that the words are

unpacked_good : (ws : List ℕ) → (unpacked ws).good ≡ words_ok ws
unfolding unpacked
unpacked_good ws = so_both (λ (u : Unpacked). u.good ≡ words_ok ws) (words_ok ws) _ _ (λ e. sym e) (λ e. sym e)

pub unpacked_state : (ws : List ℕ) → words_ok ws ≡ true → (unpacked ws).state ≡ state_from ws
unfolding unpacked
unpacked_state ws ok = ap (λ (u : Unpacked). u.state) (sym (so_yes (words_ok ws) _ _ _ ok refl))

-- an answer kept beside the lent words is the event's answer packed
kept_packed :
    (ws : List ℕ) (x : Answered) (v : Verdict) (c : Controller) (gs : List ℕ) (s : Memory) (u : List ℕ)
    → answered (number_of v) c gs s u ≡ x → (n : ℕ) (xs : List ℕ) →
    (n ≡ number_of v) × (xs ≡ words_after n ws c) → called n xs gs s u ≡ packed ws x
kept_packed ws x v c gs s u e n xs k = rw (k.1, k.0) (ap (packed ws) e)

module _ (ws : List ℕ) (given : Unpacked) (given_is : given ≡ unpacked ws) where
  good_is : given.good ≡ words_ok ws
  good_is = ap (λ (u : Unpacked). u.good) given_is ∙ unpacked_good ws

  module _ (bad : not given.good ≡ true) where
    pub not_ok : words_ok ws ≡ false
    not_ok = sym good_is ∙ not-true given.good bad

    -- words that are no state's: 2, whatever the event
    pub no_state : (e : Event) (fs : List ℕ) (r : Memory) (t : List ℕ) → called 2 ws fs r t ≡ on_event_words e ws fs r t
    unfolding on_event_words
    no_state e fs r t = so_no (words_ok ws) _ _ _ not_ok refl

  module _ (good : not given.good ≡ false) where
    pub ok : words_ok ws ≡ true
    ok = sym good_is ∙ not-false given.good good

    pub words_long : length ws ≡ word_count
    words_long = (words_facts ws ok).long

    pub state_is : given.state ≡ state_from ws
    state_is = ap (λ (u : Unpacked). u.state) given_is ∙ unpacked_state ws ok

    -- the event's answer, kept
    pub event_on :
        (e : Event) (fs : List ℕ) (r : Memory) (t : List ℕ) (n : ℕ) (c : Controller) (gs : List ℕ) (s : Memory) (u : List ℕ)
        → saying n c gs s u ≡ once_of e (context given.state fs r t) →
        (xs : List ℕ) → xs ≡ words_after (n % 2 ^ 32) ws c → called n xs gs s u ≡ on_event_words e ws fs r t
    unfolding on_event_words
    event_on e fs r t n c gs s u q xs k =
        so_yes (words_ok ws) _ _ _ ok (rw k (ap (packed_word ws) (q ∙ ap (λ (d : Controller). once_of e (context d fs r t)) state_is)))

-- ---- setting up, by the tests in their order

module _ (ns : List ℕ) (psn off : ℕ) (evs : ℕ) (ws fs : List ℕ) (r : Memory) (t : List ℕ) where
  pub few_settings : (length ns ≡ settings_count → ⊥) → called 2 ws fs r t ≡ on_set_up_words ns psn off evs ws fs r t
  unfolding on_set_up_words
  few_settings h = so_no _ _ _ _ (ne_eqb (length ns) settings_count h) refl

  module _
      (enough : length ns ≡ settings_count) (g : Settings) (g-is : g ≡ settings_from ns psn off evs) (range : Bool)
      (range-is : range ≡ in_range g)
    where
      range_same : in_range (settings_from ns psn off evs) ≡ range
      range_same = sym (range-is ∙ ap in_range g-is)

      pub out_of_range : not range ≡ true → called 1 ws fs r t ≡ on_set_up_words ns psn off evs ws fs r t
      unfolding on_set_up_words
      out_of_range e = so_yes _ _ _ _ (eq-eqb (length ns) settings_count enough) (so_no _ _ _ _ (range_same ∙ not-true range e) refl)

      module _ (in-range : not range ≡ false) where
        past_range :
            (x : Called)
            → x ≡ if_so (eqb (length ws) word_count) (packed ws (on_set_up (settings_from ns psn off evs) fs r t)) (called 2 ws fs r t) →
            x ≡ on_set_up_words ns psn off evs ws fs r t
        unfolding on_set_up_words
        past_range x e =
            so_yes _ _ _ _ (eq-eqb (length ns) settings_count enough) (so_yes _ _ _ _ (range_same ∙ not-false range in-range) e)

        pub wrong_words : (length ws ≡ word_count → ⊥) → called 2 ws fs r t ≡ on_set_up_words ns psn off evs ws fs r t
        wrong_words h = past_range _ (so_no _ _ _ _ (ne_eqb (length ws) word_count h) refl)

        pub set_up_on :
            length ws ≡ word_count → (v : Verdict) (c : Controller) (gs : List ℕ) (s : Memory) (u : List ℕ)
            → answered (number_of v) c gs s u ≡ on_set_up g fs r t →
            (n : ℕ) (xs : List ℕ) → (n ≡ number_of v) × (xs ≡ words_after n ws c) →
            called n xs gs s u ≡ on_set_up_words ns psn off evs ws fs r t
        set_up_on h v c gs s u e n xs k =
            past_range _
            (so_yes _ _ _ _ (eq-eqb (length ws) word_count h)
            (kept_packed ws _ v c gs s u (e ∙ ap (λ (x : Settings). on_set_up x fs r t) g-is) n xs k))
