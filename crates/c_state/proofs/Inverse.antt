-- READING WORDS AND WRITING A STATE ARE INVERSE: words that are a state's are written back as they were (`pack_unpack`), and a state that
-- the machine can hold is read back as it was (`unpack_pack`); that of a context that passes number 2 is such a state (`sound_machine`).
-- Assumes nothing.
use mathlib.Core.Path.{◌≡◌, refl, sym, ◌∙◌}
use mathlib.Core.Bool.{true}
use mathlib.Core.List.{List}
use Prim.Native.Nat.{ℕ}
use native.Mathlib.Omega.{arith}
use lib.ListN.{length}
use lib.Seq.{ext_get_or}
use Rattle.ledger.specs.Ring.{tabulate}
use Rattle.ledger.proofs.Signs.{sound_ledger_flown}
use Rattle.ledger.proofs.Walks.{length_tabulate, get_d_tabulate}
use Rattle.sender.proofs.Sounds.{holds_ledger, holds_bounded, phase_high}
use Rattle.context.specs.Context.{Context, joined_of, world_at}
use Rattle.context.specs.Sound.{sound_context}
use Rattle.context.specs.declared.Controller.{Controller}
use Rattle.context.proofs.Sounds.{context_facts, one_holds}
use Rattle.c_state.specs.Places as place
use Rattle.c_state.specs.Layout.{word_count, state_words, word}
use Rattle.c_state.specs.Layout.{settings_from, totals_from, window_from, state_from, words_ok}
use Rattle.c_state.specs.Statements.{WordsFacts, Machine}
use Rattle.c_state.proofs.Checked.{words_facts, facts_words}
use Rattle.c_state.proofs.InFlight.{word_most_lem, word_back, back_word}

-- ---- words to a state and back

-- a list is its words
spelled : (ws : List ℕ) (n : ℕ) → length ws ≡ n → tabulate (λ i. word ws i) n ≡ ws
spelled ws n e =
    let long = length_tabulate (λ i. word ws i) n in
    ext_get_or 0 (tabulate (λ i. word ws i) n) ws (long ∙ sym e) (λ i h. get_d_tabulate (λ k. word ws k) 0 n i (omega arith))

pub pack_unpack : (ws : List ℕ) → words_ok ws ≡ true → state_words (state_from ws) ≡ ws
unfolding state_words state_from settings_from totals_from window_from tabulate
pack_unpack ws ok =
    let W = words_facts ws ok in
    rw (back_word (word ws place.in_flight) W.in_flight) (spelled ws word_count W.long)

-- ---- a state to words and back

-- a state has 38 words
pub long : (c : Controller) → length (state_words c) ≡ word_count
unfolding state_words
long c = refl

module _ (c : Controller) (M : Machine c) where
  machine_facts : WordsFacts (state_words c)
  unfolding state_words
  machine_facts =
      record {
        long = refl;
        first_psn = M.first_psn;
        quick_adapt_off = M.quick_adapt_off;
        flying = M.flying;
        marked = M.marked;
        in_flight = word_most_lem c.totals.in_flight M.flown;
        fast = M.fast;
        trigger = M.trigger;
        cursor = M.cursor;
        phase = M.phase;
      }

  state_back : state_from (state_words c) ≡ c
  unfolding state_words state_from settings_from totals_from window_from
  state_back = rw (word_back c.totals.in_flight M.flown)

  pub unpack_pack : (words_ok (state_words c) ≡ true) × (state_from (state_words c) ≡ c)
  unpack_pack = (facts_words (state_words c) machine_facts, state_back)

-- THE STATE OF A CONTEXT THAT PASSES NUMBER 2 is one that the machine can hold: its totals are in the bounds that any flow's step relies
-- on, and there is a flow
pub sound_machine : (x : Context) → sound_context x ≡ true → Machine x.state
unfolding world_at joined_of
sound_machine x e =
    let S = context_facts x e in
    let H = one_holds x S 0 S.table.some in
    let C = holds_ledger (world_at 0 x) H in
    record {
      first_psn = S.range.psn_high;
      quick_adapt_off = omega (arith, S.range.off_high);
      flying = omega (arith, C.flying_most);
      marked = omega (arith, C.marked_most);
      fast = omega (arith, S.sound_window_lem.fast_high);
      trigger = omega (arith, S.sound_window_lem.trigger_high);
      cursor = omega (arith, S.cursor_ok, (holds_bounded (world_at 0 x) H).evs_high);
      phase = rw S.named (omega (arith, phase_high x.state.settings.mtu x.state.window.cwnd x.state.totals));
      flown = sound_ledger_flown C;
    }
