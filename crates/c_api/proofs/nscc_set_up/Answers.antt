-- `nscc_set_up` makes the tests of `on_set_up_words` in their order; then the answer is setting up's, kept.
use mathlib.Core.Path.{◌≡◌, ap, ◌∙◌}
use Prim.Native.Nat.{ℕ}
use Rattle.rules.specs.Mode.{mode_of}
use Rattle.c_state.specs.Layout.{settings_from}
use Rattle.c_api.proofs.Answers.{few_settings, out_of_range, wrong_words, set_up_on}
use mathlib.Core.Bool.{not}
use Rattle.c_api.proofs.nscc_set_up.Goals as goal
use Rattle.c_api.proofs.nscc_set_up.Goals.{After-settings_of-given}

-- the settings that were handed in, the mode by the flag
given : (c : After-settings_of-given) → let a = c.args in
    c.settings_of-given.result ≡ settings_from a.settings.now a.first_psn (mode_of a.quick_adapt_off) a.ev_count
given c =
    let a = c.args in
    c.settings_of-given.ensures
    ∙ ap (λ (off : ℕ). settings_from a.settings.now a.first_psn off a.ev_count) c.mode_of-off.ensures

pub returns-then-settings-ne-SETTINGS : goal.returns-then-settings-ne-SETTINGS
returns-then-settings-ne-SETTINGS c = few_settings _ _ _ _ _ _ _ _ c.if-settings-ne-SETTINGS.true

pub returns-then-not-in_range : goal.returns-then-not-in_range
returns-then-not-in_range c =
    out_of_range _ _ _ _ _ _ _ _ c.if-settings-ne-SETTINGS.false _ (given (goal.at.returns-then-not-in_range c).After-settings_of-given) _
    c.in_range.ensures (ap not c.if-not-in_range.true)

pub returns-then-state-ne-WORDS : goal.returns-then-state-ne-WORDS
returns-then-state-ne-WORDS c =
    wrong_words _ _ _ _ _ _ _ _ c.if-settings-ne-SETTINGS.false _ (given (goal.at.returns-then-state-ne-WORDS c).After-settings_of-given) _
    c.in_range.ensures (ap not c.if-not-in_range.false) c.if-state-ne-WORDS.true

pub returns : goal.returns
returns c =
    set_up_on _ _ _ _ _ _ _ _ c.if-settings-ne-SETTINGS.false _ (given (goal.at.returns c).After-settings_of-given) _
    c.in_range.ensures (ap not c.if-not-in_range.false) c.if-state-ne-WORDS.false
    _ _ _ _ _ c.set_up-answer.ensures _ _ (c.number_of-number.ensures, c.keep.ensures)
