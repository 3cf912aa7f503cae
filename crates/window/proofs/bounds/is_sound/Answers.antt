-- `is_sound` tests every bound, by what `within` tests; the base first, which bounds max_wnd.
use mathlib.Core.Path.{sym, ◌∙◌}
use Rattle.rules.specs.Test.{inside_tells}
use Rattle.window.specs.Sound.{sound_window}
use Rattle.window.proofs.bounds.is_sound.Goals as goal

pub returns-then-not-within : goal.returns-then-not-within
unfolding sound_window
returns-then-not-within c = rw (sym c.within.ensures ∙ c.if-not-within.true)

pub max_wnd-requires : goal.max_wnd-requires
max_wnd-requires c = record {
  in_range = c.requires;
  base_bound = (inside_tells _ _ _ (sym c.within.ensures ∙ c.if-not-within.false)).1;
}

pub returns : goal.returns
unfolding sound_window
returns c =
    rw (
      c.is_mode-2.ensures,
      c.is_mode.ensures,
      c.within-12.ensures,
      c.within-11.ensures,
      c.within-10.ensures,
      c.within-9.ensures,
      c.within-8.ensures,
      c.within-7.ensures,
      c.within-6.ensures,
      c.within-5.ensures,
      c.within-4.ensures,
      c.within-3.ensures,
      c.within-2.ensures,
      c.max_wnd.ensures,
      sym c.within.ensures ∙ c.if-not-within.false,
    )
