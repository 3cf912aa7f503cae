-- `max_wnd` answers max_wnd, by its definition; the product on the way fits.
use native.Mathlib.Omega.{arith}
use Rattle.window.specs.Limits.{max_wnd_of}
use Rattle.window.proofs.MaxWnd.{max_wnd_fits}
use Rattle.window.proofs.bounds.max_wnd.Goals as goal

pub overflow_mul-s : goal.overflow_mul-s
overflow_mul-s c = omega (arith, max_wnd_fits c.requires.in_range c.args.base c.requires.base_bound)

pub returns : goal.returns
unfolding max_wnd_of
returns c = c.most.ensures
